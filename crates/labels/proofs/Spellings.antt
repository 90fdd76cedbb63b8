-- A comparison reads nothing but the numbers of the sought label.
-- `compare_alike`, `compare_from_alike`: labels that are alike compare alike with any other, from any place on.
use mathlib.Core.List.{[], ◌∷◌}
use mathlib.Core.Path.{◌≡◌, refl}
use Prim.Native.Nat.{ℕ, zero, suc, ◌-◌}
use lib.ListN.{drop}
use Rattle.labels.specs.Labels.{Label, Alike, compare_at, compare_labels, compare_from}
use Rattle.labels.specs.Letters.{Respelled, none_left, next_letter}
use Rattle.labels.proofs.Letters.{letter_number, alike_is_respelled}

-- two spellings compare alike
compare_respelled : {x y : Label} → Respelled x y → (z : Label) (i : ℕ) → compare_at i x z ≡ compare_at i y z
compare_respelled none_left z i = refl
compare_respelled (next_letter letter rest) [] i = refl
compare_respelled (next_letter {a} {b} letter rest) (c ∷ z) i =
    rw (letter_number letter, compare_respelled rest z (suc i))

-- so do their ends
drop_respelled : {x y : Label} → Respelled x y → (n : ℕ) → Respelled (drop n x) (drop n y)
drop_respelled spelt zero = spelt
drop_respelled none_left (suc n) = none_left
drop_respelled (next_letter letter rest) (suc n) = drop_respelled rest n

module _ {x y : Label} (alike : Alike x y) (z : Label) where
  pub compare_alike : compare_labels x z ≡ compare_labels y z
  unfolding compare_labels
  compare_alike = compare_respelled (alike_is_respelled.respelled x y alike) z 1

  pub compare_from_alike : (d : ℕ) → compare_from d x z ≡ compare_from d y z
  unfolding compare_from
  compare_from_alike d =
      compare_respelled (drop_respelled (alike_is_respelled.respelled x y alike) (d - 1)) (drop (d - 1) z) d
