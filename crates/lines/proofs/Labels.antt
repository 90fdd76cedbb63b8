-- The label at the front of a text.
--     label_within  it is no longer than the text
--     front_taken   its bytes are the front of its length
--     rest_left     what comes after it is the rest from its length on
use Rattle.std.proofs.Common.{◌≡◌, refl, ap, Bool, true, false, cond, List, [], ◌∷◌, ℕ, suc, ◌+◌, ◌≤◌}
use Rattle.std.proofs.Common.{length, take, drop, arith}
use Rattle.std.specs.List.{prefix_len}
use Rattle.lines.specs.Commands.{is_label_byte, label_at_front, after_label}

module _ (byte : ℕ) (more : List ℕ) where
  within_by : (test : Bool) → prefix_len is_label_byte more ≤ length more
      → cond test (1 + prefix_len is_label_byte more) 0 ≤ length (byte ∷ more)
  within_by true within = omega arith
  within_by false within = omega arith

  one_more : 1 + prefix_len is_label_byte more ≡ suc (prefix_len is_label_byte more)
  one_more = omega arith

  front_by : (test : Bool) → take (prefix_len is_label_byte more) more ≡ label_at_front more
      → take (cond test (1 + prefix_len is_label_byte more) 0) (byte ∷ more)
      ≡ cond test (byte ∷ label_at_front more) []
  front_by true same = rw one_more (ap {B = List ℕ} (λ l. byte ∷ l) same)
  front_by false same = refl

  rest_by : (test : Bool) → drop (prefix_len is_label_byte more) more ≡ after_label more
      → drop (cond test (1 + prefix_len is_label_byte more) 0) (byte ∷ more)
      ≡ cond test (after_label more) (byte ∷ more)
  rest_by true same = rw one_more same
  rest_by false same = refl

-- it is no longer than the text
pub label_within : (text : List ℕ) → prefix_len is_label_byte text ≤ length text
label_within [] = omega arith
label_within (byte ∷ more) = within_by byte more (is_label_byte byte) (label_within more)

-- its bytes are the front of its length
pub front_taken : (text : List ℕ) → take (prefix_len is_label_byte text) text ≡ label_at_front text
front_taken [] = refl
front_taken (byte ∷ more) = front_by byte more (is_label_byte byte) (front_taken more)

-- what comes after it is the rest from its length on
pub rest_left : (text : List ℕ) → drop (prefix_len is_label_byte text) text ≡ after_label text
rest_left [] = refl
rest_left (byte ∷ more) = rest_by byte more (is_label_byte byte) (rest_left more)

-- what `split_label` needs
pub ruleset label_laws = (label_within, front_taken, rest_left)
