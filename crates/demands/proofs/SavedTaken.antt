-- Saved files are taken.
-- saved_file_taken: the file of a sound table, of words of 16 bits, is taken, and holds the labels and values of its
-- map.
use mathlib.Core.Bool.{true}
use mathlib.Core.List.{List, [], ◌∷◌, map-map}
use mathlib.Core.Path.{◌≡◌, refl}
use Prim.Native.Nat.{ℕ, ◌≤◌}
use native.Mathlib.Omega.{arith}
use lib.ListN.{length, get_or, length-map}
use Rattle.types.specs.declared.Limits.{Limits}
use Rattle.labels.specs.Labels.{Label, compare_labels}
use Rattle.labels.specs.Neighbours.{none_below, none_above}
use Rattle.trees.specs.Trees.{labels}
use Rattle.trees.specs.Heights.{Deepest}
use Rattle.trees.specs.Plain.{State}
use Rattle.trees.specs.Map.{Pair, map_of}
use Rattle.trees.specs.Valid.{Valid, below_first, ascends}
use Rattle.trees.proofs.Views.{both_true}
use Rattle.trees.proofs.MapLists.{keys}
use Rattle.trees.proofs.MapLaws.{keys_of_map}
use Rattle.trees.proofs.MapKept.{Fits, fits_none, fits_more, fits_of_test}
use Rattle.tables.specs.Written.{Memory, written, written_table}
use Rattle.tables.specs.Claims.{Sound}
use Rattle.tables.specs.MapClaims.{map_in}
use Rattle.written.proofs.Readings.{size_within}
use Rattle.written.proofs.Slots.{written_represents}
use Rattle.files.specs.Files.{file_of, largest_word}
use Rattle.files.specs.Saves.{file_in}
use Rattle.files.specs.FileReads.{read_file, holds, filed}
use Rattle.files.proofs.FileLaws.{FitIn, fit_pair, file_alone}
use Rattle.files.proofs.FileReadLaws.{Filed, filed_none, filed_more, read_file_of}
use Rattle.demands.specs.Loads.{filed_pairs}
use Rattle.demands.proofs.OnSound.{count_of_map, of_sound, map_of_written}
use Rattle.demands.proofs.FileSizes.{fit_read}

-- The file of pairs does not say their charges.
file_of_filed : (pairs : List Pair) → file_of (filed_pairs pairs) ≡ file_of pairs
file_of_filed pairs =
    file_alone (filed_pairs pairs) pairs
    (map-map (λ p. p.label) (λ p. filed p.label p.value) pairs)
    (map-map (λ p. p.value) (λ p. filed p.label p.value) pairs)

-- The empty label is below the first of labels that fit.
empty_below : {width : ℕ} {list : List Label} → Fits width list → below_first [] list ≡ true
unfolding compare_labels
empty_below fits_none = refl
empty_below (fits_more {x = []} some short rest) = absurd (omega arith)
empty_below (fits_more {x = byte ∷ x} some short rest) = refl

-- Ascending pairs with labels that fit and words for values are as a file has them.
filed_of_fit : (limits : Limits) (before : Label) (pairs : List Pair) → below_first before (keys pairs) ≡ true
    → ascends (keys pairs) ≡ true → Fits limits.width (keys pairs) → FitIn limits.width pairs
    → Filed limits before (filed_pairs pairs)
filed_of_fit limits before [] below ascending fits fit = filed_none
filed_of_fit limits before (p ∷ more) below ascending (fits_more some short rest) (fit_pair shorter word others) =
    let parts = (both_true (below_first p.label (keys more)) (ascends (keys more))).0 ascending in
    filed_more p.label p.value below (record { some = some; short = short }) word
    (filed_of_fit limits p.label more parts.0 parts.1 rest others)

module _ (limits : Limits) (deepest : Deepest limits.slots limits.depth) where
  -- The file of a valid state written out in words of 16 bits is taken.
  taken_out : (s : State) → Valid limits.slots limits.width s
      → ((i : ℕ) → get_or (written_table limits s) i 0 ≤ largest_word)
      → read_file limits (file_in limits (written limits s)) ≡ holds (filed_pairs (map_in limits (written limits s)))
  taken_out s valid words =
      let pairs = map_of s.tree in
      let fits : Fits limits.width (keys pairs) =
      rw keys_of_map (fits_of_test limits.width (labels s.tree) valid.fitting) in
      let few : length (filed_pairs pairs) ≤ limits.slots =
      rw (length-map pairs (λ p. filed p.label p.value), count_of_map s) (size_within limits s valid) in
      rw (map_of_written limits deepest s valid, ← file_of_filed pairs)
      (read_file_of limits (filed_pairs pairs) few
      (filed_of_fit limits [] pairs (empty_below fits) (rw keys_of_map valid.ascending) fits
      (fit_read limits (written limits s) words none_below none_above s.tree (written_represents limits s valid))))

  -- The file of a sound table of words of 16 bits is taken, and holds the labels and values of its map.
  pub saved_file_taken : (m : Memory) → Sound limits m → ((i : ℕ) → get_or m.table i 0 ≤ largest_word)
      → read_file limits (file_in limits m) ≡ holds (filed_pairs (map_in limits m))
  saved_file_taken m sound words =
      of_sound limits deepest
      (λ m. ((i : ℕ) → get_or m.table i 0 ≤ largest_word)
      → read_file limits (file_in limits m) ≡ holds (filed_pairs (map_in limits m)))
      taken_out m sound words
