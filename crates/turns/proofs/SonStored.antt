-- A new near son is one link stored.
-- `left_stored`, `right_stored`: where the near side is the left one, and where it is the right one.
use mathlib.Core.Bool.{Bool, true, false}
use mathlib.Core.List.{List}
use mathlib.Core.Path.{◌≡◌, sym}
use Prim.Native.Nat.{ℕ, ◌+◌}
use lib.ListN.{set}
use Rattle.tables.specs.Words.{slot_start, row_at}
use Rattle.words.proofs.OneWord.{put_left, put_right}
use Rattle.sides.specs.Rows.{flipped}
use Rattle.sides.proofs.Mirrors.{mirrored_twice}
use Rattle.turns.specs.Turns.{with_son}

module _ (table after : List ℕ) (flip : Bool) (c son base : ℕ) (start : base ≡ slot_start c) where
  pub left_stored : flip ≡ false → after ≡ set table base son → after ≡ with_son flip table c son
  unfolding with_son flipped
  left_stored is stored = rw (is, stored, start) (sym (put_left table c son))

  pub right_stored : flip ≡ true → after ≡ set table (base + 1) son → after ≡ with_son flip table c son
  unfolding with_son flipped
  right_stored is stored =
      rw (is, stored, start, mirrored_twice (row_at table c).balance) (sym (put_right table c son))
