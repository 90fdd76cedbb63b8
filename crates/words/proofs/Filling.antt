-- A run that is written element by element: what is left of it, at the next position, is the whole of it at the first.
-- `left_all`: before the first element. `left_less`: after one more. `left_none`: after the last.
-- `left_room`: there is room for what is left. `drop_one`: an element is left, and those after it.
use mathlib.Core.List.{List, [], ◌∷◌}
use mathlib.Core.Path.{◌≡◌, refl, sym, ap, ◌∙◌}
use Prim.Native.Nat.{ℕ, suc, ◌+◌, ◌<◌}
use native.Mathlib.Numerals.{add-one}
use native.Mathlib.Omega.{arith}
use lib.ListN.{length, get_or, drop, set, length-set}
use lib.Seq.{sets, drop-cons}
use Rattle.words.specs.Filled.{Filled, HasRoom}

-- of a whole to be written into a list from a position on, a run is left, for the list as it is and the next position
pub record Left (whole before : List ℕ) (at : ℕ) (run list : List ℕ) (next : ℕ) : Type 0 where
  pub list_left : sets list next run ≡ sets before at whole
  pub end_left : next + length run ≡ at + length whole
  pub same_length : length list ≡ length before

-- Before the first element.
pub left_all : (whole before : List ℕ) (at : ℕ) → Left whole before at whole before at
left_all whole before at = record { list_left = refl; end_left = refl; same_length = refl }

module _ {whole before : List ℕ} {at : ℕ} {list : List ℕ} {next : ℕ} where
  -- After one more.
  pub left_less : (run more : List ℕ) (x : ℕ) → Left whole before at run list next → run ≡ x ∷ more
      → Left whole before at more (set list next x) (next + 1)
  left_less run more x left is =
      let count : length run ≡ suc (length more) = ap length is in
      record {
        list_left = rw add-one (ap (sets list next) (sym is) ∙ left.list_left);
        end_left = omega (arith, left.end_left);
        same_length = length-set list next x ∙ left.same_length;
      }

  -- After the last.
  pub left_none : (run : List ℕ) → Left whole before at run list next → run ≡ [] → Filled whole before at list next
  left_none run left is =
      let count : length run ≡ 0 = ap length is in
      record {
        list = ap (sets list next) (sym is) ∙ left.list_left;
        end = omega (arith, left.end_left);
      }

  -- There is room for what is left.
  pub left_room : (run : List ℕ) → Left whole before at run list next → HasRoom whole at before
      → HasRoom run next list
  left_room run left room = omega (arith, left.end_left, left.same_length)

-- An element is left, and those after it.
pub drop_one : (run : List ℕ) (i : ℕ) → i < length run → drop i run ≡ get_or run i 0 ∷ drop (i + 1) run
drop_one run i below = rw (add-one, drop-cons run i 0)
