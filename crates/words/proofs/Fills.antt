-- A lent list written from a position on.
-- `filled_by_none`: nothing written leaves the list and the position. `filled_by_one`: one element.
-- `filled_in_turn`: two runs, one after the other, are one.
-- `filled_length`: the list keeps its length.
-- `sets_from_start`: a run from the list's start on stands before the list's later elements.
-- `filled_part`: a part of a list that is given a run's elements is filled by the run.
use mathlib.Core.List.{List, [], ◌∷◌, ◌++◌}
use mathlib.Core.Path.{◌≡◌, refl, sym, ap, ◌∙◌}
use Prim.Native.Nat.{ℕ, suc, ◌+◌, ◌≤◌}
use native.Mathlib.Nat.{zero-add, add-zero, add-suc, suc-add}
use native.Mathlib.Omega.{arith}
use borrow.Rule.Slice.PartMut.{put_mid}
use lib.ListN.{length, set, take, drop, length-append}
use lib.Seq.{sets, sets-eq, length-sets}
use Rattle.std.proofs.lemmas.List.{append_assoc, drop-drop}
use Rattle.words.specs.Filled.{Filled, HasRoom}

-- stores of two runs, one after the other
sets_append : (l : List ℕ) (at : ℕ) (xs ys : List ℕ)
    → sets l at (xs ++ ys) ≡ sets (sets l at xs) (at + length xs) ys
sets_append l at [] ys = rw add-zero
sets_append l at (x ∷ xs) ys = sets_append (set l at x) (suc at) xs ys ∙ rw (suc-add, add-suc)

-- Nothing written leaves the list and the position.
pub filled_by_none : (run before : List ℕ) (at : ℕ) → run ≡ [] → Filled run before at before at
filled_by_none run before at e = record { list = rw e; end = rw e (omega arith) }

-- One element.
pub filled_by_one : (before after : List ℕ) (at x next : ℕ) → after ≡ set before at x → next ≡ at + 1
    → Filled (x ∷ []) before at after next
filled_by_one before after at x next put e = record { list = put; end = e }

-- Two runs, one after the other, are one.
pub filled_in_turn : (xs ys before between after : List ℕ) (at middle next : ℕ)
    → Filled xs before at between middle → Filled ys between middle after next
    → Filled (xs ++ ys) before at after next
filled_in_turn xs ys before between after at middle next first second =
    let count = length-append xs ys in
    record {
      list = second.list ∙ rw (first.list, first.end) (sym (sets_append before at xs ys));
      end = omega arith;
    }

-- The list keeps its length.
pub filled_length : {run before after : List ℕ} {at next : ℕ} → Filled run before at after next
    → length after ≡ length before
filled_length {run} {before} {after} {at} filled = ap length filled.list ∙ length-sets before at run

-- A run from the list's start on stands before the list's later elements.
pub sets_from_start : (l run : List ℕ) → length run ≤ length l → sets l 0 run ≡ run ++ drop (length run) l
sets_from_start l run h = sets-eq run l 0 (omega arith) ∙ rw zero-add

-- A part of a list that is given a run's elements is filled by the run.
pub filled_part : (run before part : List ℕ) (at count : ℕ) → HasRoom run at before → count ≡ length run → part ≡ run
    → Filled run before at (put_mid at count before part) (at + length run)
filled_part run before part at count room all is =
    record {
      list =
          rw (is, all)
          (ap (λ (rest : List ℕ). take at before ++ (run ++ rest)) (drop-drop (length run) at before)
          ∙ sym (append_assoc (take at before) run _) ∙ sym (sets-eq run before at room));
      end = refl;
    }
