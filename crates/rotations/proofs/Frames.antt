-- What stays when a row is stored, and the trees that stand in rows that stay.
-- `own_slot`, `other_slot`: how a slot counts in a list of one slot.
-- `frame_none`, `frame_put`: a store at a touched slot keeps the frame.
-- `frame_wider`: more slots may count as touched. `frame_then`: one update after another.
-- `has_framed`: the slots that have a row stay.
-- `rep_framed`: a tree none of whose slots is touched stays.
use mathlib.Core.Path.{◌≡◌, refl, ap, ◌∙◌}
use mathlib.Core.Logic.{◌≢◌}
use mathlib.Core.List.{List}
use Prim.Native.Nat.{ℕ, ◌+◌, ◌≤◌, ◌<◌}
use native.Mathlib.Omega.{arith}
use lib.Dec.{eqb}
use lib.ListN.{get_or}
use lib.Seq.{get_or-set_other}
use borrow.Author.Tests.{eq-eqb}
use Rattle.types.specs.declared.Row.{Row}
use Rattle.labels.specs.Neighbours.{Neighbour, held}
use Rattle.trees.specs.Trees.{Tree, empty, node, slots}
use Rattle.trees.specs.Valid.{one_if, occurrences}
use Rattle.trees.proofs.SlotCounts.{occurrences_of_node}
use Rattle.tables.specs.Words.{slot_start}
use Rattle.words.specs.Rows.{put_row, HasRow}
use Rattle.words.proofs.Laws.{length_put_row, row_put_other}
use Rattle.rotations.proofs.Rep.{Rep, Frame}

-- A slot counts itself.
pub own_slot : (k : ℕ) → one_if (eqb k k) ≡ 1
own_slot k = ap one_if (eq-eqb k k refl)

-- A slot that is not counted is another.
pub other_slot : (k j : ℕ) → one_if (eqb k j) ≡ 0 → k ≢ j
other_slot k j none equal = omega (arith, ap one_if (eq-eqb k j equal))

-- The first four words are in no slot.
header_of_put : (table : List ℕ) (k i : ℕ) (row : Row) → i < 4 → get_or (put_row table k row) i 0 ≡ get_or table i 0
unfolding put_row
header_of_put table k i row low =
    let b = slot_start k in
    let n0 : i ≢ b = omega arith in
    let n1 : i ≢ b + 1 = omega arith in
    let n2 : i ≢ b + 2 = omega arith in
    let n3 : i ≢ b + 3 = omega arith in
    let n4 : i ≢ b + 4 = omega arith in
    let n5 : i ≢ b + 5 = omega arith in
    let n6 : i ≢ b + 6 = omega arith in
    let n7 : i ≢ b + 7 = omega arith in
    simp get_or-set_other

-- What is not touched stays.
pub frame_none : (touched table : List ℕ) → Frame touched table table
frame_none touched table = record { words = refl; header = λ i low. refl; rows = λ k low out. refl }

-- A store at a touched slot keeps the frame.
pub frame_put : {touched before after : List ℕ} (k : ℕ) (row : Row) → Frame touched before after → 1 ≤ k
    → 1 ≤ occurrences k touched → Frame touched before (put_row after k row)
frame_put {touched} {before} {after} k row frame low touches =
    record {
      words = length_put_row after k row ∙ frame.words;
      header = λ i small. header_of_put after k i row small ∙ frame.header i small;
      rows = λ j from out. row_put_other after k j row low from (apart j out) ∙ frame.rows j from out;
    }
  where
    apart : (j : ℕ) → occurrences j touched ≡ 0 → j ≢ k
    apart j out equal = omega (arith, ap (λ i. occurrences i touched) equal)

-- More slots may count as touched.
pub frame_wider : {touched wider before after : List ℕ}
    → ((k : ℕ) → occurrences k wider ≡ 0 → occurrences k touched ≡ 0)
    → Frame touched before after → Frame wider before after
frame_wider within frame =
    record { words = frame.words; header = frame.header; rows = λ k low out. frame.rows k low (within k out) }

-- One update after another.
pub frame_then : {touched before middle after : List ℕ} → Frame touched before middle → Frame touched middle after
    → Frame touched before after
frame_then first second =
    record {
      words = second.words ∙ first.words;
      header = λ i small. second.header i small ∙ first.header i small;
      rows = λ k low out. second.rows k low out ∙ first.rows k low out;
    }

module _ {touched before after : List ℕ} (frame : Frame touched before after) where
  -- The slots that have a row stay.
  pub has_framed : {k : ℕ} → HasRow before k → HasRow after k
  has_framed has = record { low = has.low; high = rw frame.words has.high }

  -- A tree none of whose slots is touched stays.
  pub rep_framed : (p q : Neighbour) (t : Tree) → ((k : ℕ) → 1 ≤ occurrences k (slots t) → occurrences k touched ≡ 0)
      → Rep before p q t → Rep after p q t
  rep_framed p q empty apart rep = tt
  rep_framed p q (node l e r) apart rep =
      let here : 1 ≤ occurrences e.slot (slots (node l e r)) =
      omega (arith, own_slot e.slot, occurrences_of_node e.slot l e r) in (
        record {
          has = has_framed rep.0.has;
          row = frame.rows e.slot rep.0.has.low (apart e.slot here) ∙ rep.0.row;
        },
        rep_framed p (held e.label) l (λ k occurs. apart k (omega (arith, occurrences_of_node k l e r))) rep.1,
        rep_framed (held e.label) q r (λ k occurs. apart k (omega (arith, occurrences_of_node k l e r))) rep.2,
      )
