use Rattle.std.proofs.Common.{refl, arith}
use borrow.Author.Tests.{not-true, not-false}
use Rattle.nodes.proofs.Rows.{live, live_row, live_slot, son_of_row}
use Rattle.search.proofs.Moves.{Went, went_as, went_left, went_right, went_smaller, went_larger}
use Rattle.search.proofs.Moves.{ended_same, near_after}
use Rattle.search.proofs.Answers.{reached_root, reached_son, walk_halted, walk_found}
use Rattle.search.proofs.walks.walk.Goals as goal
use Rattle.search.proofs.walks.walk.Goals.{in-Left, in-Right, in-Compare+in-Less, in-Compare+in-Greater}

pub loop-ends-init : goal.loop-ends-init
loop-ends-init c = search reached_root

pub returns : goal.returns
returns c = search (walk_halted, not-false)

pub read_row-row-requires : goal.read_row-row-requires
read_row-row-requires c = search (live_row, not-true)

pub bounds-ends-side : goal.bounds-ends-side
bounds-ends-side c =
    let slot = live_slot _ _ _ _ _ c.halts.ensures c.loop-ends-test.true _ c.requires _ c.read_row-row.ensures in
    let side = slot.good.sided in
    omega arith

pub bounds-ends-side-in-loop-ends : goal.bounds-ends-side-in-loop-ends
bounds-ends-side-in-loop-ends c =
    let slot = live_slot _ _ _ _ _ c.halts.ensures c.loop-ends-test.true _ c.requires _ c.read_row-row.ensures in
    let side = slot.good.sided in
    omega arith

pub compare_row-c-requires : goal.compare_row-c-requires
compare_row-c-requires c = search (live_slot, not-true)

pub read_row-found-requires : goal.read_row-found-requires
read_row-found-requires c = search (live_row, not-true)

pub returns-in-Equal : goal.returns-in-Equal
returns-in-Equal c =
    let slot = live_slot _ _ _ _ _ c.halts.ensures c.loop-ends-test.true _ c.requires _ c.read_row-row.ensures in
    let found = ended_same _ _ _ _ _ c.loop-ends.places c.loop-ends.ends _ slot c.loop-ends.invariant.held
    c.of-turn.ensures c.in-Compare.is _ c.compare_row-c.ensures.result_value c.compare_row-c.ensures.at_place
    c.in-Equal.is in
    walk_found _ _ _ _ _ _ _ _ _ _ c.loop-ends.invariant _ c.halts.ensures c.loop-ends-test.true _
    c.read_row-row.ensures _ c.read_row-found.ensures _ _ _ found refl (omega arith)

pub son_at-link-requires : goal.son_at-link-requires
son_at-link-requires c = search (live_row, not-true)

pub overflow_sub-remaining : goal.overflow_sub-remaining
overflow_sub-remaining c = let room = (live _ _ _ _ _ c.halts.ensures c.loop-ends-test.true).room in omega arith

pub loop-ends-smaller : goal.loop-ends-smaller
loop-ends-smaller c = let room = (live _ _ _ _ _ c.halts.ensures c.loop-ends-test.true).room in omega arith

pub loop-ends-preserved : goal.loop-ends-preserved
loop-ends-preserved c =
    let slot = live_slot _ _ _ _ _ c.halts.ensures c.loop-ends-test.true _ c.requires _ c.read_row-row.ensures in
    let held = c.loop-ends.invariant.held in
    let turn = c.of-turn.ensures in
    let places = c.loop-ends.places in
    let ends = c.loop-ends.ends in
    let went : Went c.args.limits c.args.store.now c.args.label.now c.loop-ends.link c.read_row-row.result
    c.loop-ends.ends c.loop-ends.places c.match-turn.right c.match-turn.ends c.match-turn.places =
    elim c.match-turn.branch [
      | in-Left w ↦ went_as _ _ _ w.right-is w.ends-is w.places-is
          (went_left _ _ _ _ _ places ends _ slot held turn w.in-Left.is)
      | in-Right w ↦ went_as _ _ _ w.right-is w.ends-is w.places-is
          (went_right _ _ _ _ _ places ends _ slot held turn w.in-Right.is)
      | in-Compare+in-Less w ↦ let sum = w.places-is in went_as _ _ _ w.right-is w.ends-is (omega arith)
          (went_smaller _ _ _ _ _ places ends _ slot held turn w.in-Compare.is _ w.compare_row-c.ensures.result_value
          w.compare_row-c.ensures.at_place w.in-Less.is)
      | in-Compare+in-Greater w ↦ let sum = w.places-is in went_as _ _ _ w.right-is w.ends-is (omega arith)
          (went_larger _ _ _ _ _ places ends _ slot held turn w.in-Compare.is _ w.compare_row-c.ensures.result_value
          w.compare_row-c.ensures.at_place w.in-Greater.is)
    ] in
    reached_son _ _ _ _ _ _ _ _ _ _ c.loop-ends.invariant _ c.halts.ensures c.loop-ends-test.true _
    c.read_row-row.ensures _ _ _ _ _ (son_of_row _ _ _ _ c.read_row-row.ensures c.son_at-link.ensures) went
    (near_after _ _ _ _ c.from.ensures c.loop-ends.invariant.two)
