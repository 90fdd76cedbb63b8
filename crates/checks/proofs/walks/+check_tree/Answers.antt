use Rattle.std.proofs.Common.{◌≡◌, ℕ, ◌-◌, Some, arith, ◌∙◌, sym, ap}
use Rattle.checks.specs.Check.{check_tree}
use Rattle.checks.proofs.TreeLaws.{tree_none, tree_deep}
use Rattle.checks.proofs.SonLaws.{tree_outside, tree_wrong, window_left, window_right}
use Rattle.checks.proofs.SonLaws.{tree_left_unsound, tree_right_unsound, tree_over, tree_sons_fit}
use Rattle.checks.proofs.walks.+check_tree.Goals as goal
use Rattle.checks.proofs.walks.+check_tree.Goals.{then-remaining-eq0-via-then-remaining-eq0, then-remaining-eq0-via-else-remaining-eq0+then-limits-link}
use Rattle.checks.proofs.walks.+check_tree.Goals.{Joined-row-ne0, then-row-ne0+in_ok-left, else-row-ne0}
use Rattle.checks.proofs.walks.+check_tree.Goals.{Joined-row-ne0-2, then-row-ne0-2+in_ok-right, else-row-ne0-2}

pub returns-then-link-eq0 : goal.returns-then-link-eq0
returns-then-link-eq0 t c = tree_none _ _ _ _ _ _ _ c.if-link-eq0.true

pub returns-then-remaining-eq0 : goal.returns-then-remaining-eq0
returns-then-remaining-eq0 t c =
    elim c.then-remaining-eq0.branch [
      | then-remaining-eq0-via-then-remaining-eq0 w ↦ search tree_deep
      | then-remaining-eq0-via-else-remaining-eq0+then-limits-link w ↦ search tree_outside
    ]

pub returns-in_err-gaps : goal.returns-in_err-gaps
returns-in_err-gaps t c =
    c.from_residual.ensures
    ∙ tree_wrong _ _ _ _ _ _ _ c.if-link-eq0.false c.if-remaining-eq0.false c.if-limits-link.false _ c.node_gaps.ensures
    c.in_err-gaps.was

pub returns-then-row-eq0-2 : goal.returns-then-row-eq0-2
returns-then-row-eq0-2 t c =
    tree_over _ _ _ _ _ _ _ c.if-link-eq0.false c.if-remaining-eq0.false c.if-limits-link.false _
    c.node_gaps.ensures _ c.read_row-row.ensures _ c.in_ok-gaps.was _ (tree_none _ _ _ _ _ _ _ c.if-row-eq0.true) _
    (tree_none _ _ _ _ _ _ _ c.if-row-eq0-2.true) _ c.over.ensures

pub check_tree-requires : goal.check_tree-requires
check_tree-requires t c = (
  omega arith,
  window_left _ _ _ _ _ _ _ c.if-link-eq0.false c.if-remaining-eq0.false c.if-limits-link.false _
      c.node_gaps.ensures _ c.read_row-row.ensures _ c.in_ok-gaps.was _ c.requires,
)

pub returns-in_err-left : goal.returns-in_err-left
returns-in_err-left t c =
    c.from_residual-in_err-left.ensures
    ∙ tree_left_unsound _ _ _ _ _ _ _ c.if-link-eq0.false c.if-remaining-eq0.false c.if-limits-link.false _
    c.node_gaps.ensures _ c.read_row-row.ensures _ c.in_ok-gaps.was (sym c.in_err-left.was ∙ c.check_tree.ensures)

pub check_tree-requires-then-row-ne0-2 : goal.check_tree-requires-then-row-ne0-2
check_tree-requires-then-row-ne0-2 t c = (
  omega arith,
  window_right _ _ _ _ _ _ _ c.if-link-eq0.false c.if-remaining-eq0.false c.if-limits-link.false _
      c.node_gaps.ensures _ c.read_row-row.ensures _ c.in_ok-gaps.was _ c.requires,
)

-- what is found at each son, also where there is none
left_found : (t : ℕ) (c : Joined-row-ne0 t)
    → Some c.if-row-ne0.left
    ≡ check_tree c.args.limits c.args.table.now c.args.store.now (c.args.remaining - 1) c.read_row-row.result.left c.args.below c.args.link
left_found t c =
    elim c.if-row-ne0.branch [
      | then-row-ne0+in_ok-left w ↦ ap Some w.left-is ∙ sym w.in_ok-left.was ∙ w.check_tree.ensures
      | else-row-ne0 w ↦ ap Some w.left-is ∙ tree_none _ _ _ _ _ _ _ w.if-row-ne0.false
    ]

right_found : (t : ℕ) (c : Joined-row-ne0-2 t)
    → Some c.if-row-ne0-2.right
    ≡ check_tree c.args.limits c.args.table.now c.args.store.now (c.args.remaining - 1) c.read_row-row.result.right c.args.link c.args.above
right_found t c =
    elim c.if-row-ne0-2.branch [
      | then-row-ne0-2+in_ok-right w ↦ ap Some w.right-is ∙ sym w.in_ok-right.was ∙ w.check_tree-then-row-ne0-2.ensures
      | else-row-ne0-2 w ↦ ap Some w.right-is ∙ tree_none _ _ _ _ _ _ _ w.if-row-ne0-2.false
    ]

pub returns-in_err-right : goal.returns-in_err-right
returns-in_err-right t c =
    c.from_residual-in_err-right.ensures
    ∙ tree_right_unsound _ _ _ _ _ _ _ c.if-link-eq0.false c.if-remaining-eq0.false c.if-limits-link.false _
    c.node_gaps.ensures _ c.read_row-row.ensures _ c.in_ok-gaps.was _
    (left_found t (goal.at.returns-in_err-right t c).Joined-row-ne0)
    (sym c.in_err-right.was ∙ c.check_tree-then-row-ne0-2.ensures)

pub over-requires-2 : goal.over-requires-2
over-requires-2 t c =
    tree_sons_fit _ _ _ _ _ _ _ c.if-link-eq0.false c.if-remaining-eq0.false c.if-limits-link.false _
    c.node_gaps.ensures _ c.read_row-row.ensures _ c.in_ok-gaps.was _
    (left_found t (goal.at.over-requires-2 t c).Joined-row-ne0) _ (right_found t c) c.requires.deep

pub returns : goal.returns
returns t c =
    tree_over _ _ _ _ _ _ _ c.if-link-eq0.false c.if-remaining-eq0.false c.if-limits-link.false _
    c.node_gaps.ensures _ c.read_row-row.ensures _ c.in_ok-gaps.was _
    (left_found t (goal.at.returns t c).Joined-row-ne0) _ (right_found t (goal.at.returns t c).Joined-row-ne0-2) _
    c.over-2.ensures
