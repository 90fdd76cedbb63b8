-- The step at one node, by its turn.
-- `decide_smaller`, `decide_same`, `decide_larger`: the step after a comparison, by its order.
-- `compared_row`, `row_inside`: the bytes compared are the label of the slot, which lies within the store.
-- `row_left`, `row_right`, `row_compared`: the step at the node, by its turn.
use mathlib.Core.Path.{◌≡◌, refl, ◌∙◌}
use mathlib.Core.Logic.{◌≢◌}
use mathlib.Core.List.{List}
use mathlib.Core.Bool.{Bool, true, false, cond}
use Prim.Native.Nat.{ℕ, zero, suc, ◌+◌, ◌-◌, ◌≤◌, Ordering as Compares}
use native.Mathlib.Numerals.{add-one}
use native.Mathlib.Omega.{arith}
use lib.Dec.{ltb}
use denote.Ref.{Bor}
use borrow.Author.Tests.{lt-ltb, le-ltb, eq-eqb, ne_eqb}
use Rattle.std.specs.declared.cmp.Ordering.TheVariants.{Less, Equal, Greater}
use Rattle.types.specs.declared.Limits.{Limits}
use Rattle.types.specs.declared.Row.{Row}
use Rattle.labels.specs.Labels.{Label, compare_from}
use Rattle.labels.proofs.Numbers.{Ordered, is_lt, is_eq, is_gt, ordered}
use Rattle.compares.specs.declared.Compared.{Compared}
use Rattle.compares.specs.Compares.{comparison_of}
use Rattle.tables.specs.Words.{label_at}
use Rattle.tables.specs.Steps.{Step, go_left, go_right, stop, compare_step, predecessor_step, successor_step, is_tie}
use Rattle.tables.specs.Steps.{step_at}
use Rattle.nodes.specs.declared.Turn.{Turn}
use Rattle.nodes.specs.declared.Turn.TheVariants.{Left, Right, Compare}
use Rattle.tables.proofs.Offsets.{part_within}
use Rattle.words.specs.Parts.{LabelInside, Shows}
use Rattle.nodes.specs.Bounds.{AtRow}
use Rattle.nodes.specs.Nodes.{reached_on, turn_of, row_step}

-- the step after a comparison c that started at place d, by its order
module _ (p s d : ℕ) (c : Compared) where
  abbrev examined : ℕ
  examined = c.place + 1 - d

  pub decide_smaller : c.order ≡ Less → go_left p c.place examined ≡ compare_step (comparison_of c) d p s
  decide_smaller e = rw (e, add-one c.place)

  pub decide_same : c.order ≡ Equal → stop examined ≡ compare_step (comparison_of c) d p s
  decide_same e = rw (e, add-one c.place)

  pub decide_larger : c.order ≡ Greater → go_right c.place s examined ≡ compare_step (comparison_of c) d p s
  decide_larger e = rw (e, add-one c.place)

-- a comparison with what the store shows is one with the slot's label
pub compared_row : (limits : Limits) (store held : Bor (List ℕ)) (x : Label) (link : ℕ) (row : Row) (c : Compared)
    → Shows limits store link row.len held → comparison_of c ≡ compare_from row.place x held.now
    → comparison_of c ≡ compare_from row.place x (label_at limits store.now link row.len)
compared_row limits store held x link row c shows found = rw shows.bytes at found

-- such a label lies within the store
pub row_inside : (limits : Limits) (store : List ℕ) (link : ℕ) (row : Row) → AtRow limits store link row
    → LabelInside limits store link row.len
row_inside limits store link row at =
    let low = at.slot.low in
    let within = part_within limits.width limits.slots link low at.slot.high in
    let short = at.good.short in
    let bytes = at.bytes in
    record { low = low; inside = omega arith }

-- a turn, taken
abbrev taken_by : Turn → Step → (p s : ℕ) → Step
taken_by Left compared p s = go_left p s 0
taken_by Right compared p s = go_right p s 0
taken_by Compare compared p s = compared

module _ (d p s : ℕ) (compared : Step) where
  -- the step by P, at a tie first
  predecessor_turn : {o : Compares} → Ordered p d o
      → cond (is_tie d p s) (go_right p s 0) (predecessor_step o compared p s) ≡ taken_by (turn_of 0 d p s) compared p s
  unfolding turn_of
  predecessor_turn (is_lt less) =
      let apart : p ≢ d = λ e. omega arith in
      let low : p ≤ d = omega arith in
      rw (ne_eqb p d apart, le-ltb d p low)
  predecessor_turn (is_eq equal) = rw (eq-eqb p d equal) (go (ltb d s))
    where
      go : (b : Bool) → cond b (go_right p s 0) compared ≡ taken_by (cond b Right Compare) compared p s
      go true = refl
      go false = refl
  predecessor_turn (is_gt more) =
      let apart : p ≢ d = λ e. omega arith in rw (ne_eqb p d apart, lt-ltb d p more)

  -- the step by S, which is not above the place where it is the place
  successor_turn : {o : Compares} → Ordered s d o → successor_step o compared p s ≡ taken_by (turn_of 1 d s s) compared p s
  unfolding turn_of
  successor_turn (is_lt less) =
      let apart : s ≢ d = λ e. omega arith in
      let low : s ≤ d = omega arith in
      rw (ne_eqb s d apart, le-ltb d s low)
  successor_turn (is_eq equal) = let high : s ≤ d = omega arith in rw (eq-eqb s d equal, le-ltb d s high)
  successor_turn (is_gt more) =
      let apart : s ≢ d = λ e. omega arith in rw (ne_eqb s d apart, lt-ltb d s more)

-- a node's step is its turn, taken
turn_step : (x c : Label) (side d p s : ℕ) → side ≤ 1
    → step_at x c side d p s
    ≡ taken_by (turn_of side d (reached_on side p s) s) (compare_step (compare_from d x c) d p s) p s
unfolding turn_of
turn_step x c zero d p s sided = predecessor_turn d p s (compare_step (compare_from d x c) d p s) (ordered p d)
turn_step x c (suc zero) d p s sided = successor_turn d p s (compare_step (compare_from d x c) d p s) (ordered s d)
turn_step x c (suc (suc side)) d p s sided = absurd (omega arith)

-- the step at the node in a slot, whose row is read and whose turn is t
module _ (limits : Limits) (store : List ℕ) (x : Label) (link : ℕ) (row : Row) (p s reached : ℕ) (t : Turn)
    (sided : row.side ≤ 1) (goes : reached ≡ reached_on row.side p s)
    (turns : t ≡ turn_of row.side row.place reached s) where
  abbrev here : Step
  here = row_step limits store x link row p s

  abbrev label : Label
  label = label_at limits store link row.len

  -- it is the turn, taken
  row_step_lem : taken_by t (compare_step (compare_from row.place x label) row.place p s) p s ≡ here
  unfolding row_step
  row_step_lem = rw (turn_step x label row.side row.place p s sided, ← goes, ← turns)

  pub row_left : t ≡ Left → go_left p s 0 ≡ here
  row_left e = rw e at row_step_lem

  pub row_right : t ≡ Right → go_right p s 0 ≡ here
  row_right e = rw e at row_step_lem

  pub row_compared : (c : Compared) (r : Step) → t ≡ Compare → comparison_of c ≡ compare_from row.place x label
      → r ≡ compare_step (comparison_of c) row.place p s → r ≡ here
  row_compared c r e found so = so ∙ rw found (rw e at row_step_lem)
