-- How a walk goes on from a node, with P and S in an array by the side that goes by them.
-- `Ends`: the array.  `Went`: the son, the array and the places after the step.  `went_as`: the same of equal values.
-- `went_left`, `went_right`: a turn without a comparison.  `went_smaller`, `went_larger`: by the comparison's order.
-- `ended_same`: the label is found.
-- `near_after`: the nearest nodes in an array, after the walk went past a node.
use mathlib.Core.Path.{◌≡◌, refl, sym, ◌∙◌}
use mathlib.Core.List.{List}
use mathlib.Core.Bool.{Bool, true, false}
use Prim.Native.Nat.{ℕ, zero, suc, ◌+◌, ◌-◌, ◌≤◌}
use native.Mathlib.Omega.{arith}
use lib.ListN.{length, get_or, set, length-set}
use lib.Seq.{get_or-set_same, get_or-set_other}
use Rattle.std.specs.Int.{from_bool}
use Rattle.std.specs.declared.cmp.Ordering.TheVariants.{Less, Equal, Greater}
use Rattle.types.specs.declared.Limits.{Limits}
use Rattle.types.specs.declared.Row.{Row}
use Rattle.labels.specs.Labels.{Label, compare_from}
use Rattle.compares.specs.declared.Compared.{Compared}
use Rattle.compares.specs.Compares.{comparison_of}
use Rattle.tables.specs.Words.{label_at}
use Rattle.tables.specs.Steps.{Step, go_left, go_right, stop, compare_step}
use Rattle.nodes.specs.declared.Turn.{Turn}
use Rattle.nodes.specs.declared.Turn.TheVariants.{Left, Right, Compare}
use Rattle.nodes.specs.Nodes.{reached_on, turn_of, below_after, above_after, row_step}
use Rattle.nodes.specs.Bounds.{AtPlace, AtRow}
use Rattle.nodes.proofs.Turns.{decide_smaller, decide_same, decide_larger, row_left, row_right, row_compared}

-- the array holds the number that a side goes by at the side's index
reached_at : (side : ℕ) (ends : List ℕ) → side ≤ 1 → get_or ends side 0 ≡ reached_on side (get_or ends 0 0) (get_or ends 1 0)
reached_at zero ends small = refl
reached_at (suc zero) ends small = refl
reached_at (suc (suc k)) ends small = absurd (omega arith)

-- the step to a son
abbrev pub go_on : (right : Bool) (p s examined : ℕ) → Step
go_on true p s examined = go_right p s examined
go_on false p s examined = go_left p s examined

-- an array with P and S by their sides, and S once more
pub record Ends (ends : List ℕ) : Type 0 where
  pub three : length ends ≡ 3
  pub again : get_or ends 2 0 ≡ get_or ends 1 0

-- S stands behind the number of either side
behind : (side : ℕ) (ends : List ℕ) → side ≤ 1 → Ends ends → get_or ends (side + 1) 0 ≡ get_or ends 1 0
behind zero ends small held = refl
behind (suc zero) ends small held = held.again
behind (suc (suc k)) ends small held = absurd (omega arith)

-- from a node with this row, P and S in `ends` and so many places: to the right son or else to the left one, with
-- P and S in `after` and `more` places
pub record Went (limits : Limits) (store : List ℕ) (x : Label) (link : ℕ) (row : Row) (ends : List ℕ) (places : ℕ)
    (right : Bool) (after : List ℕ) (more : ℕ) : Type 0 where
  pub examined : ℕ
  pub few : examined ≤ 4097
  pub sum : more ≡ places + examined
  pub held : Ends after
  pub step : go_on right (get_or after 0 0) (get_or after 1 0) examined
      ≡ row_step limits store x link row (get_or ends 0 0) (get_or ends 1 0)

-- the same of equal values
pub went_as : {limits : Limits} {store : List ℕ} {x : Label} {link : ℕ} {row : Row} {ends : List ℕ} {places : ℕ}
    {right : Bool} {after : List ℕ} {more : ℕ} (other : Bool) (others : List ℕ) (sum : ℕ)
    → other ≡ right → others ≡ after → sum ≡ more → Went limits store x link row ends places right after more
    → Went limits store x link row ends places other others sum
went_as other others sum a b c went = rw (a, b, c) went

-- at a node with this row, whose turn is t
module _ (limits : Limits) (store : List ℕ) (x : Label) (link : ℕ) (row : Row) (places : ℕ) (ends : List ℕ) (t : Turn)
    (at : AtRow limits store link row) (held : Ends ends)
    (turned : t ≡ turn_of row.side row.place (get_or ends row.side 0) (get_or ends (row.side + 1) 0)) where
  abbrev p : ℕ
  p = get_or ends 0 0

  abbrev s : ℕ
  s = get_or ends 1 0

  abbrev reached : ℕ
  reached = get_or ends row.side 0

  goes : reached ≡ reached_on row.side p s
  goes = reached_at row.side ends at.good.sided

  turns : t ≡ turn_of row.side row.place reached s
  turns = rw (behind row.side ends at.good.sided held) at turned

  -- a turn without a comparison
  uncompared : (right : Bool) → go_on right p s 0 ≡ row_step limits store x link row p s
      → Went limits store x link row ends places right ends places
  uncompared right step = record { examined = 0; few = omega arith; sum = omega arith; held = held; step = step }

  pub went_left : t ≡ Left → Went limits store x link row ends places false ends places
  went_left e = uncompared false (row_left limits store x link row p s reached t at.good.sided goes turns e)

  pub went_right : t ≡ Right → Went limits store x link row ends places true ends places
  went_right e = uncompared true (row_right limits store x link row p s reached t at.good.sided goes turns e)

  -- a turn by a comparison
  module _ (e : t ≡ Compare) (c : Compared)
      (found : comparison_of c ≡ compare_from row.place x (label_at limits store link row.len))
      (ended : AtPlace row.place c) where
    abbrev examined : ℕ
    examined = c.place + 1 - row.place

    step_here : (r : Step) → r ≡ compare_step (comparison_of c) row.place p s → r ≡ row_step limits store x link row p s
    step_here r = row_compared limits store x link row p s reached t at.good.sided goes turns c r e found

    -- it sets the number of one side
    compared : (right : Bool) (after : List ℕ) → Ends after
        → go_on right (get_or after 0 0) (get_or after 1 0) examined ≡ row_step limits store x link row p s
        → Went limits store x link row ends places right after (places + examined)
    compared right after kept step =
        record { examined = examined; few = omega arith; sum = refl; held = kept; step = step }

    abbrev lowered : List ℕ
    lowered = set (set ends 1 c.place) 2 c.place

    pub went_smaller : c.order ≡ Less → Went limits store x link row ends places false lowered (places + examined)
    went_smaller o =
        let three = held.three in
        let first = set ends 1 c.place in
        let long : length first ≡ 3 = rw length-set three in
        let s_behind = get_or-set_same first 2 c.place 0 (omega arith) in
        let s_there = get_or-set_other first 2 1 c.place 0 (λ z. omega arith)
        ∙ get_or-set_same ends 1 c.place 0 (omega arith) in
        let p_there = get_or-set_other first 2 0 c.place 0 (λ z. omega arith)
        ∙ get_or-set_other ends 1 0 c.place 0 (λ z. omega arith) in
        compared false lowered (record { three = rw length-set long; again = s_behind ∙ sym s_there })
        (rw (p_there, s_there) (step_here _ (decide_smaller p s row.place c o)))

    pub went_larger : c.order ≡ Greater
        → Went limits store x link row ends places true (set ends 0 c.place) (places + examined)
    went_larger o =
        let three = held.three in
        let p_there = get_or-set_same ends 0 c.place 0 (omega arith) in
        let s_there = get_or-set_other ends 0 1 c.place 0 (λ z. omega arith) in
        let s_behind = get_or-set_other ends 0 2 c.place 0 (λ z. omega arith) in
        compared true (set ends 0 c.place)
        (record { three = rw length-set three; again = s_behind ∙ held.again ∙ sym s_there })
        (rw (p_there, s_there) (step_here _ (decide_larger p s row.place c o)))

    -- the label is found
    pub ended_same : c.order ≡ Equal → stop examined ≡ row_step limits store x link row p s
    ended_same o = step_here _ (decide_same p s row.place c o)

-- the nearest nodes, after the walk went past the node in a slot
pub record Passed (near : List ℕ) (slot : ℕ) (right : Bool) (after : List ℕ) : Type 0 where
  pub two : length after ≡ 2
  pub below : get_or after 1 0 ≡ below_after right slot (get_or near 1 0)
  pub above : get_or after 0 0 ≡ above_after right slot (get_or near 0 0)

pub near_after : (near : List ℕ) (slot : ℕ) (right : Bool) (index : ℕ) → index ≡ from_bool right → length near ≡ 2
    → Passed near slot right (set near index slot)
near_after near slot true index e two =
    rw e (record {
      two = rw length-set two;
      below = get_or-set_same near 1 slot 0 (omega arith);
      above = get_or-set_other near 1 0 slot 0 (λ z. omega arith);
    })
near_after near slot false index e two =
    rw e (record {
      two = rw length-set two;
      below = get_or-set_other near 0 1 slot 0 (λ z. omega arith);
      above = get_or-set_same near 0 slot 0 (omega arith);
    })
