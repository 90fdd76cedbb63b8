-- The trace of a search from a spot on, by what the search does there.
-- `trace_missing`, `trace_at_node`: it ends at an empty link; it takes the node's step where the test finds a node.
-- `by_test`: what holds of both holds of the trace.
-- `trace_halted`, `trace_found`, `trace_onward`: so, from what the code knows.
use mathlib.Core.List.{List}
use mathlib.Core.Bool.{Bool, true, false}
use mathlib.Core.Path.{◌≡◌, refl, sym, ◌∙◌}
use Prim.Native.Nat.{ℕ, zero, suc, ◌+◌, ◌-◌}
use native.Mathlib.Omega.{arith}
use borrow.Author.Tests.{eq-eqb}
use Rattle.std.specs.Int.{from_bool}
use Rattle.types.specs.declared.Limits.{Limits}
use Rattle.types.specs.declared.Row.{Row}
use Rattle.labels.specs.Labels.{Label}
use Rattle.labels.proofs.Clashes.{clash}
use Rattle.tables.specs.Words.{row_at}
use Rattle.tables.specs.Steps.{Step, go_left, go_right, stop}
use Rattle.nodes.specs.declared.Spot.{Spot}
use Rattle.nodes.specs.declared.Move.{Move}
use Rattle.nodes.specs.declared.Step as code
use Rattle.nodes.specs.declared.Step.TheVariants.{Found, Onward}
use Rattle.nodes.specs.Nodes.{halts_at, step_onward, step_from, row_step, node_step, son_of, spot_after}
use Rattle.nodes.proofs.Rows.{live}
use Rattle.traces.specs.declared.Trace.{Trace}
use Rattle.traces.specs.Traces.{ended_at, found_at, longer, trace_by, trace_from, trace_on}

module _ (limits : Limits) (table store : List ℕ) (x : Label) (w : Spot) where
  -- the search ends
  trace_over : (remaining : ℕ) → halts_at limits table w.link remaining ≡ true
      → trace_from limits table store x remaining w ≡ ended_at w
  unfolding trace_from
  trace_over zero is = refl
  trace_over (suc remaining) is = rw (is, trace_from)

  -- so it does at an empty link
  pub trace_missing : (remaining : ℕ) → w.link ≡ 0
      → trace_from limits table store x remaining w ≡ ended_at w
  unfolding halts_at
  trace_missing remaining none = trace_over remaining (rw (eq-eqb w.link 0 none))

  -- the search takes the node's step
  pub trace_at_node : (remaining : ℕ) → halts_at limits table w.link (suc remaining) ≡ false
      → trace_from limits table store x (suc remaining) w
      ≡ trace_by (node_step limits table store x w) w (row_at table w.link)
      (trace_from limits table store x remaining)
  unfolding trace_from
  trace_at_node remaining is = rw (is, trace_from)

  -- what holds where the search ends, and by the node's step where it does not, holds of the trace
  pub by_test : (P : Trace → Type 0) (remaining : ℕ) → P (ended_at w)
      → (halts_at limits table w.link (suc remaining) ≡ false
      → P (trace_by (node_step limits table store x w) w (row_at table w.link)
      (trace_from limits table store x remaining)))
      → P (trace_from limits table store x (suc remaining) w)
  by_test P remaining over by_step = go (halts_at limits table w.link (suc remaining)) refl
    where
      go : (b : Bool) → halts_at limits table w.link (suc remaining) ≡ b
          → P (trace_from limits table store x (suc remaining) w)
      go true is = rw (trace_over (suc remaining) is) over
      go false is = rw (trace_at_node remaining is) (by_step is)

  -- where the code has tested the spot
  module _ (r : Trace) (tested : Bool) (so : tested ≡ halts_at limits table w.link (limits.depth - w.visits)) where
    -- where there is no node to visit, the search ends
    pub trace_halted : tested ≡ true → r ≡ ended_at w → r ≡ trace_on limits table store x w
    trace_halted is e = e ∙ sym (trace_over (limits.depth - w.visits) (sym so ∙ is))

    module _ (fine : tested ≡ false) (row : Row) (read : row ≡ row_at table w.link) (t : code.Step)
        (step : t ≡ step_from w w.link (row_step limits store x w.link row w.p w.s)) where
      abbrev here : Step
      here = row_step limits store x w.link row w.p w.s

      abbrev further : Spot → Trace
      further = trace_from limits table store x (limits.depth - (w.visits + 1))

      -- the trace by the node's step
      trace_stepped : trace_on limits table store x w ≡ trace_by here w row further
      trace_stepped =
          let room = (live limits table w.link (limits.depth - w.visits) tested so fine).room in
          let remaining : limits.depth - w.visits ≡ suc (limits.depth - (w.visits + 1)) = omega arith in
          let going = rw remaining at (sym so ∙ fine) in
          rw (remaining, read) (trace_at_node (limits.depth - (w.visits + 1)) going)

      -- where the label is found, the search ends
      pub trace_found : (examined : ℕ) → t ≡ Found examined → r ≡ found_at w examined
          → r ≡ trace_on limits table store x w
      trace_found examined is e = e ∙ sym (trace_stepped ∙ go here (sym step ∙ is))
        where
          go : (d : Step) → step_from w w.link d ≡ Found examined → trace_by d w row further ≡ found_at w examined
          go (go_left p s few) is = clash cc
          go (go_right p s few) is = clash cc
          go (stop few) is = let same : few ≡ examined = cc in rw same

      -- elsewhere it goes on from the spot after the step
      pub trace_onward : (m : Move) (v : Spot) (bit : ℕ) (deeper : Trace) → t ≡ Onward m → v ≡ spot_after w row m
          → bit ≡ from_bool m.right → deeper ≡ trace_on limits table store x v → r ≡ longer bit deeper
          → r ≡ trace_on limits table store x w
      unfolding son_of
      trace_onward m v bit deeper on next side beyond e =
          e ∙ rw (beyond, side, next) (sym (trace_stepped ∙ go here (sym step ∙ on)))
        where
          go : (d : Step) → step_from w w.link d ≡ Onward m
              → trace_by d w row further ≡ longer (from_bool m.right) (further (spot_after w row m))
          go (go_left p s few) on =
              let same : step_onward w w.link false p s few ≡ m = cc in rw (← same)
          go (go_right p s few) on =
              let same : step_onward w w.link true p s few ≡ m = cc in rw (← same)
          go (stop few) on = clash cc
