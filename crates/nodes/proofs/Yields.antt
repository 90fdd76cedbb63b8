-- The code's step at one node, with the slots that it yields, and the spot after it.
-- `decided_smaller`, `decided_same`, `decided_larger`: the step after a comparison, by its order.
-- `visit_left`, `visit_right`, `visit_compared`: the step at the node, by its turn.  `after_step`: the spot after it.
use mathlib.Core.Path.{◌≡◌, refl, ap, ◌∙◌}
use mathlib.Core.List.{List}
use mathlib.Core.Bool.{true, false}
use Prim.Native.Nat.{ℕ, ◌+◌, ◌-◌, ◌≤◌}
use Rattle.std.specs.declared.cmp.Ordering.TheVariants.{Less, Equal, Greater}
use Rattle.types.specs.declared.Limits.{Limits}
use Rattle.types.specs.declared.Row.{Row}
use Rattle.labels.specs.Labels.{Label, compare_from}
use Rattle.compares.specs.declared.Compared.{Compared}
use Rattle.compares.specs.Compares.{comparison_of}
use Rattle.tables.specs.Words.{label_at}
use Rattle.tables.specs.Steps.{compare_step}
use Rattle.nodes.specs.declared.Spot.{Spot}
use Rattle.nodes.specs.declared.Move.{Move}
use Rattle.nodes.specs.declared.Step as code
use Rattle.nodes.specs.declared.Step.TheVariants.{Found, Onward}
use Rattle.nodes.specs.declared.Turn.{Turn}
use Rattle.nodes.specs.declared.Turn.TheVariants.{Left, Right, Compare}
use Rattle.nodes.specs.Nodes.{reached_on, turn_of, step_onward, step_from, row_step, son_of, spot_after}
use Rattle.nodes.proofs.Turns.{decide_smaller, decide_same, decide_larger, row_left, row_right, row_compared}

-- the step at w and the node in a slot, after a comparison that started at place d; the places that it examined
-- are told by their number
module _ (w : Spot) (slot d : ℕ) (c : Compared) (r : code.Step) where
  abbrev decision : code.Step
  decision = step_from w slot (compare_step (comparison_of c) d w.p w.s)

  pub decided_smaller : (examined : ℕ) → c.order ≡ Less → r ≡ Onward (step_onward w slot false w.p c.place examined)
      → examined ≡ c.place + 1 - d → r ≡ decision
  decided_smaller examined o is many = is ∙ rw many (ap (step_from w slot) (decide_smaller w.p w.s d c o))

  pub decided_same : (examined : ℕ) → c.order ≡ Equal → r ≡ Found examined → examined ≡ c.place + 1 - d → r ≡ decision
  decided_same examined o is many = is ∙ rw many (ap (step_from w slot) (decide_same w.p w.s d c o))

  pub decided_larger : (examined : ℕ) → c.order ≡ Greater → r ≡ Onward (step_onward w slot true c.place w.s examined)
      → examined ≡ c.place + 1 - d → r ≡ decision
  decided_larger examined o is many = is ∙ rw many (ap (step_from w slot) (decide_larger w.p w.s d c o))

-- the step at the node where the walk stands
module _ (limits : Limits) (store : List ℕ) (x : Label) (w : Spot) (row : Row) (t : Turn)
    (sided : row.side ≤ 1)
    (turns : t ≡ turn_of row.side row.place (reached_on row.side w.p w.s) w.s) (r : code.Step) where
  abbrev from_here : code.Step
  from_here = step_from w w.link (row_step limits store x w.link row w.p w.s)

  pub visit_left : t ≡ Left → r ≡ Onward (step_onward w w.link false w.p w.s 0) → r ≡ from_here
  visit_left e is =
      is ∙ ap (step_from w w.link) (row_left limits store x w.link row w.p w.s _ t sided refl turns e)

  pub visit_right : t ≡ Right → r ≡ Onward (step_onward w w.link true w.p w.s 0) → r ≡ from_here
  visit_right e is =
      is ∙ ap (step_from w w.link) (row_right limits store x w.link row w.p w.s _ t sided refl turns e)

  pub visit_compared : (c : Compared) → t ≡ Compare
      → comparison_of c ≡ compare_from row.place x (label_at limits store w.link row.len)
      → r ≡ step_from w w.link (compare_step (comparison_of c) row.place w.p w.s) → r ≡ from_here
  visit_compared c e found is =
      is
      ∙ ap (step_from w w.link)
      (row_compared limits store x w.link row w.p w.s _ t sided refl turns c _ e found refl)

-- the spot after a move into the son at the link next
pub after_step : (w : Spot) (row : Row) (m : Move) (next : ℕ) → next ≡ son_of row m.right
    → record {
      link = next;
      p = m.p;
      s = m.s;
      below = m.below;
      above = m.above;
      visits = w.visits + 1;
      places = w.places + m.examined;
    }
    ≡ spot_after w row m
after_step w row m next e = rw e
