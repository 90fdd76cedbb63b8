-- A leaf's fields and insert's steps, in the form in which the code takes them.
-- `leaf_alone`, `leaf_over_lower`, `leaf_under_upper`, `leaf_between`: the fields by which neighbours the leaf has.
-- `inserted_in_turn`: the steps of insert.
use Prim.Native.Nat.{ℕ, max}
use mathlib.Core.Path.{◌≡◌, ap, ◌∙◌}
use mathlib.Core.Logic.{◌≢◌}
use mathlib.Core.List.{List}
use lib.ListN.{get_or, set}
use borrow.Author.Tests.{eq-eqb, ne_eqb}
use Rattle.labels.specs.Labels.{Label}
use Rattle.tables.specs.Words.{root_link}
use Rattle.tables.specs.Prefix.{side_by}
use Rattle.turns.specs.declared.Rebuilt.{Rebuilt}
use Rattle.turns.specs.Turns.{Yields}
use Rattle.paths.specs.Paths.{insert_along, rooted}
use Rattle.paths.proofs.Rooting.{rooted_after}
use Rattle.traces.specs.declared.Trace.{Trace}
use Rattle.sides.specs.declared.Fields.{Fields}
use Rattle.slots.specs.Slots.{slot_taken, with_root_place}
use Rattle.fields.specs.Between.{no_fields}
use Rattle.insertions.specs.Insertions.{leaf_fields, with_leaf, inserted_table}

module _ (trace : Trace) where
  -- The root has neither neighbour.
  pub leaf_alone : trace.above ≡ 0 → trace.below ≡ 0 → no_fields ≡ leaf_fields trace
  unfolding leaf_fields
  leaf_alone none none_lower = simp (eq-eqb trace.above 0 none, eq-eqb trace.below 0 none_lower)

  module _ (fields : Fields) (place : fields.place ≡ max trace.p trace.s) where
    -- The leaf has a predecessor only.
    pub leaf_over_lower : trace.above ≡ 0 → trace.below ≢ 0
        → record { place = fields.place; side = 0 } ≡ leaf_fields trace
    unfolding leaf_fields
    leaf_over_lower none lower = simp (eq-eqb trace.above 0 none, ne_eqb trace.below 0 lower, place)

    -- The leaf has a successor only.
    pub leaf_under_upper : trace.above ≢ 0 → trace.below ≡ 0
        → record { place = fields.place; side = 1 } ≡ leaf_fields trace
    unfolding leaf_fields
    leaf_under_upper upper none = simp (ne_eqb trace.above 0 upper, eq-eqb trace.below 0 none, place)

    -- The leaf has both neighbours.
    pub leaf_between : fields.side ≡ side_by trace.p trace.s → trace.above ≢ 0 → trace.below ≢ 0
        → fields ≡ leaf_fields trace
    unfolding leaf_fields
    leaf_between side upper lower =
        simp (ne_eqb trace.above 0 upper, ne_eqb trace.below 0 lower)
        (λ i. record { place = place i; side = side i })

-- The steps of insert: the leaf hung, the tree put in balance, the root set.
pub inserted_in_turn : (table : List ℕ) (x : Label) (value : ℕ) (trace : Trace) (root slot : ℕ)
    (hung along done : List ℕ)
    (top : Rebuilt) → root ≡ get_or table 0 0 → slot ≡ slot_taken table → hung ≡ with_leaf table x value trace
    → Yields (insert_along trace.length trace.path hung root slot) along top
    → done ≡ with_root_place (set along 0 top.link) 1 → done ≡ inserted_table table x value trace
unfolding inserted_table
inserted_in_turn table x value trace root slot hung along done top of_root of_slot_lem of_hung yields set_root =
    rooted_after _ along done top yields set_root
    ∙ ap (λ t. rooted (insert_along trace.length trace.path t root slot)) of_hung
    ∙ ap (λ r. rooted (insert_along trace.length trace.path (with_leaf table x value trace) r slot)) of_root
    ∙ ap (λ k. rooted (insert_along trace.length trace.path (with_leaf table x value trace)
    (root_link table) k)) of_slot_lem
