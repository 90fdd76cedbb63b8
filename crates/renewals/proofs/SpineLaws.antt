-- The nodes around one that is to be taken out, renewed step by step as the code goes.
-- `spine_none`, `spine_empty`, `spine_at_next`: a spine that ends.
-- `spine_over`: a node of a spine, and the rest of the spine.
-- `least_none`, `least_here`, `least_below`: the smallest node is this one, or below it.
-- `spines_in_turn`: both spines.
-- `around_right`, `around_left`, `around_two`: around a node with at most a right son, with a left son, and with both.
use Prim.Native.Nat.{ℕ, zero, suc, ◌-◌}
use mathlib.Core.Path.{◌≡◌, refl, sym, ap, ◌∙◌}
use mathlib.Core.Logic.{◌≢◌, ◌⊎◌, inl, inr}
use mathlib.Core.List.{List}
use mathlib.Core.Bool.{Bool, true, false, cond}
use native.Mathlib.Numerals.{sub-one}
use lib.Dec.{eqb}
use borrow.Author.Tests.{eq-eqb, ne_eqb}
use Rattle.types.specs.declared.Limits.{Limits}
use Rattle.types.specs.declared.Row.{Row}
use Rattle.tables.specs.Words.{row_at}
use Rattle.sides.specs.Rows.{row_on}
use Rattle.sides.specs.declared.Fields.{Fields}
use Rattle.fields.specs.Between.{fields_between}
use Rattle.renewals.specs.Renewals.{renewed, renewed_spine, least_from, renewed_spines, renewed_son}
use Rattle.fields.specs.Between.{no_fields}
use Rattle.renewals.specs.Renewals.{renewed_around}

either_same : (test : Bool) (table : List ℕ) → table ≡ cond test table table
either_same true table = refl
either_same false table = refl

module _ (limits : Limits) (flip : Bool) (table store : List ℕ) (slot outer least : ℕ) where
  -- the table with a spine renewed, of which so many nodes remain at most
  abbrev after_spine : (remaining : ℕ) → List ℕ
  after_spine remaining = renewed_spine limits flip remaining table store slot outer least

  -- No node remains to be renewed.
  pub spine_none : (remaining : ℕ) → remaining ≡ 0 → table ≡ after_spine remaining
  unfolding renewed_spine
  spine_none remaining none = rw none

  spine_stops : (remaining : ℕ) → (eqb slot 0 ≡ true) ⊎ (eqb slot least ≡ true) → table ≡ after_spine remaining
  unfolding renewed_spine
  spine_stops zero ends = refl
  spine_stops (suc remaining) (inl none) = simp none
  spine_stops (suc remaining) (inr next) = simp next (either_same (eqb slot 0) table)

  -- The spine is empty.
  pub spine_empty : (remaining : ℕ) → slot ≡ 0 → table ≡ after_spine remaining
  spine_empty remaining none = spine_stops remaining (inl (eq-eqb slot 0 none))

  -- The spine is at the next node.
  pub spine_at_next : (remaining : ℕ) → slot ≡ least → table ≡ after_spine remaining
  spine_at_next remaining next = spine_stops remaining (inr (eq-eqb slot least next))

  spine_step : (remaining : ℕ) → remaining ≢ 0 → slot ≢ 0 → slot ≢ least
      → after_spine remaining
      ≡ renewed_spine limits flip (remaining - 1)
      (renewed limits table store slot (cond flip least outer) (cond flip outer least)) store
      (row_on flip table slot).right slot least
  unfolding renewed_spine
  spine_step zero some here further = absurd (some refl)
  spine_step (suc remaining) some here further = simp (ne_eqb slot 0 here, ne_eqb slot least further, sub-one)

  -- A node of the spine is renewed, and then the rest of the spine.
  pub spine_over : (remaining : ℕ) (row : Row) (after further : List ℕ) → remaining ≢ 0 → slot ≢ 0 → slot ≢ least
      → row ≡ row_on flip table slot
      → after ≡ renewed limits table store slot (cond flip least outer) (cond flip outer least)
      → further ≡ renewed_spine limits flip (remaining - 1) after store row.right slot least
      → further ≡ after_spine remaining
  spine_over remaining row after further some here apart of_row of_after rest =
      rest ∙ ap (λ r. renewed_spine limits flip (remaining - 1) after store r.right slot least) of_row
      ∙ ap (λ t. renewed_spine limits flip (remaining - 1) t store (row_on flip table slot).right slot least) of_after
      ∙ sym (spine_step remaining some here apart)

-- No node remains to go down to.
pub least_none : (remaining : ℕ) (table : List ℕ) (slot : ℕ) → remaining ≡ 0 → slot ≡ least_from remaining table slot
unfolding least_from
least_none remaining table slot none = rw none

-- No node is smaller.
pub least_here : (remaining : ℕ) (table : List ℕ) (slot : ℕ) (row : Row) → row ≡ row_at table slot → row.left ≡ 0
    → slot ≡ least_from remaining table slot
unfolding least_from
least_here zero table slot row of_row none = refl
least_here (suc remaining) table slot row of_row none = simp (← of_row, eq-eqb row.left 0 none)

-- The smallest node is below.
pub least_below : (remaining : ℕ) (table : List ℕ) (slot deeper : ℕ) (row : Row) → remaining ≢ 0
    → row ≡ row_at table slot → row.left ≢ 0 → deeper ≡ least_from (remaining - 1) table row.left
    → deeper ≡ least_from remaining table slot
unfolding least_from
least_below zero table slot deeper row some of_row more rest = absurd (some refl)
least_below (suc remaining) table slot deeper row some of_row more rest =
    simp (← of_row, ne_eqb row.left 0 more) (simp sub-one at rest)

module _ (limits : Limits) (table store : List ℕ) (c below above : ℕ) (row : Row) (of_row : row ≡ row_at table c) where
  -- Both spines are renewed, the left one first.
  pub spines_in_turn : (least : ℕ) (lower both : List ℕ)
      → lower ≡ renewed_spine limits false limits.depth table store row.left below least
      → both ≡ renewed_spine limits true limits.depth lower store row.right above least
      → both ≡ renewed_spines limits table store c below above least
  unfolding renewed_spines
  spines_in_turn least lower both first second =
      second ∙ ap (λ t. renewed_spine limits true limits.depth t store row.right above least) first
      ∙ ap (λ r. renewed_spine limits true limits.depth
      (renewed_spine limits false limits.depth table store r.left below least) store r.right above least) of_row

  -- Around a node without a left son.
  pub around_right : (after : List ℕ) → row.left ≡ 0 → after ≡ renewed_son limits table store row.right below above
      → (no_fields ≡ (renewed_around limits table store c below above).next)
      × (after ≡ (renewed_around limits table store c below above).table)
  unfolding renewed_around
  around_right after none stored =
      let empty = eq-eqb row.left 0 none in
      (simp (← of_row, empty), simp (← of_row, empty) stored)

  -- Around a node without a right son.
  pub around_left : (after : List ℕ) → row.left ≢ 0 → row.right ≡ 0
      → after ≡ renewed_son limits table store row.left below above
      → (no_fields ≡ (renewed_around limits table store c below above).next)
      × (after ≡ (renewed_around limits table store c below above).table)
  unfolding renewed_around
  around_left after some none stored =
      let full = ne_eqb row.left 0 some in
      let empty = eq-eqb row.right 0 none in
      (simp (← of_row, full, empty), simp (← of_row, full, empty) stored)

  -- Around a node with two sons.
  pub around_two : (after : List ℕ) (next : Fields) → row.left ≢ 0 → row.right ≢ 0
      → next ≡ fields_between limits table store (least_from limits.depth table (row_at table c).right) below above
      → after ≡ renewed_spines limits table store c below above (least_from limits.depth table (row_at table c).right)
      → (next ≡ (renewed_around limits table store c below above).next)
      × (after ≡ (renewed_around limits table store c below above).table)
  unfolding renewed_around
  around_two after next lower upper of_next stored =
      let left_full = ne_eqb (row_at table c).left 0 (λ none. lower (ap (λ r. r.left) of_row ∙ none)) in
      let right_full = ne_eqb (row_at table c).right 0 (λ none. upper (ap (λ r. r.right) of_row ∙ none)) in
      (simp (left_full, right_full) of_next, simp (left_full, right_full) stored)
