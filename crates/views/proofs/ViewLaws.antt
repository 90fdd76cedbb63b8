-- The label view's answer and its part.
-- `view_has_row`, `view_start_lem`, `view_label`: where the first call is done, the slot has a row, its part starts at a
-- machine word, and its label lies in the store.
-- `view_shown`, `view_hidden`: what the second call returns where the first is done, and where it refuses.
use mathlib.Core.List.{List, []}
use mathlib.Core.Path.{◌≡◌, refl, sym, ap, ◌∙◌}
use Prim.Native.Nat.{ℕ, ◌+◌, ◌≤◌}
use native.Mathlib.Omega.{arith}
use lib.Dec.{eqb, ltb}
use lib.ListN.{length}
use borrow.Author.Tests.{eqb-false, ltb-false}
use denote.Ref.{Bor}
use Rattle.std.specs.Prelude.{Result, Ok, Err}
use Rattle.types.specs.declared.Limits.{Limits}
use Rattle.types.specs.declared.Refusal.{Refusal}
use Rattle.types.specs.Sizes.{table_length}
use Rattle.types.specs.Answers.{done, refused, refusal_number, done_says}
use Rattle.tables.specs.Words.{row_at, label_at, part_start}
use Rattle.tables.specs.Outcomes.{pass, of_slot, view_verdict, view_outcome, view_part}
use Rattle.words.specs.Limits.{LimitsFit}
use Rattle.words.specs.Rows.{HasRow}
use Rattle.words.specs.Parts.{StartFits, LabelInside, Shows}
use Rattle.views.specs.Parts.{view_start, Views}
use Rattle.tables.proofs.Offsets.{part_within}
use Rattle.words.proofs.PartLaws.{start_small}
use Rattle.trees.proofs.Views.{either_false}
use Rattle.lengths.proofs.FirstLines.{line_passed, sizes_passed}
use Rattle.views.proofs.Verdicts.{done_passed, part_passed, part_refused}

-- where its line passes, the slot is one of the table's and its length one of a label's
slot_passed : (limits : Limits) (table : List ℕ) (k : ℕ) → pass ≡ of_slot limits table k pass
    → (k ≡ 0 → ⊥) × (k ≤ limits.slots) × ((row_at table k).len ≤ limits.width)
slot_passed limits table k e =
    let some = either_false (eqb k 0) _ (line_passed _ 11 pass e).0 in
    let high = either_false (ltb limits.slots k) _ some.1 in
    let lengths = either_false (eqb (row_at table k).len 0) _ high.1 in
    (eqb-false k 0 some.0, ltb-false _ _ high.0, ltb-false _ _ lengths.1)

-- a slot that the view shows
pub record ViewFits (limits : Limits) (table store : List ℕ) (k : ℕ) : Type 0 where
  pub words : length table ≡ table_length limits
  pub low : 1 ≤ k
  pub high : k ≤ limits.slots
  pub inside : part_start limits k + (row_at table k).len ≤ length store

module _ (limits : Limits) (table store : List ℕ) (k : ℕ) where
  view_fits : LimitsFit limits → done ≡ view_outcome limits table store k → ViewFits limits table store k
  unfolding view_outcome
  view_fits fit e =
      let passed = done_passed (view_verdict limits table store k) e in
      let memory = sizes_passed limits table store (of_slot limits table k pass) fit passed in
      let slot = slot_passed limits table k memory.1 in
      let low : 1 ≤ k = omega arith in
      let room = part_within limits.width limits.slots k low slot.1 in
      let sizes = memory.0 in
      record { words = sizes.words; low = low; high = slot.1; inside = omega arith }

  -- the part and its start by an answer that is done, and by one that is a refusal
  shown : done ≡ view_outcome limits table store k
      → (view_part limits table store k ≡ label_at limits store k (row_at table k).len)
      × (view_start limits table store k ≡ part_start limits k)
  unfolding view_outcome view_part view_start
  shown e = part_passed _ _ (view_verdict limits table store k) e

  hidden : (number : ℕ) → refused number ≡ view_outcome limits table store k
      → (view_part limits table store k ≡ []) × (view_start limits table store k ≡ 0)
  unfolding view_outcome view_part view_start
  hidden number e = part_refused _ _ (view_verdict limits table store k) number e

  -- what the second call knows from the first call's answer
  module _ (fit : LimitsFit limits) (answer : Result Unit Refusal) (says : done_says answer ≡ view_outcome limits table store k)
      (is_done : answer ≡ Ok tt) where
    fits : ViewFits limits table store k
    fits = view_fits fit (cc)

    pub view_has_row : HasRow table k
    view_has_row = let shown = fits in record { low = shown.low; high = omega arith }

    pub view_start_lem : StartFits limits k
    view_start_lem =
        let shown = fits in
        let few = fit.slots in
        let small = start_small limits k fit (omega arith) in
        record { low = shown.low; small = omega arith }

    pub view_label : LabelInside limits store k (row_at table k).len
    view_label = let shown = fits in record { low = shown.low; inside = shown.inside }

-- what the second call returns, by the first call's answer
module _ (limits : Limits) (table : List ℕ) (store : Bor (List ℕ)) (k : ℕ) (answer : Result Unit Refusal)
    (says : done_says answer ≡ view_outcome limits table store.now k) where
  pub view_shown : (r : Bor (List ℕ)) → answer ≡ Ok tt → Shows limits store k (row_at table k).len r
      → Views limits table store k r
  view_shown r e shows =
      let both = shown limits table store.now k (cc) in
      record {
        bytes = shows.bytes ∙ sym both.0;
        block = shows.block;
        start = shows.start ∙ ap (λ (n : ℕ). store.ref_ptr.1 + n) (sym both.1);
      }

  pub view_hidden : (reason : Refusal) → answer ≡ Err reason
      → Views limits table store k (record { ref_ptr = (store.ref_ptr.0, 0 + store.ref_ptr.1); now = [] })
  view_hidden reason e =
      let both = hidden limits table store.now k (refusal_number reason) (cc) in
      record { bytes = sym both.0; block = refl; start = omega arith }
