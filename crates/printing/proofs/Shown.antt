-- The label that the view shows.
--     view_short   it has at most 64 bytes
--     shown_short  so has the part that the view returns
use mathlib.Core.List.{List}
use mathlib.Core.Path.{◌≡◌, refl}
use Prim.Native.Nat.{ℕ, ◌≤◌}
use native.Mathlib.Omega.{arith}
use lib.Dec.{eqb, ltb}
use lib.ListN.{length, length-take}
use borrow.Author.Tests.{ltb-false}
use denote.Ref.{Bor}
use Rattle.types.specs.Sizes.{hub}
use Rattle.trees.proofs.Views.{either_false}
use Rattle.tables.specs.Words.{row_at, label_at}
use Rattle.tables.specs.Outcomes.{Verdict, pass, refuse, part_by, of_slot, view_verdict, view_part}
use Rattle.lengths.proofs.FirstLines.{line_passed, sizes_passed}
use Rattle.index.proofs.Sizes.{at_hub}
use Rattle.views.specs.Parts.{Views}

-- a part is short where the lines before it pass only if it is
part_short : (v : Verdict) (part : List ℕ) → (pass ≡ v → length part ≤ hub.width)
    → length (part_by v part) ≤ hub.width
part_short pass part short = short refl
part_short (refuse number) part short = omega arith

module _ (table store : List ℕ) (k : ℕ) where
  -- where the line of a slot passes, the slot's length is at most 64, that of the longest label
  slot_short : pass ≡ of_slot hub table k pass → (row_at table k).len ≤ hub.width
  slot_short passed =
      let some = either_false (eqb k 0) _ (line_passed _ 11 pass passed).0 in
      let high = either_false (ltb hub.slots k) _ some.1 in
      ltb-false _ _ (either_false (eqb (row_at table k).len 0) _ high.1).1

  -- it has at most 64 bytes
  pub view_short : length (view_part hub table store k) ≤ hub.width
  unfolding view_part label_at
  view_short =
      part_short (view_verdict hub table store k) _
      λ passed. let slot = (sizes_passed hub table store (of_slot hub table k pass) (at_hub hub refl) passed).1 in
      let short = slot_short slot in
      simp length-take (omega arith)

-- so has the part that the view returns
pub shown_short : (table : List ℕ) (store : Bor (List ℕ)) (k : ℕ) (r : Bor (List ℕ)) → Views hub table store k r
    → length r.now ≤ hub.width
shown_short table store k r views = rw views.bytes (view_short table store.now k)
