-- The slots at a link, and the list that they are written into.
-- `slots_at_depth`, `slots_at_none`, `slots_above`, `slots_at_node`: the slots at a link, by the tests of the walk.
-- `slots_few`: at most 2 ^ remaining slots, less one.
-- `fits_whole`, `fits_near`, `fits_far`, `next_fits`: positions stay machine words.
-- `filled_by_node`: what the walk leaves in the list.
use mathlib.Core.List.{List, [], ◌∷◌, ◌++◌}
use mathlib.Core.Bool.{Bool, true, false}
use mathlib.Core.Path.{◌≡◌, refl, ap, ◌∙◌}
use Prim.Native.Nat.{ℕ, zero, suc, ◌+◌, ◌-◌, ◌^◌, ◌≤◌, ◌<◌}
use native.Mathlib.Nat.{one-le-pow, pow-le-pow_right, two-pow-succ}
use native.Mathlib.Omega.{arith}
use lib.Dec.{ltb}
use lib.ListN.{length, set, length-append}
use borrow.Author.Tests.{lt-ltb, le-ltb}
use Rattle.types.specs.declared.Limits.{Limits}
use Rattle.types.specs.declared.Row.{Row}
use Rattle.tables.specs.Words.{row_at}
use Rattle.words.specs.Filled.{Filled}
use Rattle.words.proofs.Fills.{filled_by_one, filled_in_turn}
use Rattle.lists.specs.Listed.{slots_from, ListFits, ListReady}

-- two runs of fewer than n, with one more between them, or nothing
few_or_none : (b : Bool) (xs ys : List ℕ) (k : ℕ) {n : ℕ} → length xs < n → length ys < n
    → length {A = ℕ} (elim b [ true ↦ [] | false ↦ xs ++ (k ∷ ys) ]) < n + n
few_or_none true xs ys k p q = omega arith
few_or_none false xs ys k p q = omega (arith, length-append xs (k ∷ ys))

module _ (limits : Limits) (table : List ℕ) where
  pub slots_at_depth : (remaining link : ℕ) → remaining ≡ 0 → slots_from limits table remaining link ≡ []
  unfolding slots_from
  slots_at_depth zero link e = refl
  slots_at_depth (suc remaining) link e = absurd (omega arith)

  pub slots_at_none : (remaining link : ℕ) → link ≡ 0 → slots_from limits table remaining link ≡ []
  unfolding slots_from
  slots_at_none zero link e = refl
  slots_at_none (suc remaining) zero e = refl
  slots_at_none (suc remaining) (suc k) e = absurd (omega arith)

  pub slots_above : (remaining link : ℕ) → limits.slots < link → slots_from limits table remaining link ≡ []
  unfolding slots_from
  slots_above zero link h = refl
  slots_above (suc remaining) zero h = refl
  slots_above (suc remaining) (suc k) h = rw (lt-ltb _ _ h, slots_from)

  pub slots_at_node : (remaining link : ℕ) → (remaining ≡ 0 → ⊥) → (link ≡ 0 → ⊥) → link ≤ limits.slots
      → slots_from limits table remaining link
      ≡ slots_from limits table (remaining - 1) (row_at table link).left
      ++ (link ∷ slots_from limits table (remaining - 1) (row_at table link).right)
  unfolding slots_from
  slots_at_node zero link deep some high = absurd (deep refl)
  slots_at_node (suc remaining) zero deep some high = absurd (some refl)
  slots_at_node (suc remaining) (suc k) deep some high =
      let below : suc remaining - 1 ≡ remaining = omega arith in
      rw (below, le-ltb _ _ high, slots_from)

  pub slots_few : (remaining link : ℕ) → length (slots_from limits table remaining link) < 2 ^ remaining
  unfolding slots_from
  slots_few zero link = omega arith
  slots_few (suc remaining) zero = rw two-pow-succ (omega (arith, slots_few remaining zero))
  slots_few (suc remaining) (suc k) =
      let near = slots_from limits table remaining (row_at table (suc k)).left in
      let far = slots_from limits table remaining (row_at table (suc k)).right in
      rw two-pow-succ
      (few_or_none (ltb limits.slots (suc k)) near far (suc k) (slots_few remaining _) (slots_few remaining _))

-- the walk from the root, from the list's start on, stays within the room
pub fits_whole : (limits : Limits) (table : List ℕ) → ListReady limits table → ListFits limits table 0 limits.depth
fits_whole limits table ready =
    let room : 2 ^ limits.depth ≤ 2 ^ 64 = pow-le-pow_right (omega arith) ready.fit.depth in
    record { fit = ready.fit; words = ready.words; room = omega arith }

-- a son's walk stays within the room: the left son's from the same position,
-- the right son's from the one after the node's
module _ (limits : Limits) (table : List ℕ) (remaining at : ℕ)
    (fits : ListFits limits table at remaining) (deep : remaining ≡ 0 → ⊥) where
  halves : 2 ^ remaining ≡ 2 ^ (remaining - 1) + 2 ^ (remaining - 1)
  halves =
      let over : remaining ≡ suc (remaining - 1) = omega arith in
      ap (λ (n : ℕ). 2 ^ n) over ∙ two-pow-succ (remaining - 1)

  pub fits_near : ListFits limits table at (remaining - 1)
  fits_near = record { fit = fits.fit; words = fits.words; room = omega (arith, halves) }

  pub fits_far : (link middle : ℕ) (before between : List ℕ)
      → Filled (slots_from limits table (remaining - 1) link) before at between middle
      → ListFits limits table (middle + 1) (remaining - 1)
  fits_far link middle before between near =
      let few = slots_few limits table (remaining - 1) link in
      record { fit = fits.fit; words = fits.words; room = omega (arith, halves) }

  pub next_fits : (link middle : ℕ) (before between : List ℕ)
      → Filled (slots_from limits table (remaining - 1) link) before at between middle → middle + 1 < 2 ^ 64
  next_fits link middle before between near =
      let far = fits_far link middle before between near in
      let some : 1 ≤ 2 ^ (remaining - 1) = one-le-pow (remaining - 1) 2 (omega arith) in
      omega arith

-- the left son's slots, the node's, and the right son's
module _ (limits : Limits) (table : List ℕ) (remaining link : ℕ) (row : Row)
    (deep : remaining ≡ 0 → ⊥) (some : link ≡ 0 → ⊥) (high : link ≤ limits.slots) (is_row : row ≡ row_at table link)
    (before between stored after : List ℕ) (at middle next : ℕ) where
  pub filled_by_node : Filled (slots_from limits table (remaining - 1) row.left) before at between middle
      → stored ≡ set between middle link
      → Filled (slots_from limits table (remaining - 1) row.right) stored (middle + 1) after next
      → Filled (slots_from limits table remaining link) before at after next
  filled_by_node near put far =
      let xs = slots_from limits table (remaining - 1) row.left in
      let ys = slots_from limits table (remaining - 1) row.right in
      rw (slots_at_node limits table remaining link deep some high, ← is_row)
      (filled_in_turn xs (link ∷ ys) before between after at middle next near
      (filled_in_turn (link ∷ []) ys between stored after middle (middle + 1) next
      (filled_by_one between stored middle link (middle + 1) put refl) far))
