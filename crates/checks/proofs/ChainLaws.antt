-- The walk along the free chain, and the test of the unused rest.
-- `chain_done`, `chain_ended`, `chain_outside`, `chain_broken`, `chain_on`: what the walk finds at a slot.
-- `rest_outside`, `rest_broken`, `rest_bytes`: what the test of the rest finds.
-- `rest_within`: the test of the rest stays within the store. `chain_fits`: the high mark is within the slots.
use Prim.Native.Nat.{ℕ, suc, ◌+◌, ◌-◌, ◌*◌, ◌≤◌, ◌<◌}
use mathlib.Core.Path.{◌≡◌, refl, sym, ◌∙◌}
use mathlib.Core.List.{List}
use mathlib.Core.Bool.{Bool, true, false, ◌&&◌}
use native.Mathlib.Omega.{arith}
use native.Mathlib.Nat.{mul_comm, mul-le-mul_left}
use lib.Dec.{eqb, leb}
use lib.ListN.{length, drop}
use borrow.Author.Tests.{leb-true, le-leb, lt-leb}
use Rattle.types.specs.declared.Limits.{Limits}
use Rattle.types.specs.declared.Row.{Row}
use Rattle.trees.proofs.Views.{both_true}
use Rattle.tables.specs.Words.{high_mark, row_at, part_at}
use Rattle.tables.specs.Sound.{all_zero, zero_besides_left, unused_slots}
use Rattle.words.specs.Limits.{SizesFit}
use Rattle.nodechecks.specs.Nodes.{freed_row}
use Rattle.checks.specs.Check.{check_chain}
use Rattle.checks.specs.Fits.{ChainFits}

-- ---- the free chain

module _ (limits : Limits) (table store : List ℕ) where
  -- a slot in range
  chain_step : (n k : ℕ) → 1 ≤ k → k ≤ high_mark table
      → check_chain limits table store (suc n) k
      ≡ freed_row limits store k (row_at table k) && check_chain limits table store n (row_at table k).left
  unfolding check_chain freed_row
  chain_step n k p q =
      rw (le-leb 1 k p, le-leb k (high_mark table) q, check_chain)
      (regroup (zero_besides_left (row_at table k)) (all_zero (part_at limits store k))
      (check_chain limits table store n (row_at table k).left))
    where
      regroup : (a b c : Bool) → a && (b && c) ≡ (a && b) && c
      regroup true b c = refl
      regroup false b c = refl

  -- a link out of range
  chain_stray : (n k : ℕ) → leb 1 k && leb k (high_mark table) ≡ false → check_chain limits table store (suc n) k ≡ false
  unfolding check_chain
  chain_stray n k e = rw (e, check_chain)

-- the walk of a chain of count slots from a link has come past so many of them, to a slot
module _ (limits : Limits) (table store : List ℕ) (count link past slot : ℕ)
    (so : check_chain limits table store (count - past) slot ≡ check_chain limits table store count link) where
  -- past all
  pub chain_done : count ≤ past → eqb slot 0 ≡ check_chain limits table store count link
  unfolding check_chain
  chain_done h = let none : count - past ≡ 0 = omega arith in rw none at so

  module _ (more : past < count) where
    next : check_chain limits table store (suc (count - (past + 1))) slot ≡ check_chain limits table store count link
    next = let one_more : count - past ≡ suc (count - (past + 1)) = omega arith in rw one_more at so

    -- the chain ends too soon
    pub chain_ended : slot < 1 → false ≡ check_chain limits table store count link
    chain_ended h = sym (chain_stray limits table store (count - (past + 1)) slot (rw (lt-leb 1 slot h))) ∙ next

    -- the link is out of range
    pub chain_outside : (high : ℕ) → ChainFits limits table store high → 1 ≤ slot → high < slot
        → false ≡ check_chain limits table store count link
    chain_outside high fits p h =
        let above : high_mark table < slot = omega arith in
        let stray : leb 1 slot && leb slot (high_mark table) ≡ false =
        rw (le-leb 1 slot p, lt-leb slot (high_mark table) above) in
        sym (chain_stray limits table store (count - (past + 1)) slot stray) ∙ next

    module _ (row : Row) (t : Bool) (high : ℕ) (fits : ChainFits limits table store high)
        (low : 1 ≤ slot) (below : slot ≤ high) (read : row ≡ row_at table slot)
        (tested : t ≡ freed_row limits store slot row) where
      step : t && check_chain limits table store (count - (past + 1)) row.left ≡ check_chain limits table store count link
      step = rw (tested, read) (sym (chain_step limits table store (count - (past + 1)) slot low (omega arith)) ∙ next)

      -- the slot is not as freed
      pub chain_broken : t ≡ false → false ≡ check_chain limits table store count link
      chain_broken f = rw f at step

      -- the slot is as freed
      pub chain_on : t ≡ true
          → check_chain limits table store (count - (past + 1)) row.left ≡ check_chain limits table store count link
      chain_on e = rw e at step

-- ---- the unused rest

module _ (limits : Limits) (table store : List ℕ) (high : ℕ) where
  -- it starts within the store
  pub rest_within : SizesFit limits table store → high ≤ limits.slots → limits.width * high ≤ length store
  rest_within sizes h =
      omega (arith, mul-le-mul_left limits.width h, mul_comm limits.width limits.slots, sizes.bytes)

  -- the high mark is out of range
  pub rest_outside : limits.slots < high → false ≡ unused_slots limits table store high
  rest_outside h = rw (lt-leb high limits.slots h)

  module _ (t : Bool) (h : high ≤ limits.slots) (tested : t ≡ all_zero (drop (4 + 8 * high) table)) where
    -- a word is not zero
    pub rest_broken : t ≡ false → false ≡ unused_slots limits table store high
    rest_broken f = rw (le-leb high limits.slots h, sym tested ∙ f)

    -- the words are zero
    pub rest_bytes : (r : Bool) → t ≡ true → r ≡ all_zero (drop (limits.width * high) store)
        → r ≡ unused_slots limits table store high
    rest_bytes r e f = rw (le-leb high limits.slots h, sym tested ∙ e) f

-- where the rest is zero, the high mark is within the slots, and the chain may be walked below it
pub chain_fits : (limits : Limits) (table store : List ℕ) (t : Bool) → SizesFit limits table store
    → t ≡ unused_slots limits table store (high_mark table) → t ≡ true → ChainFits limits table store (high_mark table)
chain_fits limits table store t sizes tested e = record {
  sizes = sizes;
  mark = refl;
  within = leb-true _ _ ((both_true (leb (high_mark table) limits.slots) _).0 (sym tested ∙ e)).0;
}
