-- The walk along the free chain.
-- `chain_of_check`: it passes only along a linked chain of freed slots up to the high mark, as long as was asked.
-- `check_of_chain`: along such a chain it passes.
use mathlib.Core.List.{List, [], ◌∷◌}
use mathlib.Core.Path.{◌≡◌, refl, ap}
use mathlib.Core.Bool.{Bool, true, false, ◌&&◌}
use Prim.Native.Nat.{ℕ, zero, suc, ◌≤◌}
use native.Mathlib.Omega.{arith}
use lib.Dec.{leb}
use lib.ListN.{length}
use borrow.Author.Tests.{leb-true, le-leb, eqb-true}
use Rattle.types.specs.declared.Limits.{Limits}
use Rattle.trees.proofs.Views.{both_true}
use Rattle.tables.specs.Words.{high_mark, row_at, part_at}
use Rattle.tables.specs.Sound.{all_zero, zero_besides_left, freed_slots}
use Rattle.checks.specs.Check.{check_chain}
use Rattle.decides.proofs.OnceEach.{All, all_none, all_more, InRange}
use Rattle.trees.proofs.Passing.{and_true, false_not_true}
use Rattle.tables.proofs.Reading.{Follows, follows_none, follows_slot}
use Rattle.tables.proofs.Clauses.{freed_of_test}

-- a chain of n freed slots up to the high mark goes on from a link
pub record FreeFrom (limits : Limits) (table store : List ℕ) (link n : ℕ) : Type 0 where
  pub freed : List ℕ
  pub follows : Follows limits table freed link
  pub counted : length freed ≡ n
  pub free : freed_slots limits table store freed ≡ true
  pub within : All (InRange (high_mark table)) freed

module _ (limits : Limits) (table store : List ℕ) where
  -- One more freed slot before a chain.
  free_more : {k n : ℕ} → 1 ≤ k → k ≤ high_mark table → high_mark table ≤ limits.slots
      → zero_besides_left (row_at table k) ≡ true → all_zero (part_at limits store k) ≡ true
      → FreeFrom limits table store (row_at table k).left n → FreeFrom limits table store k (suc n)
  free_more {k} low high fits words bytes rest = record {
    freed = k ∷ rest.freed;
    follows = follows_slot {k = k} low (omega arith) rest.follows;
    counted = ap suc rest.counted;
    free = and_true words (and_true bytes rest.free);
    within = all_more (record { low = low; high = high }) rest.within;
  }

  -- The walk passes only along a chain of freed slots up to the high mark, as long as was asked.
  pub chain_of_check : high_mark table ≤ limits.slots → (n link : ℕ) → check_chain limits table store n link ≡ true
      → FreeFrom limits table store link n
  unfolding check_chain
  chain_of_check fits zero link passed =
      rw (eqb-true link 0 passed)
      (record { freed = []; follows = follows_none; counted = refl; free = refl; within = all_none })
  chain_of_check fits (suc n) link passed =
      go (leb 1 link && leb link (high_mark table)) refl (chain_of_check fits n (row_at table link).left)
    where
      go : (b : Bool) → (leb 1 link && leb link (high_mark table)) ≡ b
          → (check_chain limits table store n (row_at table link).left ≡ true
          → FreeFrom limits table store (row_at table link).left n)
          → FreeFrom limits table store link (suc n)
      go true e further =
          let range = (both_true (leb 1 link) (leb link (high_mark table))).0 e in
          let of_words = (both_true (zero_besides_left (row_at table link)) _).0 (rw (e, check_chain) at passed) in
          let of_bytes = (both_true (all_zero (part_at limits store link)) _).0 of_words.1 in
          free_more (leb-true _ _ range.0) (leb-true _ _ range.1) fits of_words.0 of_bytes.0
          (further of_bytes.1)
      go false e further = false_not_true (rw (e, check_chain) at passed)

  -- Along a chain of freed slots up to the high mark the walk passes.
  pub check_of_chain : {link : ℕ} {freed : List ℕ} → Follows limits table freed link
      → freed_slots limits table store freed ≡ true → All (InRange (high_mark table)) freed
      → check_chain limits table store (length freed) link ≡ true
  unfolding check_chain
  check_of_chain follows_none free within = refl
  check_of_chain (follows_slot {k} {more} low up rest) free (all_more range within) =
      let first = freed_of_test limits table store k more free in
      let here : (leb 1 k && leb k (high_mark table)) ≡ true =
      and_true (le-leb 1 k range.low) (le-leb k (high_mark table) range.high) in
      rw (here, check_chain)
      (and_true first.words (and_true first.bytes (check_of_chain rest first.others within)))
