-- Rows seen from a side, read and stored; and balances.
-- `Leans`, `leans`, `balance_is`: what a balance says of two heights.
-- `mirrored_balance`: it is mirrored where the heights change places.
-- `flipped_twice`: a row flipped twice is the row.
-- `flipped_bare`: a node's row seen from a side is the row of the node with its near son on the left.
-- `row_on_same`, `row_on_other`: rows read after a store.
use mathlib.Core.Path.{◌≡◌, refl, sym, ap, ◌∙◌}
use mathlib.Core.Logic.{◌≢◌}
use mathlib.Core.List.{List}
use mathlib.Core.Bool.{Bool, true, false}
use Prim.Native.Nat.{ℕ, zero, suc, ◌≤◌, ◌<◌, Ordering}
use native.Mathlib.Omega.{arith}
use borrow.Author.Tests.{ne_eqb}
use Rattle.types.specs.declared.Row.{Row}
use Rattle.labels.specs.Neighbours.{Neighbour}
use Rattle.labels.proofs.Numbers.{Ordered, is_lt, is_eq, is_gt, ordered}
use Rattle.trees.specs.Trees.{Entry, Tree, Side, left, right, other, on}
use Rattle.trees.specs.Heights.{height}
use Rattle.tables.specs.Prefix.{balance_by, balance_of}
use Rattle.words.specs.Rows.{HasRow}
use Rattle.words.proofs.Laws.{row_put_same, row_put_other}
use Rattle.sides.specs.Rows.{mirrored, flipped, row_on, put_on, linked_row}
use Rattle.rotations.proofs.Rep.{bare_row, flip_on}

-- the heights of two sons, and the balance that says how they lie
pub data Leans (near far : ℕ) : ℕ → Type 0 where
  to_near : far < near → Leans near far 0
  even : near ≡ far → Leans near far 1
  to_far : near < far → Leans near far 2

-- The balance of two heights says how they lie.
pub leans : (near far : ℕ) → Leans near far (balance_of near far)
leans near far = go (ordered near far)
  where
    go : {o : Ordering} → Ordered near far o → Leans near far (balance_by o)
    go (is_lt h) = to_far h
    go (is_eq h) = even h
    go (is_gt h) = to_near h

-- Two heights have one balance.
pub balance_is : {near far b : ℕ} → Leans near far b → balance_of near far ≡ b
balance_is {near} {far} lean = go (ordered near far) lean
  where
    go : {o : Ordering} {b : ℕ} → Ordered near far o → Leans near far b → balance_by o ≡ b
    go (is_lt h) (to_near g) = absurd (omega arith)
    go (is_lt h) (even g) = absurd (omega arith)
    go (is_lt h) (to_far g) = refl
    go (is_eq h) (to_near g) = absurd (omega arith)
    go (is_eq h) (even g) = refl
    go (is_eq h) (to_far g) = absurd (omega arith)
    go (is_gt h) (to_near g) = refl
    go (is_gt h) (even g) = absurd (omega arith)
    go (is_gt h) (to_far g) = absurd (omega arith)

-- The heights seen from the other side.
leans_mirrored : {near far b : ℕ} → Leans near far b → Leans far near (mirrored b)
leans_mirrored (to_near h) = to_far h
leans_mirrored (even h) = even (omega arith)
leans_mirrored (to_far h) = to_near h

-- A balance is mirrored where the heights change places.
pub mirrored_balance : (near far : ℕ) → mirrored (balance_of far near) ≡ balance_of near far
mirrored_balance near far = sym (balance_is (leans_mirrored (leans far near)))

-- A balance mirrored twice is the balance.
mirrored_twice : (b : ℕ) → mirrored (mirrored b) ≡ b
mirrored_twice zero = refl
mirrored_twice (suc zero) = refl
mirrored_twice (suc (suc zero)) = refl
mirrored_twice (suc (suc (suc b))) =
    simp (ne_eqb (suc (suc (suc b))) 0 (omega arith), ne_eqb (suc (suc (suc b))) 2 (omega arith))

-- A row with the balance it has is the row.
same_balance : (row : Row) (b : ℕ) → row.balance ≡ b → row ≡ linked_row row row.left row.right b
same_balance row b e = ap (linked_row row row.left row.right) e

-- A row flipped twice is the row.
pub flipped_twice : (flip : Bool) (row : Row) → flipped flip (flipped flip row) ≡ row
unfolding flipped
flipped_twice false row = refl
flipped_twice true row = same_balance (flipped true (flipped true row)) row.balance (mirrored_twice row.balance)

-- A node's row seen from a side is the row of the node with its near son on the left.
pub flipped_bare : (s : Side) (p q : Neighbour) (near : Tree) (e : Entry) (far : Tree)
    → flipped (flip_on s) (bare_row p (on s near far) e (on (other s) near far) q) ≡ bare_row p near e far q
unfolding flipped
flipped_bare left p q near e far = refl
flipped_bare right p q near e far =
    same_balance (flipped true (bare_row p far e near q)) (balance_of (height near) (height far))
    (mirrored_balance (height near) (height far))

module _ (flip : Bool) (table : List ℕ) (k : ℕ) (row : Row) where
  -- A stored row is read back.
  pub row_on_same : HasRow table k → row_on flip (put_on flip table k row) k ≡ row
  row_on_same has = ap (flipped flip) (row_put_same table k (flipped flip row) has) ∙ flipped_twice flip row

  -- The rows of the other slots stay.
  pub row_on_other : (j : ℕ) → 1 ≤ k → 1 ≤ j → j ≢ k → row_on flip (put_on flip table k row) j ≡ row_on flip table j
  row_on_other j low low' apart = ap (flipped flip) (row_put_other table k j (flipped flip row) low low' apart)
