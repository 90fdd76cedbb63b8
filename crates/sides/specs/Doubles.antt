-- Balances after a double rotation (M-102 of document 02), in label order: those of the lower, the middle and the upper
-- of its three nodes.
use Rattle.std.specs.Prelude.{◌≡◌, not, cond, ℕ, suc, ◌≤◌, ◌<◌, eqb}
use Rattle.trees.specs.Trees.{Entry, Tree, empty, node, Side, left, right, other, on}
use Rattle.trees.specs.Heights.{height, Balanced}
use Rattle.trees.specs.Turns.{turned}
use Rattle.tables.specs.Prefix.{balance_of}
use Rattle.sides.specs.declared.Balances.{Balances}

abbrev pub balances : (lower middle upper : ℕ) → Balances
balances lower middle upper = record { lower = lower; middle = middle; upper = upper }

-- "write the new balances of the three nodes as three cases, by whether the middle node in label order was left taller"
-- (0), "even" (1) "or right taller" (2); a word above 2 counts as even
--
--   middle before     lower           middle   upper
--   0 left taller     1 even          1 even   2 right taller
--   1 even            1 even          1 even   1 even
--   2 right taller    0 left taller   1 even   1 even
abbrev pub double_turn : ℕ → Balances
double_turn middle =
    cond (eqb middle 0) (balances 1 1 2)
    (cond (not (eqb middle 2)) (balances 1 1 1)
    (balances 0 1 1))

-- the balance that the heights give at a tree's root, and those at its left son, its root and its right son
abbrev pub balance_at : Tree → ℕ
balance_at empty = 1
balance_at (node l e r) = balance_of (height l) (height r)

abbrev pub balances_at : Tree → Balances
balances_at empty = balances 1 1 1
balances_at (node l e r) = balances (balance_at l) (balance_of (height l) (height r)) (balance_at r)

-- where a double rotation is made: a node's son on the side s has the subtrees l and r and keeps the height rule; it is
-- taller by two than the node's other son, and leans the other way
pub record TurnsTwice (s : Side) (l : Tree) (y : Entry) (r : Tree) (short : Tree) : Type 0 where
  pub balanced : Balanced (node l y r)
  pub by_two : height (node l y r) ≡ suc (suc (height short))
  pub other_way : height (on s l r) < height (on (other s) l r)

-- cases by which a double rotation's new balances are those that the new heights give: the middle node in label order
-- is the root of the son's subtree on the other side; the turned tree has it as its root, and the lower and the upper
-- node as its sons
abbrev pub GiveBalances : (ℕ → Balances) → Type 0
GiveBalances cases =
    (s : Side) (l : Tree) (y : Entry) (r : Tree) (e : Entry) (short : Tree) → TurnsTwice s l y r short
    → balances_at (turned s (node l y r) e short) ≡ cases (balance_at (on (other s) l r))

-- The claim: "Show each case, for either lean, equal to the balances the new heights give", at all three nodes; and no
-- other cases are.
pub record DoubleTurnBalances : Type 0 where
  pub each : GiveBalances double_turn
  pub only : (cases : ℕ → Balances) → GiveBalances cases → (middle : ℕ) → middle ≤ 2 → cases middle ≡ double_turn middle

-- A wrong version: the near node taken for the lower one and the far node for the upper one, with no balance mirrored.
abbrev pub near_first : Side → Balances → Balances
near_first left now = now
near_first right now = balances now.upper now.middle now.lower

abbrev pub NotMirrored : Type 0
NotMirrored =
    (s : Side) (l : Tree) (y : Entry) (r : Tree) (e : Entry) (short : Tree) → TurnsTwice s l y r short
    → near_first s (balances_at (turned s (node l y r) e short)) ≡ double_turn (balance_at (on (other s) l r))
