-- Word 7 on sound tables: M-109 of document 02, "Word 7 of a slot in use becomes the strap's charge".
use Rattle.std.specs.Prelude.{true, ◌≡◌, ℕ, ◌≤◌}
use Rattle.types.specs.declared.Limits.{Limits}
use Rattle.trees.specs.Trees.{Entry, Tree, NodeOf, slots}
use Rattle.trees.specs.Charges.{is_charge}
use Rattle.trees.specs.Valid.{occurrences}
use Rattle.tables.specs.Words.{put_charge}
use Rattle.tables.specs.Written.{Memory}
use Rattle.tables.specs.Sound.{state_of}
use Rattle.tables.specs.Claims.{Sound}
use Rattle.tables.specs.MapClaims.{charge_in}

-- the tree that a table holds
abbrev pub tree_in : Limits → Memory → Tree
tree_in limits m = (state_of limits m.table m.store).tree

-- The claim, for every sound table.
pub record ChargeRule (limits : Limits) : Type 0 where
  -- "The soundness check demands it": word 7 of a slot in use is 0 to 100, or 255
  pub demanded :
      (m : Memory) → Sound limits m → (e : Entry) → NodeOf e (tree_in limits m) → is_charge (charge_in m e.slot) ≡ true
  -- and any charge will do: 0 too, which stood there always before the request
  pub any :
      (m : Memory) → Sound limits m → (e : Entry) → NodeOf e (tree_in limits m)
      → (charge : ℕ) → is_charge charge ≡ true
      → Sound limits (record { table = put_charge m.table e.slot charge; store = m.store })
  -- "a free slot keeps 0 there": one that no node has
  pub free :
      (m : Memory) → Sound limits m → (k : ℕ) → 1 ≤ k → k ≤ limits.slots
      → occurrences k (slots (tree_in limits m)) ≡ 0 → charge_in m k ≡ 0
