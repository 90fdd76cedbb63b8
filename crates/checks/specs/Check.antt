-- The soundness test, as the code makes it: one walk over the tree with each node's neighbour window, one along the
-- free chain, one over the unused rest.
use Rattle.std.specs.Prelude.{List, Bool, true, false, ◌&&◌, ℕ, zero, suc, ◌-◌, eqb, ltb, leb, Option, Some, None}
use Rattle.types.specs.declared.Limits.{Limits}
use Rattle.tables.specs.Words.{root_link, labels_held, first_free, high_mark, row_at, part_at}
use Rattle.tables.specs.Sound.{all_zero, zero_besides_left, unused_slots}
use Rattle.nodechecks.specs.Nodes.{fine_between}
use Rattle.heights.specs.declared.Subtree.{Subtree}
use Rattle.heights.specs.declared.TheConstants.{EMPTY}
use Rattle.heights.specs.Over.{over}

-- the subtree at a link, at most remaining nodes deep, between the nodes in the slots below and above
unfoldable pub check_tree : Limits → (table store : List ℕ) → (remaining link below above : ℕ) → Option Subtree
check_tree limits table store zero zero below above = Some EMPTY
check_tree limits table store zero (suc k) below above = None
check_tree limits table store (suc remaining) zero below above = Some EMPTY
check_tree limits table store (suc remaining) (suc k) below above =
    elim (ltb limits.slots (suc k)) [
      | true ↦ None
      | false ↦ elim (fine_between limits table store (suc k) below above) [
        | true ↦ over (row_at table (suc k)).balance
            (check_tree limits table store remaining (row_at table (suc k)).left below (suc k))
            (check_tree limits table store remaining (row_at table (suc k)).right (suc k) above)
        | false ↦ None
      ]
    ]

-- the free chain from a link is exactly so many slots long, all up to the high mark
unfoldable pub check_chain : Limits → (table store : List ℕ) → (count link : ℕ) → Bool
check_chain limits table store zero link = eqb link 0
check_chain limits table store (suc count) link =
    elim (leb 1 link && leb link (high_mark table)) [
      | true ↦ zero_besides_left (row_at table link)
          && (all_zero (part_at limits store link) && check_chain limits table store count (row_at table link).left)
      | false ↦ false
    ]

-- the tree has as many nodes as labels are held
unfoldable pub count_is : ℕ → Option Subtree → Bool
count_is count None = false
count_is count (Some s) = eqb s.count count

-- the whole test
unfoldable pub sound_by_walks : Limits → (table store : List ℕ) → Bool
sound_by_walks limits table store =
    leb (labels_held table) (high_mark table)
    && (unused_slots limits table store (high_mark table)
    && (count_is (labels_held table) (check_tree limits table store limits.depth (root_link table) 0 0)
    && check_chain limits table store (high_mark table - labels_held table) (first_free table)))
