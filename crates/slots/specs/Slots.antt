-- Slots taken and freed, in a table's words, and labels set into a store and taken out of it.
use Rattle.std.specs.Prelude.{List, Option, Some, None, cond, ℕ, ◌+◌, eqb, set, replicate}
use Rattle.std.proofs.lemmas.List.Edits.{sets}
use Rattle.types.specs.declared.Limits.{Limits}
use Rattle.labels.specs.Labels.{Label}
use Rattle.tables.specs.Words.{root_link, first_free, high_mark, row_at, part_start}
use Rattle.tables.specs.Written.{free_row}
use Rattle.words.specs.Rows.{put_row}
use Rattle.sides.specs.Rows.{prefixed}

-- "A new label takes the slot freed last; if none is free, the slot just above the high mark, which rises by one."
unfoldable pub free_slot : List ℕ → Option ℕ
free_slot table = cond (eqb (first_free table) 0) None (Some (first_free table))

unfoldable pub slot_taken : List ℕ → ℕ
slot_taken table = cond (eqb (first_free table) 0) (high_mark table + 1) (first_free table)

-- the table without the slot in its free chain, or with a higher mark
unfoldable pub after_taken : List ℕ → List ℕ
after_taken table =
    cond (eqb (first_free table) 0) (set table 3 (high_mark table + 1))
    (set table 2 (row_at table (first_free table)).left)

-- the slot put in front of the free chain, its other words zero
unfoldable pub after_freed : List ℕ → ℕ → List ℕ
after_freed table k = set (put_row table k (free_row (first_free table))) 2 k

unfoldable pub with_count : List ℕ → ℕ → List ℕ
with_count table count = set table 1 count

-- the root's place: while nodes are turned it counts as 0
unfoldable pub with_root_place : List ℕ → ℕ → List ℕ
with_root_place table place =
    cond (eqb (root_link table) 0) table
    (put_row table (root_link table) (prefixed (row_at table (root_link table)) place (row_at table (root_link table)).side))

-- a label's bytes at the front of its slot's part
unfoldable pub with_label : Limits → (store : List ℕ) → ℕ → Label → List ℕ
with_label limits store k x = sets store (part_start limits k) x

-- zeros in a slot's whole part
unfoldable pub without_label : Limits → (store : List ℕ) → ℕ → List ℕ
without_label limits store k = sets store (part_start limits k) (replicate limits.width 0)
