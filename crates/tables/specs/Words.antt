-- 'Words and bytes lent' of document 01: where the words of a table and the bytes of a store stand.
use Rattle.std.specs.Prelude.{List, ℕ, ◌+◌, ◌-◌, ◌*◌, get_or, set, take, drop}
use Rattle.types.specs.declared.Limits.{Limits}
use Rattle.types.specs.declared.Row.{Row}
use Rattle.labels.specs.Labels.{Label}
use Rattle.trees.specs.Trees.{Entry}

-- "Words 0 to 3: root link, labels held, first free link, high mark"
abbrev pub root_link : List ℕ → ℕ
root_link table = get_or table 0 0

abbrev pub labels_held : List ℕ → ℕ
labels_held table = get_or table 1 0

abbrev pub first_free : List ℕ → ℕ
first_free table = get_or table 2 0

abbrev pub high_mark : List ℕ → ℕ
high_mark table = get_or table 3 0

-- "Slot k has the eight words from 4 + 8 × (k − 1)"
abbrev pub slot_start : ℕ → ℕ
slot_start k = 4 + 8 * (k - 1)

-- the table of the eight words: "left link, right link, place, side, balance, label length, value"; "Word 7 of a slot
-- in use becomes the strap's charge" (M-109 of document 02)
abbrev pub row_from : List ℕ → ℕ → Row
row_from table b =
    record {
      left = get_or table b 0;
      right = get_or table (b + 1) 0;
      place = get_or table (b + 2) 0;
      side = get_or table (b + 3) 0;
      balance = get_or table (b + 4) 0;
      len = get_or table (b + 5) 0;
      value = get_or table (b + 6) 0;
      charge = get_or table (b + 7) 0;
    }

unfoldable pub row_at : List ℕ → ℕ → Row
row_at table k = row_from table (slot_start k)

-- word 7 of slot k stored, every other word as it was
unfoldable pub put_charge : List ℕ → ℕ → ℕ → List ℕ
put_charge table k charge = set table (slot_start k + 7) charge

-- "The label store is 32,768 bytes, 64 for each slot, slot 1 first"
abbrev pub part_start : Limits → ℕ → ℕ
part_start limits k = limits.width * (k - 1)

unfoldable pub part_at : Limits → List ℕ → ℕ → List ℕ
part_at limits store k = take limits.width (drop (part_start limits k) store)

-- "a node's label there is read by its length word from its 64 bytes"
unfoldable pub label_at : Limits → List ℕ → ℕ → ℕ → Label
label_at limits store k len = take len (drop (part_start limits k) store)

-- the node of slot k
abbrev pub entry_at : Limits → List ℕ → List ℕ → ℕ → Entry
entry_at limits table store k =
    record {
      label = label_at limits store k (row_at table k).len;
      value = (row_at table k).value;
      slot = k;
      charge = (row_at table k).charge;
    }
