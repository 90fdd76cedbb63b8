-- Prefix fields renewed by labels, before a node is taken out: of the nodes that had it as a neighbour.
use Rattle.std.specs.Prelude.{List, Bool, true, false, cond, ℕ, zero, suc, eqb}
use Rattle.types.specs.declared.Limits.{Limits}
use Rattle.tables.specs.Words.{row_at}
use Rattle.words.specs.Rows.{put_row}
use Rattle.sides.specs.Rows.{row_on, prefixed}
use Rattle.sides.specs.declared.Fields.{Fields}
use Rattle.fields.specs.Between.{fields_between, no_fields}

unfoldable pub renewed : Limits → (table store : List ℕ) → (slot below above : ℕ) → List ℕ
renewed limits table store slot below above =
    let fields = fields_between limits table store slot below above in
    put_row table slot (prefixed (row_at table slot) fields.place fields.side)

-- the spine from a slot towards the node in the slot least, which comes next to it, with so many nodes remaining at
-- most; outer: the slot of the neighbour on the other side.
-- Not flipped it goes right, and least is above; flipped it goes left, least is below, and the spine ends there.
unfoldable pub renewed_spine : Limits → Bool → (remaining : ℕ) → (table store : List ℕ) → (slot outer least : ℕ)
    → List ℕ
renewed_spine limits flip zero table store slot outer least = table
renewed_spine limits flip (suc remaining) table store slot outer least =
    let after = renewed limits table store slot (cond flip least outer) (cond flip outer least) in
    let further = renewed_spine limits flip remaining after store (row_on flip table slot).right slot least in
    cond (eqb slot 0) table (cond (eqb slot least) table further)

-- the smallest node of the subtree at a slot, of which so many nodes remain at most on the way down
unfoldable pub least_from : (remaining : ℕ) → (table : List ℕ) → ℕ → ℕ
least_from zero table slot = slot
least_from (suc remaining) table slot =
    let deeper = least_from remaining table (row_at table slot).left in
    cond (eqb (row_at table slot).left 0) slot deeper

-- around a node c with two sons, between the slots below and above; least: the smallest node of its right subtree
unfoldable pub renewed_spines : Limits → (table store : List ℕ) → (c below above least : ℕ) → List ℕ
renewed_spines limits table store c below above least =
    renewed_spine limits true limits.depth
    (renewed_spine limits false limits.depth table store (row_at table c).left below least)
    store (row_at table c).right above least

-- around a node c with one son, between the slots below and above
unfoldable pub renewed_son : Limits → (table store : List ℕ) → (son below above : ℕ) → List ℕ
renewed_son limits table store son below above = cond (eqb son 0) table (renewed limits table store son below above)

pub record Renewed : Type 0 where
  pub table : List ℕ
  pub next : Fields

-- around the node c that is to be taken out; next: the fields of the node that takes its place, where it has two sons
unfoldable pub renewed_around : Limits → (table store : List ℕ) → (c below above : ℕ) → Renewed
renewed_around limits table store c below above =
    let row = row_at table c in
    let least = least_from limits.depth table row.right in
    let two : Renewed = record {
      table = renewed_spines limits table store c below above least;
      next = fields_between limits table store least below above;
    } in
    let right : Renewed = record { table = renewed_son limits table store row.right below above; next = no_fields } in
    let left : Renewed = record { table = renewed_son limits table store row.left below above; next = no_fields } in
    cond (eqb row.left 0) right (cond (eqb row.right 0) left two)
