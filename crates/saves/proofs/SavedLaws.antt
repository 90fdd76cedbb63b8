-- The entries at a link, by the tests of the walk.
-- `entries_at_depth`, `entries_at_none`, `entries_above`: none. `entries_at_node`: those of the left son, the node's
-- own, and those of the right son.
use mathlib.Core.List.{List, [], ◌∷◌, ◌++◌, map, map-append}
use mathlib.Core.Path.{◌≡◌, ap, ◌∙◌}
use Prim.Native.Nat.{ℕ, ◌-◌, ◌≤◌, ◌<◌}
use Rattle.types.specs.declared.Limits.{Limits}
use Rattle.types.specs.declared.Row.{Row}
use Rattle.tables.specs.Words.{row_at}
use Rattle.files.specs.Files.{entries_of}
use Rattle.files.proofs.FileLaws.{entries_of_append}
use Rattle.lists.specs.Listed.{slots_from}
use Rattle.lists.proofs.ListLaws.{slots_at_depth, slots_at_none, slots_above, slots_at_node}
use Rattle.saves.specs.Saved.{pair_in_slot, entry_in_slot, entries_from}

module _ (limits : Limits) (table store : List ℕ) where
  -- what is written of slots
  abbrev entries_in : List ℕ → List ℕ
  entries_in slots = entries_of (map (pair_in_slot limits table store) slots)

  pub entries_at_depth : (remaining link : ℕ) → remaining ≡ 0 → entries_from limits table store remaining link ≡ []
  unfolding entries_from
  entries_at_depth remaining link e = ap entries_in (slots_at_depth limits table remaining link e)

  pub entries_at_none : (remaining link : ℕ) → link ≡ 0 → entries_from limits table store remaining link ≡ []
  unfolding entries_from
  entries_at_none remaining link e = ap entries_in (slots_at_none limits table remaining link e)

  pub entries_above : (remaining link : ℕ) → limits.slots < link → entries_from limits table store remaining link ≡ []
  unfolding entries_from
  entries_above remaining link h = ap entries_in (slots_above limits table remaining link h)

  -- Those of the left son, the node's own, and those of the right son.
  pub entries_at_node : (remaining link : ℕ) (row : Row) → (remaining ≡ 0 → ⊥) → (link ≡ 0 → ⊥) → link ≤ limits.slots
      → row ≡ row_at table link
      → entries_from limits table store remaining link
      ≡ entries_from limits table store (remaining - 1) row.left
      ++ (entry_in_slot limits store link row ++ entries_from limits table store (remaining - 1) row.right)
  unfolding entries_from
  entries_at_node remaining link row deep some high is_row =
      let near = slots_from limits table (remaining - 1) (row_at table link).left in
      let far = slots_from limits table (remaining - 1) (row_at table link).right in
      let pair = pair_in_slot limits table store in
      rw is_row
      (ap entries_in (slots_at_node limits table remaining link deep some high)
      ∙ ap entries_of (map-append pair near (link ∷ far))
      ∙ entries_of_append (map pair near) (map pair (link ∷ far)))
