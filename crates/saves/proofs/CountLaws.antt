-- How many bytes the entries at a link take.
-- `counted_none`: none. `parts_counted`: those of the left son, the node's own and those of the right son.
-- `count_near`, `count_own`, `count_far`: a machine word counts each of these.
-- `sum_fits`, `whole_fits`: and their sums. `counted_node`: which are all.
use mathlib.Core.List.{List, [], ◌++◌}
use mathlib.Core.Path.{◌≡◌, sym, ap}
use Prim.Native.Nat.{ℕ, ◌+◌, ◌-◌, ◌^◌, ◌≤◌, ◌<◌}
use native.Mathlib.Omega.{arith}
use lib.ListN.{length, length-append}
use Rattle.types.specs.declared.Limits.{Limits}
use Rattle.types.specs.declared.Row.{Row}
use Rattle.tables.specs.Words.{row_at}
use Rattle.saves.specs.Saved.{entry_in_slot, entries_from, CountFits}
use Rattle.saves.proofs.SavedLaws.{entries_at_node}

pub counted_none : (run : List ℕ) → run ≡ [] → 0 ≡ length run
counted_none run e = sym (ap length e)

-- the entries at a link take as many bytes as those of the left son, the node's own and those of the right son
abbrev pub InParts : Limits → (table store : List ℕ) → (remaining link : ℕ) → Row → Type 0
InParts limits table store remaining link row =
    length (entries_from limits table store remaining link)
    ≡ length (entries_from limits table store (remaining - 1) row.left)
    + (length (entry_in_slot limits store link row)
    + length (entries_from limits table store (remaining - 1) row.right))

pub parts_counted : (limits : Limits) (table store : List ℕ) (remaining link : ℕ) (row : Row)
    → (remaining ≡ 0 → ⊥) → (link ≡ 0 → ⊥) → link ≤ limits.slots → row ≡ row_at table link
    → InParts limits table store remaining link row
parts_counted limits table store remaining link row deep some high is_row =
    let near = entries_from limits table store (remaining - 1) row.left in
    let far = entries_from limits table store (remaining - 1) row.right in
    let own = entry_in_slot limits store link row in
    let all = ap length (entries_at_node limits table store remaining link row deep some high is_row) in
    omega (arith, length-append near (own ++ far), length-append own far)

module _ (limits : Limits) (table store : List ℕ) (remaining link : ℕ) (row : Row)
    (fits : CountFits limits table store remaining link) (deep : remaining ≡ 0 → ⊥) (some : link ≡ 0 → ⊥)
    (high : link ≤ limits.slots) (is_row : row ≡ row_at table link) where
  -- the entries of the left son and of the right son
  abbrev near : List ℕ
  near = entries_from limits table store (remaining - 1) row.left

  abbrev far : List ℕ
  far = entries_from limits table store (remaining - 1) row.right

  counts : length (entries_from limits table store remaining link)
      ≡ length near + (length (entry_in_slot limits store link row) + length far)
  counts = parts_counted limits table store remaining link row deep some high is_row

  pub count_near : CountFits limits table store (remaining - 1) row.left
  count_near =
      let few = fits.few in record { fit = fits.fit; words = fits.words; few = omega (arith, counts) }

  pub count_own : length (entry_in_slot limits store link row) < 2 ^ 64
  count_own = let few = fits.few in omega (arith, counts)

  pub count_far : CountFits limits table store (remaining - 1) row.right
  count_far =
      let few = fits.few in record { fit = fits.fit; words = fits.words; few = omega (arith, counts) }

  module _ (before own after : ℕ) (is_near : before ≡ length near)
      (is_own : own ≡ length (entry_in_slot limits store link row)) (is_far : after ≡ length far) where
    pub counted_node : before + (own + after) ≡ length (entries_from limits table store remaining link)
    counted_node = omega (arith, counts)

    pub sum_fits : own + after < 2 ^ 64
    sum_fits = let few = fits.few in omega (arith, counts)

    pub whole_fits : before + (own + after) < 2 ^ 64
    whole_fits = let few = fits.few in omega (arith, counts)
