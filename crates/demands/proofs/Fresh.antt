-- What layout leaves is the fresh state, written out.
-- laid_out_is_fresh: so it is of a table and a store of the right lengths.
use mathlib.Core.List.{List, [], ◌∷◌, ◌++◌}
use mathlib.Core.Path.{◌≡◌, refl, ap, ◌∙◌}
use Prim.Native.Nat.{ℕ, zero, suc, ◌*◌}
use native.Mathlib.Nat.{zero-mul, suc-mul, add_comm}
use native.Mathlib.Omega.{arith}
use lib.ListN.{length, replicate, replicate-append-replicate}
use Rattle.types.specs.declared.Limits.{Limits}
use Rattle.types.specs.Sizes.{table_length, store_length}
use Rattle.trees.specs.Plain.{fresh}
use Rattle.tables.specs.Written.{slot_row, slot_label, rows_from, part_before, parts_from}
use Rattle.tables.specs.Written.{written, written_table, written_store}
use Rattle.tables.specs.Outcomes.{layout_outcome}
use Rattle.demands.proofs.Outcomes.{memory_passes}

-- The rows of the fresh state are zeros.
zero_rows : (k n : ℕ) → rows_from (slot_row fresh) k n ≡ replicate (8 * n) 0
zero_rows k zero = refl
zero_rows k (suc n) =
    let longer : 8 * suc n ≡ suc (suc (suc (suc (suc (suc (suc (suc (8 * n)))))))) = omega arith in
    rw (longer, zero_rows (suc k) n)

-- No label's part is zeros.
zero_part : (width : ℕ) (more : List ℕ) → part_before width [] more ≡ replicate width 0 ++ more
zero_part zero more = refl
zero_part (suc width) more = ap (λ (rest : List ℕ). 0 ∷ rest) (zero_part width more)

-- The parts of the fresh state are zeros.
zero_parts : (width k n : ℕ) → parts_from width (slot_label fresh) k n ≡ replicate (n * width) 0
zero_parts width k zero = rw zero-mul
zero_parts width k (suc n) =
    rw (suc-mul, add_comm (n * width) width, zero_parts width (suc k) n) (zero_part width (replicate (n * width) 0)
    ∙ replicate-append-replicate width (n * width) 0)

-- What layout leaves, at the right lengths, is the fresh state written out.
pub laid_out_is_fresh : (limits : Limits) (table store : List ℕ)
    → length table ≡ table_length limits → length store ≡ store_length limits
    → (layout_outcome limits table store).memory ≡ written limits fresh
unfolding layout_outcome written_table written_store
laid_out_is_fresh limits table store words bytes =
    let longer : table_length limits ≡ suc (suc (suc (suc (8 * limits.slots)))) = omega arith in
    rw (
      memory_passes limits table store words bytes,
      words,
      bytes,
      longer,
      zero_rows 1 limits.slots,
      zero_parts limits.width 1 limits.slots,
    )
