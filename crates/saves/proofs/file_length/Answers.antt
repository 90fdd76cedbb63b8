use native.Mathlib.Omega.{arith}
use Rattle.saves.proofs.FileFits.{count_whole, length_fits, file_counted}
use Rattle.saves.proofs.file_length.Goals as goal

pub count_from-requires : goal.count_from-requires
count_from-requires c = count_whole _ _ _ (λ i. omega (arith, c.shared_slice_known-4-1.given i)) c.requires

pub overflow_add-result : goal.overflow_add-result
overflow_add-result c = let words = c.shared_slice_known-4-1.given in
    let sum =
    length_fits _ _ _ (λ i. omega (arith, words i)) c.requires _ _ _ (omega (arith, words 1, words 0))
    c.count-held.ensures c.count_from.ensures in
    omega arith

pub returns : goal.returns
returns c = search file_counted
