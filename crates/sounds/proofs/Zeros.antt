-- Lists of zeros, and parts of a store that end in zeros.
-- zero_at: every word of an all_zero list is 0.
-- zeros_dropped, zeros_taken: the end and the front of an all_zero list are all_zero.
-- zeros_are_padding: an all_zero part is the part of no bytes.
-- padded_by_zeros: a part that is zero after its first bytes is those bytes, padded.
use mathlib.Core.List.{List, [], ◌∷◌}
use mathlib.Core.Path.{◌≡◌, refl, ap}
use mathlib.Core.Bool.{true}
use Prim.Native.Nat.{ℕ, zero, suc}
use native.Mathlib.Omega.{arith}
use lib.ListN.{length, get_or, take, drop}
use lib.Dec.{eqb}
use borrow.Author.Tests.{eqb-true}
use Rattle.trees.proofs.Views.{both_true}
use Rattle.tables.specs.Sound.{all_zero}
use Rattle.written.proofs.Chunks.{padded}

-- The first word of an all_zero list is 0, and the others are all_zero.
first_zero : (n : ℕ) (more : List ℕ) → all_zero (n ∷ more) ≡ true → (n ≡ 0) × (all_zero more ≡ true)
first_zero n more zeros =
    let (first, rest) = (both_true (eqb n 0) (all_zero more)).0 zeros in
    (eqb-true n 0 first, rest)

-- Every word of an all_zero list is 0.
pub zero_at : (list : List ℕ) → all_zero list ≡ true → (i : ℕ) → get_or list i 0 ≡ 0
zero_at [] zeros i = refl
zero_at (n ∷ more) zeros zero = (first_zero n more zeros).0
zero_at (n ∷ more) zeros (suc i) = zero_at more (first_zero n more zeros).1 i

-- What is left of an all_zero list is all_zero.
pub zeros_dropped : (m : ℕ) (list : List ℕ) → all_zero list ≡ true → all_zero (drop m list) ≡ true
zeros_dropped zero list zeros = zeros
zeros_dropped (suc m) [] zeros = refl
zeros_dropped (suc m) (n ∷ more) zeros = zeros_dropped m more (first_zero n more zeros).1

-- The front of an all_zero list is all_zero.
pub zeros_taken : (m : ℕ) (list : List ℕ) → all_zero list ≡ true → all_zero (take m list) ≡ true
zeros_taken zero list zeros = refl
zeros_taken (suc m) [] zeros = refl
zeros_taken (suc m) (n ∷ more) zeros =
    let parts = first_zero n more zeros in
    rw parts.0 (zeros_taken m more parts.1)

-- An all_zero list of a part's length is the part of no bytes.
pub zeros_are_padding : (width : ℕ) (part : List ℕ) → length part ≡ width → all_zero part ≡ true
    → part ≡ padded width []
zeros_are_padding zero [] long zeros = refl
zeros_are_padding zero (n ∷ part) long zeros = absurd (omega arith)
zeros_are_padding (suc width) [] long zeros = absurd (omega arith)
zeros_are_padding (suc width) (n ∷ part) long zeros =
    let parts = first_zero n part zeros in
    let rest = zeros_are_padding width part (omega arith) parts.1 in
    λ i. parts.0 i ∷ rest i

-- A part that is zero after its first bytes is those bytes, padded.
pub padded_by_zeros : (width count : ℕ) (part : List ℕ) → length part ≡ width → all_zero (drop count part) ≡ true
    → part ≡ padded width (take count part)
padded_by_zeros width zero part long zeros = zeros_are_padding width part long zeros
padded_by_zeros zero (suc count) [] long zeros = refl
padded_by_zeros zero (suc count) (n ∷ part) long zeros = absurd (omega arith)
padded_by_zeros (suc width) (suc count) [] long zeros = absurd (omega arith)
padded_by_zeros (suc width) (suc count) (n ∷ part) long zeros =
    ap (λ (l : List ℕ). n ∷ l) (padded_by_zeros width count part (omega arith) zeros)
