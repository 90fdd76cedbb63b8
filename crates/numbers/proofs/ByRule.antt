-- The table of place numbers: its rule at all 256 entries, by one test that is computed.
-- `numbers_by_rule`: it has an entry for each byte, the byte's number.
use mathlib.Core.Path.{◌≡◌, refl}
use mathlib.Core.Bool.{Bool, true, ◌&&◌, false≢true}
use mathlib.Core.List.{List, [], ◌∷◌}
use Prim.Native.Nat.{ℕ, zero, suc, ◌+◌, ◌<◌}
use native.Mathlib.Nat.{zero-add}
use native.Mathlib.Omega.{arith}
use lib.Dec.{eqb}
use lib.ListN.{length, get_or}
use Rattle.labels.specs.Labels.{number_of}
use Rattle.labels.proofs.Numbers.{Eqb, eq_yes, eq_no, eqb_view}
use Rattle.numbers.specs.PlaceNumbers.{place_numbers, NumbersByRule}

-- each entry of a table is the number of its byte, counted from i
abbrev by_rule : ℕ → List ℕ → Bool
by_rule i [] = true
by_rule i (n ∷ table) = eqb n (number_of i) && by_rule (suc i) table

-- entry k of a table whose entries are counted from i is its byte's number
abbrev EntryBy : ℕ → List ℕ → ℕ → Type 0
EntryBy i table k = k < length table → get_or table k 0 ≡ number_of (i + k)

-- where all are, each is
at_entry : (table : List ℕ) (i k : ℕ) → by_rule i table ≡ true → EntryBy i table k
at_entry [] i k pass inside = absurd (omega arith)
at_entry (n ∷ table) i k pass inside =
    go k (eqb_view n (number_of i)) pass (λ k. at_entry table (suc i) k) inside
  where
    go : (k : ℕ) {test : Bool} → Eqb n (number_of i) test → test && by_rule (suc i) table ≡ true
        → ((k : ℕ) → by_rule (suc i) table ≡ true → EntryBy (suc i) table k) → EntryBy i (n ∷ table) k
    go zero (eq_yes same) pass later inside = let here : i + 0 ≡ i = omega arith in rw here same
    go (suc k) (eq_yes same) pass later inside =
        let there : i + suc k ≡ suc i + k = omega arith in rw there (later k pass (omega arith))
    go k (eq_no unlike) pass later inside = absurd (false≢true pass)

-- all entries of the table are
whole_table : by_rule 0 place_numbers ≡ true
unfolding number_of
whole_table = refl

-- The table has an entry for each byte, the byte's number.
pub numbers_by_rule : NumbersByRule place_numbers
numbers_by_rule = record {
  entries = refl;
  rule = λ byte inside. rw (zero-add byte) at (at_entry place_numbers 0 byte whole_table inside);
}
