-- Trial versions of search that do not meet its contract, each refuted at a starred case or with only "a" held, at the
-- hub's limits.
-- fixed_search_fails, absent_always_fails, refused_always_fails, never_finding_fails: searches that answer at once.
-- skipping_first_fails, stopping_at_zero_fails: searches that start a compare too late, or stop at byte zero.
-- exact_search_fails: a search exact to the byte.
-- compared_tie_fails, search_as_before_fails: a search that compares at the tie of case 6.
-- ties_on_both_fail: a search with the line of the tie on side successor too.
-- no_neighbours_fails, one_for_both_fails, exchanged_neighbours_fail, uncompared_left_out_fails: searches with other
-- neighbours.
-- no_one_count: two answers with unlike counts do not give one number.
-- fixed_search_counts_fail, invented_search_counts_fail: searches with counts that are not those of the steps.
use mathlib.Core.List.{List, [], ◌∷◌}
use mathlib.Core.Option.{none, some}
use mathlib.Core.Path.{◌≡◌, refl, sym, ap, ◌∙◌}
use Prim.Native.Nat.{ℕ}
use native.Mathlib.Omega.{arith}
use Rattle.types.specs.Sizes.{hub}
use Rattle.types.specs.Answers.{Answer, absent, refused}
use Rattle.labels.specs.Labels.{Label}
use Rattle.labels.proofs.Clashes.{clash}
use Rattle.trees.specs.Plain.{Call}
use Rattle.tables.specs.Steps.{search_steps}
use Rattle.cases.specs.Cases.{a, b, c, d, roster}
use Rattle.demands.specs.Trials.{SearchVersion, MeetsSearch, NeverFinds, Count, visits, places, of_counts}
use Rattle.demands.specs.Trials.{count_in, count_of, SearchesAnswer, SearchesCount, SkipsFirst, StopsAtZero}
use Rattle.demands.specs.Trials.{FindsExactly, AnswersCaseSix, SearchesAsBefore, TiesOnBoth}
use Rattle.demands.specs.NeighbourTrials.{NeighboursZero, OneForBoth, exchanged, NeighboursExchanged}
use Rattle.demands.proofs.Computed.{after, fair_one, fair_two, searched, onlyA, capital, shown}
use Rattle.demands.proofs.Computed.{small_is_not_capital, sided_table, sided_store, sided_words, sided_bytes}
use Rattle.demands.proofs.CountsGiven.{search_counts}

-- A count that an answer gives is no one number where two answers give unlike ones.
pub no_one_count : (k : Count) (n v q v' q' : ℕ) → (v ≡ v' → ⊥) → (q ≡ q' → ⊥)
    → of_counts k v q ≡ n → of_counts k v' q' ≡ n → ⊥
no_one_count visits n v q v' q' unlike_visits unlike_places one other = unlike_visits (one ∙ sym other)
no_one_count places n v q v' q' unlike_visits unlike_places one other = unlike_places (one ∙ sym other)

module _ (f : SearchVersion) (meets : MeetsSearch f) where
  -- what a version that meets the contract answers after calls
  answered : (calls : List Call) (x : Label) → f (after calls).table (after calls).store x ≡ searched calls x
  answered calls x = meets (after calls).table (after calls).store x

-- One fixed answer fails.
pub fixed_search_fails : (answer : Answer) (f : SearchVersion) → SearchesAnswer answer f → ¬ MeetsSearch f
fixed_search_fails answer f fixed meets =
    let Fixed-then = fixed (after []).table (after []).store (a ∷ []) (fair_one []) in
    let fixed_now = fixed (after onlyA).table (after onlyA).store (a ∷ []) (fair_one onlyA) in
    clash (cc (answered f meets [] (a ∷ []), shown.none_held, answered f meets onlyA (a ∷ []), shown.one_held))

-- 'Absent' at once fails, with any neighbours and counts.
pub absent_always_fails : (below above v q : ℕ) → ¬ MeetsSearch (λ table store x. absent below above v q)
absent_always_fails below above v q =
    fixed_search_fails (absent below above v q) (λ table store x. absent below above v q) (λ table store x fair. refl)

-- Constant refusal fails, by any number.
pub refused_always_fails : (number : ℕ) → ¬ MeetsSearch (λ table store x. refused number)
refused_always_fails number =
    fixed_search_fails (refused number) (λ table store x. refused number) (λ table store x fair. refl)

-- A search that never finds fails, whatever counts it gives.
pub never_finding_fails : (f : SearchVersion) → NeverFinds f → ¬ MeetsSearch f
never_finding_fails f never meets =
    never (after onlyA).table (after onlyA).store (a ∷ []) (fair_one onlyA) 1 5 1 2
    (answered f meets onlyA (a ∷ []) ∙ shown.one_held)

-- A search that starts a compare after the node's place fails: it can't tell "b" from "a".
pub skipping_first_fails : (f : SearchVersion) → SkipsFirst f → ¬ MeetsSearch f
skipping_first_fails f skips meets =
    let alike = skips (after onlyA).table (after onlyA).store shown.held_one a b []
    (fair_one onlyA) in
    clash (cc (answered f meets onlyA (a ∷ []), shown.one_held, answered f meets onlyA (b ∷ []), shown.other_first))

-- A search that takes byte zero for the end fails: it can't tell "a" followed by a zero byte from "a".
pub stopping_at_zero_fails : (f : SearchVersion) → StopsAtZero f → ¬ MeetsSearch f
stopping_at_zero_fails f stops meets =
    let alike = stops (after onlyA).table (after onlyA).store (a ∷ []) (fair_one onlyA)
    (fair_two onlyA) in
    clash
    (cc (answered f meets onlyA (a ∷ []), shown.one_held, answered f meets onlyA (a ∷ 0 ∷ []), shown.zero_after))

-- A search exact to the byte fails: it does not find "A" where "a" is held.
pub exact_search_fails : (f : SearchVersion) → FindsExactly f → ¬ MeetsSearch f
exact_search_fails f exact meets =
    let same_bytes = exact (after onlyA).table (after onlyA).store capital (fair_one onlyA) 1 5 1 2
    (answered f meets onlyA capital ∙ shown.capital_held) in
    small_is_not_capital (sym shown.shown_small ∙ same_bytes)

-- A search that answers case 6 with 3 and 4 fails.
pub compared_tie_fails : (f : SearchVersion) → AnswersCaseSix (absent 4 3 3 4) f → ¬ MeetsSearch f
unfolding after
compared_tie_fails f answers meets =
    let same : absent 4 3 3 4 ≡ absent 4 3 3 3 = sym answers ∙ answered f meets roster (d ∷ a ∷ []) ∙ shown.tie_now in
    let places : ◌≡◌ {A = ℕ} 4 3 = ap places_in same in
    omega arith
  where
    places_in : Answer → ℕ
    places_in answer = elim (count_in places answer) [ none ↦ 0 | some n ↦ n ]

-- So does a search by the steps before M-106.
pub search_as_before_fails : (f : SearchVersion) → SearchesAsBefore f → ¬ MeetsSearch f
unfolding after
search_as_before_fails f before =
    compared_tie_fails f
    (before (after roster).table (after roster).store (d ∷ a ∷ []) (fair_two roster) ∙ shown.tie_before)

-- A search with that line on side successor too fails: it goes another way where S has reached a place and P is above.
pub ties_on_both_fail : (f : SearchVersion) → TiesOnBoth f → ¬ MeetsSearch f
ties_on_both_fail f both meets =
    let other_way = both sided_table sided_store (a ∷ c ∷ []) sided_words sided_bytes
    (record { some = omega arith; short = omega arith }) in
    clash (cc (other_way, meets sided_table sided_store (a ∷ c ∷ []), shown.both_now, shown.both_sides))

-- In case 6 "c", in slot 4, and "dd", in slot 3, stand next to "da". A search without neighbours fails there,
pub no_neighbours_fails : (f : SearchVersion) → NeighboursZero f → ¬ MeetsSearch f
no_neighbours_fails f zero meets =
    let none_below = (zero (after roster).table (after roster).store (d ∷ a ∷ []) (fair_two roster) 4 3 3 3
    (answered f meets roster (d ∷ a ∷ []) ∙ shown.tie_now)).0 in
    omega arith

-- and so does one that gives one node for both,
pub one_for_both_fails : (f : SearchVersion) → OneForBoth f → ¬ MeetsSearch f
one_for_both_fails f same meets =
    let one = same (after roster).table (after roster).store (d ∷ a ∷ []) (fair_two roster) 4 3 3 3
    (answered f meets roster (d ∷ a ∷ []) ∙ shown.tie_now) in
    omega arith

-- and one with the two exchanged.
pub exchanged_neighbours_fail : (f : SearchVersion) → NeighboursExchanged f → ¬ MeetsSearch f
exchanged_neighbours_fail f other meets =
    let given = other (after roster).table (after roster).store (d ∷ a ∷ []) (fair_two roster) in
    let crossed : exchanged (searched roster (d ∷ a ∷ [])) ≡ absent 3 4 3 3 = ap exchanged shown.tie_now in
    clash (cc (given, answered f meets roster (d ∷ a ∷ []), shown.tie_now, crossed))

-- At "c" the walk goes right by the tie's line. A search that leaves out moves without a comparison says slot 1, "b",
-- the last node before it where the walk went right, and fails.
pub uncompared_left_out_fails : (f : SearchVersion) → AnswersCaseSix (absent 1 3 3 3) f → ¬ MeetsSearch f
unfolding after
uncompared_left_out_fails f answers meets =
    clash (cc (answers, answered f meets roster (d ∷ a ∷ []), shown.tie_now))

-- A search that gives one fixed number for its visits, or for its places, fails.
pub fixed_search_counts_fail : (k : Count) (n : ℕ) (f : SearchVersion)
    → SearchesCount k n f → ¬ MeetsSearch f
fixed_search_counts_fail k n f gives meets =
    no_one_count k n 0 0 1 2 (omega arith) (omega arith)
    (gives (after []).table (after []).store (a ∷ []) (fair_one []) _
    (ap (count_in k) (answered f meets [] (a ∷ []) ∙ shown.none_held)))
    (gives (after onlyA).table (after onlyA).store (a ∷ []) (fair_one onlyA) _
    (ap (count_in k) (answered f meets onlyA (a ∷ []) ∙ shown.one_held)))

-- A search that once gives another count than that of its steps fails.
pub invented_search_counts_fail : (k : Count) (n : ℕ) (f : SearchVersion) (table store : List ℕ) (x : Label)
    → count_in k (f table store x) ≡ some n → (n ≡ count_of k (search_steps hub table store x) → ⊥) → ¬ MeetsSearch f
invented_search_counts_fail k n f table store x given other meets =
    other (search_counts k f meets table store x n given)
