-- Saved files, by their pairs.
-- `entries_of_append`: what is written of two lists of pairs is written one after the other.
-- `file_alone`: pairs with the same labels and the same values give the same file.
-- `file_of_charging`: a charge set in a map leaves its file.
-- `FitIn`: each of the pairs has a label that is not too long, and a word for a value. `fit_append`: so of two lists.
-- `entries_within`: what is written of such pairs is no longer than so many times the longest entry.
-- `file_within`: of such pairs, no more than there are slots, the file is no longer than the longest one.
use mathlib.Core.List.{List, [], ◌∷◌, ◌++◌, map, append_assoc}
use mathlib.Core.Path.{◌≡◌, refl, sym, ap, ap₂, ◌∙◌}
use Prim.Native.Nat.{ℕ, ◌+◌, ◌*◌, ◌≤◌}
use native.Mathlib.Omega.{arith}
use native.Mathlib.Nat.{mul-le-mul_right}
use lib.ListN.{length, length-append, length-map}
use Rattle.types.specs.declared.Limits.{Limits}
use Rattle.labels.specs.Labels.{Label, Comparison, smaller, same, larger, compare_labels}
use Rattle.labels.proofs.Clashes.{clash}
use Rattle.trees.specs.Map.{Pair, charging_by, charging}
use Rattle.files.specs.Groups.{groups_of}
use Rattle.files.specs.Files.{entry_of, entries_of, file_of, largest_word, longest_file}
use Rattle.files.proofs.Numbers.{groups_ascend}

-- What is written of two lists of pairs is written one after the other.
pub entries_of_append : (xs ys : List Pair) → entries_of (xs ++ ys) ≡ entries_of xs ++ entries_of ys
entries_of_append [] ys = refl
entries_of_append (p ∷ xs) ys =
    rw (entries_of_append xs ys) (sym (append_assoc (entry_of p.label p.value) (entries_of xs) (entries_of ys)))

-- Labels and values say what is written.
entries_alone : (ps qs : List Pair) → map (λ p. p.label) ps ≡ map (λ p. p.label) qs
    → map (λ p. p.value) ps ≡ map (λ p. p.value) qs → entries_of ps ≡ entries_of qs
entries_alone [] [] labels values = refl
entries_alone [] (q ∷ qs) labels values = clash cc
entries_alone (p ∷ ps) [] labels values = clash cc
entries_alone (p ∷ ps) (q ∷ qs) labels values =
    let label : p.label ≡ q.label = cc in
    let value : p.value ≡ q.value = cc in
    ap₂ ◌++◌ (ap₂ entry_of label value) (entries_alone ps qs (cc) (cc))

-- So they say what the file is.
pub file_alone : (ps qs : List Pair) → map (λ p. p.label) ps ≡ map (λ p. p.label) qs
    → map (λ p. p.value) ps ≡ map (λ p. p.value) qs → file_of ps ≡ file_of qs
unfolding file_of
file_alone ps qs labels values =
    let count : length ps ≡ length qs = sym (length-map ps (λ p. p.label)) ∙ ap length labels ∙ length-map qs _ in
    ap₂ ◌++◌ (ap groups_of count) (entries_alone ps qs labels values)

-- What does not read the charges stays where one is set.
mapped_charging : {A : Type 0} (f : Pair → A)
    → ((p : Pair) (n : ℕ) → f (record { label = p.label; value = p.value; charge = n }) ≡ f p)
    → (x : Label) (n : ℕ) (pairs : List Pair) → map f (charging x n pairs) ≡ map f pairs
mapped_charging f unread x n [] = refl
mapped_charging f unread x n (p ∷ more) = go (compare_labels x p.label) (mapped_charging f unread x n more)
  where
    go : (c : Comparison) → map f (charging x n more) ≡ map f more
        → map f (charging_by c n p more (charging x n more)) ≡ f p ∷ map f more
    go (smaller i) further = refl
    go (same i) further = rw (unread p n)
    go (larger i) further = rw further

-- So the file of a map stays.
pub file_of_charging : (x : Label) (n : ℕ) (pairs : List Pair) → file_of (charging x n pairs) ≡ file_of pairs
file_of_charging x n pairs =
    file_alone (charging x n pairs) pairs
    (mapped_charging (λ p. p.label) (λ p m. refl) x n pairs)
    (mapped_charging (λ p. p.value) (λ p m. refl) x n pairs)

-- pairs whose labels are no longer than the width, with words for values
pub data FitIn (width : ℕ) : List Pair → Type 0 where
  fit_none : FitIn width []
  fit_pair : {p : Pair} {more : List Pair} → length p.label ≤ width → p.value ≤ largest_word → FitIn width more
      → FitIn width (p ∷ more)

-- Two lists of such pairs are such pairs.
pub fit_append : {width : ℕ} {xs ys : List Pair} → FitIn width xs → FitIn width ys → FitIn width (xs ++ ys)
fit_append fit_none of_ys = of_ys
fit_append (fit_pair short word more) of_ys = fit_pair short word (fit_append more of_ys)

-- the most bytes of a label of at most so many, with its value
abbrev pub longest_entry : ℕ → ℕ
longest_entry width = length (groups_of width) + (width + length (groups_of largest_word))

-- A label with its value takes no more.
entry_within : (width : ℕ) (x : Label) (value : ℕ) → length x ≤ width → value ≤ largest_word
    → length (entry_of x value) ≤ longest_entry width
entry_within width x value short word =
    rw (length-append, length-append)
    (omega (arith, groups_ascend (length x) width short, groups_ascend value largest_word word))

-- So many of them take no more than so many times that.
pub entries_within : {width : ℕ} {pairs : List Pair} → FitIn width pairs
    → length (entries_of pairs) ≤ length pairs * longest_entry width
entries_within fit_none = omega arith
entries_within {width} (fit_pair {p} {more} short word fit) =
    omega (
      arith,
      length-append (entry_of p.label p.value) (entries_of more),
      entry_within width p.label p.value short word,
      entries_within fit,
    )

-- A file of no more pairs than there are slots is no longer than the longest one.
pub file_within : (limits : Limits) (pairs : List Pair) → length pairs ≤ limits.slots → FitIn limits.width pairs
    → length (file_of pairs) ≤ longest_file limits
unfolding file_of
file_within limits pairs few fit =
    rw length-append
    (omega (
      arith,
      groups_ascend (length pairs) limits.slots few,
      entries_within fit,
      mul-le-mul_right (longest_entry limits.width) few,
    ))
