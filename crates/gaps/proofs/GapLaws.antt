-- A label and its neighbour in a slot of the window, below it or upward of it.
-- `beside_row`, `beside_inside`, `beside_held`: a slot of the window has a row and a label, which lies in the store.
-- `gap_positive`: a label parts from the one in the slot at no place before 1.
-- `parts_whole`, `parts_late`: whether they part at a place, by their order there.
use Prim.Native.Nat.{ℕ, zero, suc, ◌≤◌}
use mathlib.Core.Path.{◌≡◌, refl, sym, ap, ◌∙◌}
use mathlib.Core.List.{List}
use mathlib.Core.Bool.{Bool, true, false, not, cond}
use native.Mathlib.Omega.{arith}
use lib.Dec.{eqb}
use Rattle.types.specs.declared.Limits.{Limits}
use Rattle.labels.specs.Labels.{Label, Comparison, smaller, same, larger, place_of}
use Rattle.labels.specs.Labels.{compare_from, compare_labels, difference_place}
use Rattle.labels.specs.Neighbours.{held}
use Rattle.labels.proofs.Ends.{ends_of_labels}
use Rattle.labels.proofs.Late.{compare_late}
use Rattle.labels.proofs.Results.{mirrored, compare_mirrored}
use Rattle.labels.proofs.Clashes.{clash}
use Rattle.trees.specs.Valid.{is_smaller}
use Rattle.tables.specs.Words.{row_at, entry_at}
use Rattle.std.specs.declared.cmp.Ordering.{Ordering}
use Rattle.std.specs.declared.cmp.Ordering.TheVariants.{Less, Equal, Greater}
use Rattle.compares.specs.Compares.{order_at}
use Rattle.words.specs.Rows.{HasRow}
use Rattle.words.specs.Parts.{LabelInside}
use Rattle.gaps.specs.Windows.{is_toward, neighbour_in, Beside, MayStart}
use Rattle.gaps.specs.Gapped.{Gap, wrong, parted, parts_at, gap_of, gap_toward, gap_in}
use Rattle.gaps.proofs.PartLaws.{label_inside}

-- ---- a slot of the window

module _ (limits : Limits) (table store : List ℕ) (k : ℕ) (b : Beside limits table store k) (some : 1 ≤ k) where
  -- it has a row
  pub beside_row : HasRow table k
  beside_row =
      let words = b.sizes.words in
      let within = b.window.within in
      record { low = some; high = omega arith }

  -- it has its label in its part of the store
  pub beside_inside : LabelInside limits store k (row_at table k).len
  beside_inside =
      label_inside limits store k _ (record {
        low = some;
        high = b.window.within;
        within = b.window.short some;
        whole = b.sizes.bytes;
      })

-- the neighbour in a slot that is not 0 is its label
pub beside_held : (limits : Limits) (table store : List ℕ) (upward : Bool) (k : ℕ) → 1 ≤ k
    → neighbour_in limits table store upward k ≡ held (entry_at limits table store k).label
beside_held limits table store upward zero some = absurd (omega arith)
beside_held limits table store false (suc k) some = refl
beside_held limits table store true (suc k) some = refl

-- ---- two labels

-- the gap, by how the other label lies to this one
abbrev gap_by : (upward : Bool) → Comparison → Gap
gap_by upward (smaller i) = cond (not upward) (parted i) wrong
gap_by upward (same i) = wrong
gap_by upward (larger i) = cond upward (parted i) wrong

-- of labels that are to ascend it is the place of a comparison that finds them so
ascending : (k : Comparison) → gap_by false k ≡ cond (is_smaller k) (parted (place_of k)) wrong
ascending (smaller i) = refl
ascending (same i) = refl
ascending (larger i) = refl

-- upward, the comparison is mirrored
gap_mirrored : (k : Comparison) → gap_by true k ≡ gap_by false (mirrored k)
gap_mirrored (smaller i) = refl
gap_mirrored (same i) = refl
gap_mirrored (larger i) = refl

-- so the comparison of the other label with this one gives the gap
gap_compared : (upward : Bool) (y x : Label) → gap_by upward (compare_labels y x) ≡ gap_toward upward (held x) (held y)
unfolding gap_of difference_place
gap_compared false y x = ascending (compare_labels y x)
gap_compared true y x =
    gap_mirrored (compare_labels y x) ∙ ap (gap_by false) (sym (compare_mirrored y x)) ∙ ascending (compare_labels x y)

-- where it is a place, the comparison ends there
gap_ends : (upward : Bool) (k : Comparison) (i : ℕ) → parted i ≡ gap_by upward k → i ≡ place_of k
gap_ends false (smaller j) i e = cc
gap_ends true (smaller j) i e = clash cc
gap_ends upward (same j) i e = clash cc
gap_ends false (larger j) i e = clash cc
gap_ends true (larger j) i e = cc

-- whether they part at place i in order, by their order there
parts_by : (upward : Bool) (k : Comparison) (i : ℕ) → is_toward upward (order_at i k) ≡ parts_at i (gap_by upward k)
parts_by upward (smaller j) i = go upward (eqb i j) refl
  where
    go : (upward found : Bool) → found ≡ eqb i j
        → is_toward upward (cond found Less Equal) ≡ parts_at i (cond (not upward) (parted j) wrong)
    go false true e = e
    go false false e = e
    go true true e = refl
    go true false e = refl
parts_by false (same j) i = refl
parts_by true (same j) i = refl
parts_by upward (larger j) i = go upward (eqb i j) refl
  where
    go : (upward found : Bool) → found ≡ eqb i j
        → is_toward upward (cond found Greater Equal) ≡ parts_at i (cond upward (parted j) wrong)
    go false true e = refl
    go false false e = refl
    go true true e = e
    go true false e = e

-- ---- a label and the one in a slot

module _ (limits : Limits) (table store : List ℕ) (upward : Bool) (k : ℕ) (x : Label) (some : 1 ≤ k) where
  -- the gap, by how the label in the slot lies to this one
  gap_by_lem : (y : Label) → y ≡ (entry_at limits table store k).label
      → gap_by upward (compare_labels y x) ≡ gap_in limits table store upward k x
  gap_by_lem y read = rw (beside_held limits table store upward k some ∙ ap held (sym read)) (gap_compared upward y x)

  -- it is no place before 1
  pub gap_positive : (i : ℕ) → parted i ≡ gap_in limits table store upward k x → 1 ≤ i
  gap_positive i e =
      let y = (entry_at limits table store k).label in
      let at = gap_ends upward (compare_labels y x) i (e ∙ sym (gap_by_lem y refl)) in
      omega (arith, at, (ends_of_labels y x).from)

  module _ (y : Label) (read : y ≡ (entry_at limits table store k).label) (i : ℕ) (r : Bool) (o : Ordering)
      (test : r ≡ is_toward upward o) where
    -- whether they part at a place, by their order there
    pub parts_whole : o ≡ order_at i (compare_labels y x) → r ≡ parts_at i (gap_in limits table store upward k x)
    parts_whole e =
        test ∙ ap (is_toward upward) e ∙ parts_by upward (compare_labels y x) i ∙ ap (parts_at i) (gap_by_lem y read)

    -- where they agree before it, by a comparison from there on
    pub parts_late : MayStart (neighbour_in limits table store upward k) (held x) i
        → o ≡ order_at i (compare_from i y x) → r ≡ parts_at i (gap_in limits table store upward k x)
    unfolding difference_place
    parts_late start e =
        let agree = rw (beside_held limits table store upward k some ∙ ap held (sym read)) at start in
        let ends = ends_of_labels y x in
        parts_whole (e ∙ ap (order_at i) (compare_late i y x agree.low (omega (arith, agree.high, ends.from))))
