-- The comparison of two labels, by what is left at an index.
-- `rest_start`: at the start all is left.  `rest_later`: it ends after the index.
-- `rest_both`: it is told by the bytes there and by what is left after them.
-- `none_same` to `four_same`, `past_some`, `past_four`: bytes that both have leave it to the index after them.
-- `passes`, `stops`: bytes of one number leave it to the next index, others end it.
-- `ends_short`: the end of the shorter label ends it.
-- `at_first`, `first_end`, `first_other_end`, `first_stops`, `first_passes`: the same of the whole comparison, at the first place.
-- `order_end`, `order_other_end`, `order_bytes`: the order at the first place alone.
-- `order_elsewhere`: the order at a place where a comparison does not end.
use Prim.Native.Nat.{ℕ, suc, ◌+◌, ◌-◌, ◌≤◌, ◌<◌, min, compare}
use mathlib.Core.Path.{◌≡◌, refl, sym, ◌∙◌}
use mathlib.Core.Bool.{Bool, true, false, cond, true≢false}
use native.Mathlib.Numerals.{add-one}
use native.Mathlib.Omega.{arith}
use lib.ListN.{length, get_or, drop, drop_of_length-le}
use lib.Seq.{drop-cons}
use borrow.Author.Tests.{lt-ltb, eq-eqb, ne_eqb}
use Rattle.std.specs.Ordering.{nat_cmp, is_ne}
use Rattle.std.specs.Cmp.{nat_cmp_is}
use Rattle.std.specs.declared.cmp.Ordering.{Ordering}
use Rattle.std.specs.declared.cmp.Ordering.TheVariants.{Less, Equal, Greater}
use Rattle.labels.specs.Labels.{Label, Comparison, smaller, same, larger, number_of, place_of}
use Rattle.labels.specs.Labels.{compare_numbers, compare_at, compare_from}
use Rattle.labels.proofs.Ends.{ends_of_compare}
use Rattle.labels.proofs.Numbers.{Ltb, lt_yes, lt_no, ltb_view}
use Rattle.orders.specs.Orders.{comparison_by, by_numbers, at_end}
use Rattle.orders.proofs.OrderLaws.{decided, compare_decided, same_bytes}
use Rattle.compares.specs.Compares.{rest, order_at, HavePlaces}

-- at the start all is left
pub rest_start : (d : ℕ) (x y : Label) → 1 ≤ d → rest x y (d - 1) ≡ compare_from d x y
unfolding rest compare_from
rest_start d x y positive = let e : suc (d - 1) ≡ d = omega arith in rw e

-- what is left at index i ends after it
pub rest_later : (x y : Label) (i : ℕ) → i < place_of (rest x y i)
unfolding rest
rest_later x y i = omega (arith, (ends_of_compare (suc i) (drop i x) (drop i y)).from)

module _ (x y : Label) (i : ℕ) where
  -- what is left after both bytes at index i
  pub rest_both : i < length x → i < length y
      → rest x y i ≡ compare_numbers (compare (number_of (get_or x i 0)) (number_of (get_or y i 0))) (suc i) (rest x y (suc i))
  unfolding rest
  rest_both p q = rw (drop-cons x i 0, drop-cons y i 0)

  -- one label ends at index i
  rest_ended : min (length x) (length y) ≤ i → rest x y i ≡ comparison_by (at_end (length x) (length y) i) (suc i)
  unfolding rest at_end
  rest_ended over = go (ltb_view i (length x)) (ltb_view i (length y))
    where
      go : {more also : Bool} → Ltb i (length x) more → Ltb i (length y) also
          → compare_at (suc i) (drop i x) (drop i y) ≡ comparison_by (cond more Greater (cond also Less Equal)) (suc i)
      go (lt_yes p) (lt_yes q) = absurd (omega arith)
      go (lt_yes p) (lt_no q) = rw (drop-cons x i 0, drop_of_length-le y)
      go (lt_no p) (lt_yes q) = rw (drop-cons y i 0, drop_of_length-le x)
      go (lt_no p) (lt_no q) = rw (drop_of_length-le x, drop_of_length-le y)

module _ (x y : Label) (i : ℕ) (more : i < length x) (also : i < length y) where
  -- the order by the bytes at index i says how the comparison goes on
  by_order : decided (by_numbers (get_or x i 0) (get_or y i 0)) (suc i) (rest x y (suc i)) ≡ rest x y i
  by_order =
      sym (compare_decided (get_or x i 0) (get_or y i 0) (suc i) (rest x y (suc i))) ∙ sym (rest_both x y i more also)

  -- a byte that both have leaves it to the next index
  next_same : get_or x i 0 ≡ get_or y i 0 → rest x y (suc i) ≡ rest x y i
  next_same equal = rw (← same_bytes (get_or x i 0) (get_or y i 0) equal) at by_order

-- the bytes from index i on that both labels have leave it to the index after them
pub none_same : (x y : Label) (i : ℕ) → rest x y (i + 0) ≡ rest x y i
none_same x y i = let at : i + 0 ≡ i = omega arith in rw at

module _ (x y : Label) (i : ℕ) (have : HavePlaces 4 x y i) (first : get_or x i 0 ≡ get_or y i 0) where
  pub one_same : rest x y (i + 1) ≡ rest x y i
  one_same = let at : i + 1 ≡ suc i = omega arith in rw at (next_same x y i (omega arith) (omega arith) first)

  module _ (second : get_or x (i + 1) 0 ≡ get_or y (i + 1) 0) where
    pub two_same : rest x y (i + 2) ≡ rest x y i
    two_same =
        let at : i + 2 ≡ suc (i + 1) = omega arith in
        (rw at (next_same x y (i + 1) (omega arith) (omega arith) second)) ∙ one_same

    module _ (third : get_or x (i + 2) 0 ≡ get_or y (i + 2) 0) where
      pub three_same : rest x y (i + 3) ≡ rest x y i
      three_same =
          let at : i + 3 ≡ suc (i + 2) = omega arith in
          (rw at (next_same x y (i + 2) (omega arith) (omega arith) third)) ∙ two_same

      pub four_same : get_or x (i + 3) 0 ≡ get_or y (i + 3) 0 → rest x y (i + 4) ≡ rest x y i
      four_same fourth =
          let at : i + 4 ≡ suc (i + 3) = omega arith in
          (rw at (next_same x y (i + 3) (omega arith) (omega arith) fourth)) ∙ three_same

-- so many of four bytes, or all, are passed
pub past_some : (x y : Label) (i j n : ℕ) → rest x y (i + n) ≡ rest x y i → rest x y i ≡ rest x y j
    → rest x y (i + n) ≡ rest x y j
past_some x y i j n passed so = passed ∙ so

pub past_four : (x y : Label) (i j n : ℕ) → rest x y (i + n) ≡ rest x y i → 4 ≤ n → n ≤ 4 → rest x y i ≡ rest x y j
    → rest x y (i + 4) ≡ rest x y j
past_four x y i j n passed least most so = let all : n ≡ 4 = omega arith in (rw all at passed) ∙ so

-- where c is left at index i, and both labels have the byte there
module _ (x y : Label) (i end : ℕ) (c : Comparison) (so : rest x y i ≡ c) (short : end ≡ min (length x) (length y))
    (more : i < end) (o : Ordering) (order : o ≡ by_numbers (get_or x i 0) (get_or y i 0)) where
  by_tested : decided o (suc i) (rest x y (suc i)) ≡ c
  by_tested = rw order (by_order x y i (omega arith) (omega arith) ∙ so)

  -- tested whether it ends there: bytes of one number leave it to the next index
  pub passes : (t : Bool) → t ≡ is_ne o → t ≡ false → rest x y (i + 1) ≡ c
  passes t e is = go o (sym e ∙ is) by_tested
    where
      go : (o : Ordering) → is_ne o ≡ false → decided o (suc i) (rest x y (suc i)) ≡ c
          → rest x y (i + 1) ≡ c
      go Less is found = absurd (true≢false is)
      go Equal is found = rw add-one found
      go Greater is found = absurd (true≢false is)

  -- others end it
  pub stops : (t : Bool) → t ≡ is_ne o → t ≡ true → comparison_by o (i + 1) ≡ c
  stops t e is = go o (sym e ∙ is) by_tested
    where
      go : (o : Ordering) → is_ne o ≡ true → decided o (suc i) (rest x y (suc i)) ≡ c
          → comparison_by o (i + 1) ≡ c
      go Less is found = rw add-one found
      go Equal is found = absurd (true≢false (sym is))
      go Greater is found = rw add-one found

-- the end of a label ends the comparison
pub end_left : (x y : Label) (i end : ℕ) (o : Ordering) → end ≡ min (length x) (length y) → end ≤ i
    → o ≡ at_end (length x) (length y) i → comparison_by o (i + 1) ≡ rest x y i
end_left x y i end o short over e = rw (add-one, e) (sym (rest_ended x y i (omega arith)))

-- at the shorter one's end it is by their lengths
by_lengths : (m n end : ℕ) (o : Ordering) → end ≡ min m n → o ≡ nat_cmp m n → o ≡ at_end m n end
unfolding at_end
by_lengths m n end o short is = is ∙ go (ltb_view end m) (ltb_view end n)
  where
    go : {more also : Bool} → Ltb end m more → Ltb end n also → nat_cmp m n ≡ cond more Greater (cond also Less Equal)
    go (lt_yes p) (lt_yes q) = absurd (omega arith)
    go (lt_yes p) (lt_no q) = sym (nat_cmp_is m n Greater (omega arith))
    go (lt_no p) (lt_yes q) = sym (nat_cmp_is m n Less (omega arith))
    go (lt_no p) (lt_no q) = sym (nat_cmp_is m n Equal (omega arith))

-- where c is left at the shorter one's end, their lengths end it
pub ends_short : (x y : Label) (i end : ℕ) (c : Comparison) → rest x y i ≡ c → end ≡ min (length x) (length y)
    → (o : Ordering) → end ≤ i → i ≤ end → o ≡ nat_cmp (length x) (length y) → comparison_by o (end + 1) ≡ c
ends_short x y i end c so short o over within is =
    let at : i ≡ end = omega arith in
    end_left x y end end o short (omega arith) (by_lengths (length x) (length y) end o short is) ∙ (rw at at so)

-- a label that goes on where the other may end is the larger
longer_at_end : (m n i : ℕ) → i < m → Greater ≡ at_end m n i
unfolding at_end
longer_at_end m n i more = rw (lt-ltb i m more)

-- the first place
module _ (x y : Label) (d : ℕ) (positive : 1 ≤ d) where
  -- what is left there is the whole comparison
  pub at_first : (c : Comparison) → c ≡ rest x y (d - 1) → c ≡ compare_from d x y
  at_first c is = is ∙ rest_start d x y positive

  -- x ends there, or y alone
  pub first_end : (o : Ordering) → length x ≤ d - 1 → o ≡ at_end (length x) (length y) (d - 1)
      → comparison_by o d ≡ compare_from d x y
  first_end o over e =
      let at : d - 1 + 1 ≡ d = omega arith in
      at_first (comparison_by o d)
      (rw at at (end_left x y (d - 1) (min (length x) (length y)) o refl (omega arith) e))

  pub first_other_end : d - 1 < length x → length y ≤ d - 1 → comparison_by Greater d ≡ compare_from d x y
  first_other_end more over =
      let at : d - 1 + 1 ≡ d = omega arith in
      at_first (comparison_by Greater d)
      (rw at at (end_left x y (d - 1) (min (length x) (length y)) Greater refl (omega arith)
      (longer_at_end (length x) (length y) (d - 1) more)))

  -- by the order of the bytes there
  module _ (o : Ordering) (more : d - 1 < length x) (also : d - 1 < length y)
      (order : o ≡ by_numbers (get_or x (d - 1) 0) (get_or y (d - 1) 0)) where
    pub first_stops : (t : Bool) → t ≡ is_ne o → t ≡ true → comparison_by o d ≡ compare_from d x y
    first_stops t e is =
        let at : d - 1 + 1 ≡ d = omega arith in
        at_first (comparison_by o d)
        (rw at at (stops x y (d - 1) (min (length x) (length y)) (rest x y (d - 1)) refl refl (omega arith) o order t e is))

    -- bytes of one number leave it to the places after it
    pub first_passes : (t : Bool) → t ≡ is_ne o → t ≡ false → (i : ℕ) (c : Comparison) → rest x y i ≡ rest x y d
        → c ≡ rest x y i → c ≡ compare_from d x y
    first_passes t said is i c so e =
        let at : d - 1 + 1 ≡ d = omega arith in
        let next = passes x y (d - 1) (min (length x) (length y)) (rest x y (d - 1)) refl refl (omega arith) o order t said is in
        at_first c (e ∙ so ∙ (rw at at next))

-- ---- the order at one place

-- of a comparison that ends there it is the order that was found, of one that ends elsewhere the same
order_there : (o : Ordering) (d : ℕ) → o ≡ order_at d (comparison_by o d)
order_there Less d = rw (eq-eqb d d refl)
order_there Equal d = refl
order_there Greater d = rw (eq-eqb d d refl)

pub order_elsewhere : (k : Comparison) (d : ℕ) → (d ≡ place_of k → ⊥) → Equal ≡ order_at d k
order_elsewhere (smaller i) d other = rw (ne_eqb d i other)
order_elsewhere (same i) d other = refl
order_elsewhere (larger i) d other = rw (ne_eqb d i other)

module _ (x y : Label) (d : ℕ) (positive : 1 ≤ d) where
  order_found : (o : Ordering) → comparison_by o d ≡ compare_from d x y → o ≡ order_at d (compare_from d x y)
  order_found o found = rw (← found) (order_there o d)

  -- x ends there, or y alone
  pub order_end : (o : Ordering) → length x ≤ d - 1 → o ≡ at_end (length x) (length y) (d - 1)
      → o ≡ order_at d (compare_from d x y)
  order_end o over e = order_found o (first_end x y d positive o over e)

  pub order_other_end : d - 1 < length x → length y ≤ d - 1 → Greater ≡ order_at d (compare_from d x y)
  order_other_end more over = order_found Greater (first_other_end x y d positive more over)

  -- by the order of the bytes there
  pub order_bytes : (o : Ordering) → d - 1 < length x → d - 1 < length y
      → o ≡ by_numbers (get_or x (d - 1) 0) (get_or y (d - 1) 0) → o ≡ order_at d (compare_from d x y)
  order_bytes Less more also order = order_found Less (first_stops x y d positive Less more also order true refl refl)
  order_bytes Equal more also order =
      rw (← first_passes x y d positive Equal more also order false refl refl d (rest x y d) refl refl)
      (order_elsewhere (rest x y d) d (λ e. omega (arith, e, rest_later x y d)))
  order_bytes Greater more also order = order_found Greater (first_stops x y d positive Greater more also order true refl refl)
