-- The prefix fields of two nodes under one rotation, by numbers.
-- A, B, C: the difference places of the lower neighbour and the low node, of the low and the high node, and of the high
-- node and the upper neighbour. A node whose difference places are m and n has place `max m n` and side `side_by m n`.
-- `Turns`: the rows after a rotation. `turns_left`: a left son, the low node, rises over its parent, the high one.
-- `turns_right`: a right son, the high node, rises over its parent, the low one.
use mathlib.Core.Path.{◌≡◌, refl, sym}
use mathlib.Core.Bool.{Bool, true, false, not, ◌&&◌, ◌||◌, cond}
use Prim.Native.Nat.{ℕ, ◌≤◌, ◌<◌, min, max}
use native.Mathlib.Omega.{arith}
use lib.Dec.{eqb}
use borrow.Author.Tests.{le-leb, lt-leb, le-ltb, eq-eqb, ne_eqb}
use Rattle.types.specs.declared.Row.{Row}
use Rattle.labels.proofs.Numbers.{Leb, le_yes, le_no, leb_view, Ltb, lt_yes, lt_no, ltb_view}
use Rattle.tables.specs.Prefix.{side_by}
use Rattle.sides.specs.Rows.{prefixed, to_parent, exchanges, raised, lowered}

-- a row with the prefix fields of a node whose difference places are m and n
abbrev pub placed : Row → (m n : ℕ) → Row
placed row m n = prefixed row (max m n) (side_by m n)

-- Equal places and sides make equal rows.
same_fields : (row : Row) {m n i k : ℕ} → m ≡ n → i ≡ k → prefixed row m i ≡ prefixed row n k
same_fields row p q = cc

-- A tie goes to the predecessor.
side_of_le : (m n : ℕ) → n ≤ m → side_by m n ≡ 0
side_of_le m n h = rw (le-leb n m h)

-- The successor has the side where its place is larger.
side_of_lt : (m n : ℕ) → m < n → side_by m n ≡ 1
side_of_lt m n h = rw (lt-leb n m h)

-- Two nodes whose neighbours' places compare alike have one side.
same_side : (m n i k : ℕ) → (n ≤ m → k ≤ i) → (m < n → i < k) → side_by m n ≡ side_by i k
same_side m n i k le lt = go (leb_view n m)
  where
    go : {b : Bool} → Leb n m b → cond b 0 1 ≡ side_by i k
    go (le_yes h) = rw (le-leb k i (le h))
    go (le_no h) = rw (lt-leb k i (lt h))

-- The fields are exchanged where the son's side points to the parent and its place is the larger one. At a tie the
-- parent's side decides.
exchanges_yes : (flip : Bool) (parent son : Row) → son.side ≡ to_parent flip → parent.place ≤ son.place
    → (parent.place ≡ son.place → not (flip && eqb parent.side 0) ≡ true) → exchanges flip parent son ≡ true
unfolding exchanges
exchanges_yes flip parent son side low tie =
    rw (eq-eqb son.side (to_parent flip) side) (go (ltb_view parent.place son.place))
  where
    go : {b : Bool} → Ltb parent.place son.place b
        → (b || (eqb parent.place son.place && not (flip && eqb parent.side 0))) ≡ true
    go (lt_yes h) = refl
    go (lt_no h) =
        let equal : parent.place ≡ son.place = omega arith in
        rw (eq-eqb parent.place son.place equal, tie equal)

-- A son whose side points away from the parent keeps its fields.
exchanges_no_side : (flip : Bool) (parent son : Row) → (son.side ≡ to_parent flip → ⊥)
    → exchanges flip parent son ≡ false
unfolding exchanges
exchanges_no_side flip parent son side = rw (ne_eqb son.side (to_parent flip) side)

-- So does one whose place is smaller, or the same where the parent's side is predecessor.
exchanges_no : (flip : Bool) (parent son : Row) → son.side ≡ to_parent flip → son.place ≤ parent.place
    → (parent.place ≡ son.place → not (flip && eqb parent.side 0) ≡ false) → exchanges flip parent son ≡ false
unfolding exchanges
exchanges_no flip parent son side low tie =
    rw (eq-eqb son.side (to_parent flip) side, le-ltb parent.place son.place low)
    (go (leb_view parent.place son.place))
  where
    go : {b : Bool} → Leb parent.place son.place b
        → (eqb parent.place son.place && not (flip && eqb parent.side 0)) ≡ false
    go (le_yes h) =
        let equal : parent.place ≡ son.place = omega arith in
        rw (eq-eqb parent.place son.place equal, tie equal)
    go (le_no h) = rw (ne_eqb parent.place son.place (omega arith))

-- the rows that the son and the parent have after a rotation
pub record Turns (flip : Bool) (parent son up down : Row) : Type 0 where
  pub rise : raised flip parent son ≡ up
  pub sink : lowered flip parent son ≡ down

-- The rows where nothing is exchanged.
turns_kept : (flip : Bool) (parent son : Row) {up down : Row} → exchanges flip parent son ≡ false
    → son ≡ up → parent ≡ down → Turns flip parent son up down
unfolding raised lowered
turns_kept flip parent son test p q = record { rise = rw test p; sink = rw test q }

-- The rows where the fields are exchanged.
turns_exchanged : (flip : Bool) (parent son : Row) {up down : Row} → exchanges flip parent son ≡ true
    → prefixed son parent.place parent.side ≡ up → prefixed parent son.place (to_parent (not flip)) ≡ down
    → Turns flip parent son up down
unfolding raised lowered
turns_exchanged flip parent son test p q = record { rise = rw test p; sink = rw test q }

module _ (A B C : ℕ) (parent son : Row) where
  -- A left son, the low node, rises over its parent, the high one.
  pub turns_left : Turns false (placed parent (min A B) C) (placed son A B) (placed son A (min B C)) (placed parent B C)
  turns_left = by_side (leb_view B A)
    where
      P : Row
      P = placed parent (min A B) C

      S : Row
      S = placed son A B

      by_place : {b : Bool} → A < B → Leb C B b → Turns false P S (placed son A (min B C)) (placed parent B C)
      by_place h (le_yes g) =
          turns_exchanged false P S (exchanges_yes false P S (side_of_lt A B h) (omega arith) (λ tie. refl))
          (same_fields son (omega arith) (same_side (min A B) C A (min B C) (omega arith) (omega arith)))
          (same_fields parent (omega arith) (sym (side_of_le B C g)))
      by_place h (le_no g) =
          turns_kept false P S (exchanges_no false P S (side_of_lt A B h) (omega arith) (λ tie. absurd (omega arith)))
          (same_fields son (omega arith) (same_side A B A (min B C) (omega arith) (omega arith)))
          (same_fields parent (omega arith) (same_side (min A B) C B C (omega arith) (omega arith)))

      by_side : {b : Bool} → Leb B A b → Turns false P S (placed son A (min B C)) (placed parent B C)
      by_side (le_yes h) =
          turns_kept false P S (exchanges_no_side false P S (omega (arith, side_of_le A B h)))
          (same_fields son (omega arith) (same_side A B A (min B C) (omega arith) (omega arith)))
          (same_fields parent (omega arith) (same_side (min A B) C B C (omega arith) (omega arith)))
      by_side (le_no h) = by_place h (leb_view C B)

  -- A right son, the high node, rises over its parent, the low one.
  pub turns_right : Turns true (placed parent A (min B C)) (placed son B C) (placed son (min A B) C) (placed parent A B)
  turns_right = by_side (leb_view C B)
    where
      P : Row
      P = placed parent A (min B C)

      S : Row
      S = placed son B C

      tied : A < B → max A (min B C) ≡ max B C → not (true && eqb (side_by A (min B C)) 0) ≡ true
      tied h tie = rw (side_of_lt A (min B C) (omega arith))

      untied : C ≤ B → B ≤ A → not (true && eqb (side_by A (min B C)) 0) ≡ false
      untied g h = rw (side_of_le A (min B C) (omega arith))

      by_place : {b : Bool} → C ≤ B → Leb B A b → Turns true P S (placed son (min A B) C) (placed parent A B)
      by_place g (le_yes h) =
          turns_kept true P S (exchanges_no true P S (side_of_le B C g) (omega arith) (λ tie. untied g h))
          (same_fields son (omega arith) (same_side B C (min A B) C (omega arith) (omega arith)))
          (same_fields parent (omega arith) (same_side A (min B C) A B (omega arith) (omega arith)))
      by_place g (le_no h) =
          turns_exchanged true P S (exchanges_yes true P S (side_of_le B C g) (omega arith) (tied h))
          (same_fields son (omega arith) (same_side A (min B C) (min A B) C (omega arith) (omega arith)))
          (same_fields parent (omega arith) (sym (side_of_lt A B h)))

      by_side : {b : Bool} → Leb C B b → Turns true P S (placed son (min A B) C) (placed parent A B)
      by_side (le_yes g) = by_place g (leb_view B A)
      by_side (le_no g) =
          turns_kept true P S (exchanges_no_side true P S (omega (arith, side_of_lt B C g)))
          (same_fields son (omega arith) (same_side B C (min A B) C (omega arith) (omega arith)))
          (same_fields parent (omega arith) (same_side A (min B C) A B (omega arith) (omega arith)))
