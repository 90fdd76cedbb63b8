-- Eight bytes of two labels at once.
-- `packed_eight`: eight bytes of a list, packed into one number.
-- `eight_found`: where two such numbers are equal, the bytes are the same.
-- `passed_eight`: eight bytes that are the same leave it to the places after them.
-- `found_after`: what is found after them is what the comparison from the start finds.
use Prim.Native.Nat.{ℕ, suc, ◌+◌, ◌*◌, ◌-◌, ◌≤◌, ◌<◌}
use mathlib.Core.Path.{◌≡◌, refl, sym, ◌∙◌}
use mathlib.Core.Bool.{Bool, true}
use mathlib.Core.List.{List, [], ◌∷◌, ◌++◌}
use native.Mathlib.Numerals.{add-one}
use native.Mathlib.Omega.{arith}
use lib.Dec.{eqb}
use lib.ListN.{length, get_or, take, drop, take-append-drop, length-take, length-drop}
use lib.Seq.{drop-cons, drop-drop}
use borrow.Author.Tests.{eqb-true}
use Rattle.std.specs.Int.{w64, from_le_bytes}
use Rattle.labels.specs.Labels.{Label, Comparison, compare_at, compare_from}
use Rattle.compares.specs.Compares.{rest, HavePlaces}
use Rattle.compares.proofs.Laws.{rest_start}
use Rattle.orders.proofs.OrderLaws.{compare_decided, same_bytes}
use Rattle.eights.specs.Eights.{Packed, packs_none, packs, SameEight}

-- ---- numbers made of bytes

-- a number's lowest byte and the rest are one pair
split : (a b r s : ℕ) → a < 256 → b < 256 → a + 256 * r ≡ b + 256 * s → (a ≡ b) × (r ≡ s)
split a b r s p q e = (omega arith, omega arith)

-- equal numbers pack the same bytes
same_packed : {r s : ℕ} {l m : List ℕ} → Packed r l → Packed s m → length l ≡ length m → r ≡ s → l ≡ m
same_packed packs_none packs_none n e = refl
same_packed packs_none (packs b s q k) n e = absurd (omega arith)
same_packed (packs a r p h) packs_none n e = absurd (omega arith)
same_packed (packs a r p h) (packs b s q k) n e =
    let both = split a b r s p q e in cc (both.0, same_packed h k (omega arith) both.1)

-- the bytes of a list from index i on, by the first of them
next_byte : (l : List ℕ) (n i j : ℕ) → i + 1 ≡ j → i < length l
    → take (suc n) (drop i l) ≡ get_or l i 0 ∷ take n (drop j l)
next_byte l n i j e h = rw (← e, add-one, drop-cons l i 0)

-- one more byte is packed
pack_byte : (l : List ℕ) (n i j r : ℕ) → i + 1 ≡ j → i < length l → get_or l i 0 < 256
    → Packed r (take n (drop j l)) → Packed (get_or l i 0 + 256 * r) (take (suc n) (drop i l))
pack_byte l n i j r e h small p = rw (next_byte l n i j e h) (packs (get_or l i 0) r small p)

-- the eight bytes from index i on are packed into one number
pub packed_eight : (l : List ℕ) (i n : ℕ) → i + 8 ≤ length l → ((k : ℕ) → get_or l k 0 < 256)
    → n ≡ from_le_bytes w64 (get_or l i 0 ∷ (get_or l (i + 1) 0 ∷ (get_or l (i + 2) 0 ∷ (get_or l (i + 3) 0
    ∷ (get_or l (i + 4) 0 ∷ (get_or l (i + 5) 0 ∷ (get_or l (i + 6) 0 ∷ (get_or l (i + 7) 0 ∷ []))))))))
    → Packed n (take 8 (drop i l))
packed_eight l i n h small e =
    rw (e ∙ nested)
    (pack_byte l 7 i (i + 1) _ refl (omega arith) (small i)
    (pack_byte l 6 (i + 1) (i + 2) _ (omega arith) (omega arith) (small (i + 1))
    (pack_byte l 5 (i + 2) (i + 3) _ (omega arith) (omega arith) (small (i + 2))
    (pack_byte l 4 (i + 3) (i + 4) _ (omega arith) (omega arith) (small (i + 3))
    (pack_byte l 3 (i + 4) (i + 5) _ (omega arith) (omega arith) (small (i + 4))
    (pack_byte l 2 (i + 5) (i + 6) _ (omega arith) (omega arith) (small (i + 5))
    (pack_byte l 1 (i + 6) (i + 7) _ (omega arith) (omega arith) (small (i + 6))
    (pack_byte l 0 (i + 7) (i + 8) 0 (omega arith) (omega arith) (small (i + 7)) packs_none))))))))
  where
    nested : from_le_bytes w64 (get_or l i 0 ∷ (get_or l (i + 1) 0 ∷ (get_or l (i + 2) 0 ∷ (get_or l (i + 3) 0
        ∷ (get_or l (i + 4) 0 ∷ (get_or l (i + 5) 0 ∷ (get_or l (i + 6) 0 ∷ (get_or l (i + 7) 0 ∷ []))))))))
        ≡ get_or l i 0 + 256 * (get_or l (i + 1) 0 + 256 * (get_or l (i + 2) 0 + 256 * (get_or l (i + 3) 0
        + 256 * (get_or l (i + 4) 0 + 256 * (get_or l (i + 5) 0 + 256 * (get_or l (i + 6) 0
        + 256 * (get_or l (i + 7) 0 + 256 * 0)))))))
    nested = omega arith

-- the eight bytes of two lists are the same where the numbers packed of them are
pub eight_found : (x y : List ℕ) (i r s : ℕ) → i + 8 ≤ length x → i + 8 ≤ length y
    → Packed r (take 8 (drop i x)) → Packed s (take 8 (drop i y)) → SameEight (eqb r s) x y i
eight_found x y i r s h k p q =
    record { same = λ e. same_packed p q (simp (length-take, length-drop) (omega arith)) (eqb-true r s e) }

-- ---- places that are the same

-- a shared start is passed over
shared_start : (i : ℕ) (a x y : Label) → compare_at i (a ++ x) (a ++ y) ≡ compare_at (i + length a) x y
shared_start i [] x y = let e : i + 0 ≡ i = omega arith in rw e
shared_start i (b ∷ a) x y =
    compare_decided b b i (compare_at (suc i) (a ++ x) (a ++ y)) ∙ (rw (← same_bytes b b refl))
    ∙ shared_start (suc i) a x y
    ∙ rw later
  where
    later : suc i + length a ≡ i + suc (length a)
    later = omega arith

-- eight bytes that are the same leave it to the places after them
same_places : (x y : Label) (i : ℕ) → i + 8 ≤ length x → take 8 (drop i x) ≡ take 8 (drop i y)
    → compare_at (suc i) (drop i x) (drop i y) ≡ compare_at (suc i + 8) (drop (i + 8) x) (drop (i + 8) y)
same_places x y i h e =
    rw (← take-append-drop 8 (drop i x), ← take-append-drop 8 (drop i y), ← e, shared_start, long, drop-drop, drop-drop)
  where
    long : length (take 8 (drop i x)) ≡ 8
    long = simp (length-take, length-drop) (omega arith)

-- the test of eight bytes from index i on, before an end that both labels have, found them the same
pub passed_eight : (x y : Label) (i j end : ℕ) (found : Bool) → HavePlaces end x y 0 → 8 ≤ end → i ≤ end - 8
    → SameEight found x y i → found ≡ true → rest x y i ≡ rest x y j → rest x y (i + 8) ≡ rest x y j
unfolding rest
passed_eight x y i j end found have long within test is so =
    let e : suc i + 8 ≡ suc (i + 8) = omega arith in
    sym (rw e at (same_places x y i (omega (arith, have.first)) (test.same is))) ∙ so

-- what is found from the place after an index that was reached from place d
pub found_after : (x y : Label) (d i : ℕ) (k : Comparison) → 1 ≤ d → k ≡ compare_from (i + 1) x y
    → rest x y i ≡ rest x y (d - 1) → k ≡ compare_from d x y
found_after x y d i k positive found so =
    let at : i + 1 - 1 ≡ i = omega arith in
    found ∙ sym (rw at at (rest_start (i + 1) x y (omega arith))) ∙ so ∙ rest_start d x y positive
