-- Bytes set into a store one after the other, and the length of a label that is read.
-- `label_set`, `label_room_lem`: a label is set as far as the store goes.
-- `part_cleared`: a part is cleared as far as the store goes.
-- `length_of_label`: a label is at most as long as its length word says.
use Prim.Native.Nat.{ℕ, zero, suc, ◌-◌, ◌≤◌, ◌<◌, min}
use mathlib.Core.Path.{◌≡◌, refl, sym, ap, ◌∙◌}
use mathlib.Core.Bool.{Bool}
use mathlib.Core.List.{List, [], ◌∷◌}
use native.Mathlib.Omega.{arith}
use borrow.Rule.Slice.PartMut.{put_mid}
use lib.ListN.{length, set, take, drop, replicate, length-set, length-take, length-replicate}
use lib.Seq.{sets, set_out, take-nil}
use Rattle.types.specs.declared.Limits.{Limits}
use Rattle.labels.proofs.Numbers.{Ltb, lt_yes, lt_no, ltb_view}
use Rattle.tables.specs.Words.{part_start, label_at}
use Rattle.words.specs.Filled.{Filled, HasRoom}
use Rattle.words.proofs.Fills.{filled_part}
use Rattle.words.proofs.PartLaws.{take_clipped}
use Rattle.slots.specs.Slots.{with_label, without_label}

-- From past the end on nothing is set.
sets_past : (l run : List ℕ) (at : ℕ) → length l ≤ at → sets l at run ≡ l
sets_past l [] at past = refl
sets_past l (x ∷ run) at past = rw (set_out l at x past) (sets_past l run (suc at) (omega arith))

-- A run is set as far as the list goes.
sets_inside : (l run : List ℕ) (at : ℕ) → at ≤ length l → sets l at run ≡ sets l at (take (length l - at) run)
sets_inside l [] at inside = ap (sets l at) (sym (take-nil (length l - at)))
sets_inside l (x ∷ run) at inside =
    go (length l - at) refl
    (λ more. sets_inside (set l at x) run (suc at) (omega (arith, length-set l at x)))
  where
    go : (room : ℕ) → length l - at ≡ room
        → (at < length l → sets (set l at x) (suc at) run
        ≡ sets (set l at x) (suc at) (take (length (set l at x) - suc at) run))
        → sets l at (x ∷ run) ≡ sets l at (take (length l - at) (x ∷ run))
    go zero is deeper = rw is (sets_past l (x ∷ run) at (omega arith))
    go (suc room) is deeper =
        let less : length (set l at x) - suc at ≡ room = omega (arith, length-set l at x) in
        rw is (rw less at (deeper (omega arith)))

-- So a run is where both its start and its length are cut to the list.
sets_clipped : (l run : List ℕ) (from start n : ℕ) → start ≡ min from (length l)
    → n ≡ min (length run) (length l - start) → sets l start (take n run) ≡ sets l from run
sets_clipped l run from start n starts counts = by_start (ltb_view (length l) from)
  where
    by_start : {b : Bool} → Ltb (length l) from b → sets l start (take n run) ≡ sets l from run
    by_start (lt_yes past) =
        let none : n ≡ 0 = omega arith in
        rw none (sym (sets_past l run from (omega arith)))
    by_start (lt_no inside) =
        let same : start ≡ from = omega arith in
        let room : n ≡ min (length l - from) (length run) = omega arith in
        rw (same, take_clipped run (length l - from) n room) (sym (sets_inside l run from inside))

-- A label is set as far as the store goes.
pub label_set : (limits : Limits) (store after : List ℕ) (slot : ℕ) (label : List ℕ) (from start n next : ℕ)
    → from ≡ part_start limits slot → start ≡ min from (length store) → n ≡ min (length label) (length store - start)
    → Filled (take n label) store start after next → after ≡ with_label limits store slot label
unfolding with_label
label_set limits store after slot label from start n next at starts counts filled =
    filled.list ∙ sets_clipped store label from start n starts counts ∙ ap (λ (k : ℕ). sets store k label) at

-- There is room for what is set of it.
pub label_room_lem : (store label : List ℕ) (from start n : ℕ) → start ≡ min from (length store)
    → n ≡ min (length label) (length store - start) → HasRoom (take n label) start store
label_room_lem store label from start n starts counts = omega (arith, length-take n label)

abbrev zeros : ℕ → List ℕ
zeros n = replicate n 0

take_zeros : (width n : ℕ) → n ≤ width → take n (zeros width) ≡ zeros n
take_zeros width zero few = refl
take_zeros zero (suc n) few = absurd (omega arith)
take_zeros (suc width) (suc n) few = ap (λ (more : List ℕ). 0 ∷ more) (take_zeros width n (omega arith))

count_zeros : (n : ℕ) → length (zeros n) ≡ n
count_zeros n = length-replicate n 0

-- A part is cleared as far as the store goes.
pub part_cleared : (limits : Limits) (store part : List ℕ) (slot from start n count : ℕ) → from ≡ part_start limits slot
    → start ≡ min from (length store) → n ≡ min limits.width (length store - start) → count ≡ n
    → part ≡ replicate n 0 → put_mid start count store part ≡ without_label limits store slot
unfolding without_label
part_cleared limits store part slot from start n count at starts counts all cleared =
    let whole = count_zeros limits.width in
    let few : n ≡ min (length (zeros limits.width)) (length store - start) = rw whole counts in
    let run : take n (zeros limits.width) ≡ zeros n = take_zeros limits.width n (omega arith) in
    let size : count ≡ length (take n (zeros limits.width)) = rw (run, count_zeros n) all in
    let room = label_room_lem store (zeros limits.width) from start n starts few in
    (filled_part (take n (zeros limits.width)) store part start count room size (cleared ∙ sym run)).list
    ∙ sets_clipped store (zeros limits.width) from start n starts few
    ∙ ap (λ (k : ℕ). sets store k (zeros limits.width)) at

-- A label is at most as long as its length word says.
pub length_of_label : (limits : Limits) (store : List ℕ) (slot len : ℕ) (label : List ℕ)
    → label ≡ label_at limits store slot len → {bound : ℕ} → len ≤ bound → length label ≤ bound
unfolding label_at
length_of_label limits store slot len label read small =
    let count = ap length read ∙ length-take len (drop (part_start limits slot) store) in
    omega arith
