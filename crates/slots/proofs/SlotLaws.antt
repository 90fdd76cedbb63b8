-- Slots taken and freed, in the form in which the code takes and frees them.
-- `popped`: a table without the first slot of its free chain.
-- `none_free`, `first_free_lem`: the free chain's first slot, where there is none and where there is one.
-- `popped_none`, `popped_first`: what is left of the chain there.
-- `popped_as_it_was`: where no slot is free, the table stays.
-- `taken_above`, `taken_freed`: the slot taken, above the high mark and from the free chain.
-- `no_root_placed`, `root_placed`: the root's place stored, without a root and with one.
use Prim.Native.Nat.{ℕ, ◌+◌}
use mathlib.Core.Path.{◌≡◌, refl, sym, ◌∙◌}
use mathlib.Core.Logic.{◌≢◌}
use mathlib.Core.List.{List}
use mathlib.Core.Bool.{Bool, true, false, cond}
use lib.Dec.{eqb}
use lib.ListN.{get_or, set}
use borrow.Author.Tests.{eq-eqb, ne_eqb}
use Rattle.std.specs.Prelude.{Option, Some, None}
use Rattle.types.specs.declared.Row.{Row}
use Rattle.tables.specs.Words.{root_link, first_free, slot_start, row_at}
use Rattle.words.proofs.OneWord.{put_place}
use Rattle.slots.specs.Slots.{free_slot, slot_taken, after_taken, with_root_place}

abbrev pub popped : List ℕ → List ℕ
popped table = cond (eqb (first_free table) 0) table (set table 2 (row_at table (first_free table)).left)

-- No slot is free.
pub none_free : (table : List ℕ) (first : ℕ) → first ≡ first_free table → first ≡ 0 → None ≡ free_slot table
unfolding free_slot
none_free table first read none = simp (eq-eqb (first_free table) 0 (sym read ∙ none))

pub popped_none : (table : List ℕ) (first : ℕ) → first ≡ first_free table → first ≡ 0 → table ≡ popped table
popped_none table first read none = simp (eq-eqb (first_free table) 0 (sym read ∙ none))

-- The first slot of the free chain is free, and is taken out of the chain.
pub first_free_lem : (table : List ℕ) (first : ℕ) → first ≡ first_free table → first ≢ 0 → Some first ≡ free_slot table
unfolding free_slot
first_free_lem table first read some = simp (ne_eqb (first_free table) 0 (λ none. some (read ∙ none))) (cc)

pub popped_first : (table after : List ℕ) (first : ℕ) (row : Row) → first ≡ first_free table → first ≢ 0
    → row ≡ row_at table first → after ≡ set table 2 row.left → after ≡ popped table
popped_first table after first row read some of_row stored =
    simp (ne_eqb (first_free table) 0 (λ none. some (read ∙ none))) (cc)

none_only : (empty : Bool) (first : ℕ) → None ≡ cond empty None (Some first) → empty ≡ true
none_only true first same = refl
none_only false first same = cc

slot_only : (empty : Bool) (first slot : ℕ) → Some slot ≡ cond empty None (Some first)
    → (empty ≡ false) × (slot ≡ first)
slot_only true first slot same = ((cc), cc)
slot_only false first slot same = (refl, cc)

-- Where no slot is free, the table stays.
pub popped_as_it_was : (table below : List ℕ) {free : Option ℕ} → free ≡ free_slot table → below ≡ popped table → free ≡ None
    → below ≡ table
unfolding free_slot
popped_as_it_was table below of_table_lem left none =
    let empty = none_only (eqb (first_free table) 0) (first_free table) (sym none ∙ of_table_lem) in
    left ∙ simp empty

-- The slot above the high mark is taken, where none is free.
pub taken_above : (table below after : List ℕ) {free : Option ℕ} {mark : ℕ} → free ≡ free_slot table → below ≡ popped table
    → free ≡ None → mark ≡ get_or below 3 0 → after ≡ set below 3 (mark + 1)
    → (mark + 1 ≡ slot_taken table) × (after ≡ after_taken table)
unfolding free_slot slot_taken after_taken
taken_above table below after of_table_lem left none read stored =
    let empty = none_only (eqb (first_free table) 0) (first_free table) (sym none ∙ of_table_lem) in
    let stays = popped_as_it_was table below of_table_lem left none in
    (simp empty (cc stays), simp empty (cc stays))

-- The slot freed last is taken.
pub taken_freed : (table below : List ℕ) {free : Option ℕ} {slot : ℕ} → free ≡ free_slot table → below ≡ popped table
    → free ≡ Some slot → (slot ≡ slot_taken table) × (below ≡ after_taken table)
unfolding free_slot slot_taken after_taken
taken_freed table below {slot = slot} of_table_lem left some =
    let full = slot_only (eqb (first_free table) 0) (first_free table) slot (sym some ∙ of_table_lem) in
    (simp full.0 full.1, left ∙ simp full.0)

-- Without a root no place is stored.
pub no_root_placed : (table : List ℕ) (place : ℕ) {root : ℕ} → root ≡ root_link table → root ≡ 0
    → table ≡ with_root_place table place
unfolding with_root_place
no_root_placed table place read none = let empty = eq-eqb (root_link table) 0 (sym read ∙ none) in simp empty

-- The root's place is stored.
pub root_placed : (table after : List ℕ) (place base : ℕ) {root : ℕ} → root ≡ root_link table → root ≢ 0
    → base ≡ slot_start root → after ≡ set table (base + 2) place → after ≡ with_root_place table place
unfolding with_root_place
root_placed table after place base read some start stored =
    let full = ne_eqb (root_link table) 0 (λ none. some (read ∙ none)) in
    rw (full, stored, start, read) (sym (put_place table (root_link table) place))
