-- The entries of a file inserted one after the other.
-- `Inserting`: what is left to insert leaves the whole. `inserting_begins`, `inserting_goes_on`: the entries in turn.
-- `insert_fits`: an entry's label can be inserted. `inserting_stops`, `inserting_ends`: where the inserts end.
use mathlib.Core.List.{List}
use mathlib.Core.Path.{◌≡◌, refl, sym, ap, ◌∙◌}
use Prim.Native.Nat.{ℕ, suc, ◌≤◌}
use native.Mathlib.Omega.{arith}
use lib.ListN.{drop}
use Rattle.std.specs.Prelude.{Option, Some, None}
use Rattle.types.specs.declared.Limits.{Limits}
use Rattle.types.specs.Answers.{Answer}
use Rattle.trees.specs.Plain.{insert}
use Rattle.tables.specs.Written.{Memory, lent}
use Rattle.tables.specs.Outcomes.{update_outcome, insert_outcome}
use Rattle.tables.specs.Given.{Gives}
use Rattle.tables.specs.Claims.{Sound, after_list}
use Rattle.files.specs.FileReads.{EntryRead, entry, take_entry}
use Rattle.files.proofs.FileEntries.{entry_fits}
use Rattle.demands.proofs.OrderedMap.{ordered_map}
use Rattle.scans.specs.declared.Entry.{Entry}
use Rattle.scans.specs.Scanned.{label_of, entry_says}
use Rattle.endings.specs.Ready.{EditsFit, Ready, InsertsReady}
use Rattle.loads.specs.Inserted.{call_then, calls_in, Leaves}

-- what is left of a file to insert leaves the whole, and the table is sound
pub record Inserting (limits : Limits) (file : List ℕ) (whole : Memory) (table store : List ℕ)
    (remaining next : ℕ) : Type 0 where
  pub limits_fit : EditsFit limits
  pub sound : Sound limits (lent table store)
  pub leaves : after_list limits (calls_in limits remaining (drop next file)) (lent table store) ≡ whole

-- At first all is left to insert.
pub inserting_begins : (limits : Limits) (file table store : List ℕ) (at count : ℕ) → InsertsReady limits table store
    → Inserting limits file (after_list limits (calls_in limits count (drop at file)) (lent table store)) table store
    count at
inserting_begins limits file table store at count ready =
    record { limits_fit = ready.limits_fit; sound = ready.sound; leaves = refl }

-- A memory that is the whole is left.
left_whole : (whole : Memory) (table store : List ℕ) → lent table store ≡ whole → Leaves whole table store
left_whole whole table store is =
    record { table = ap (λ (m : Memory). m.table) is; store = ap (λ (m : Memory). m.store) is }

module _ (limits : Limits) (file : List ℕ) (whole : Memory) (table store : List ℕ) (remaining next : ℕ)
    (inserting : Inserting limits file whole table store remaining next) where
  -- With nothing left the whole is there.
  pub inserting_ends : remaining ≤ 0 → Leaves whole table store
  unfolding calls_in
  inserting_ends none =
      let none_left : remaining ≡ 0 = omega arith in
      left_whole whole table store (rw none_left at inserting.leaves)

  module _ (n : ℕ) (one_more : remaining ≡ suc n) (read : Option Entry)
      (says : entry_says file read ≡ take_entry limits (drop next file)) where
    -- What is left, by the next entry.
    by_next : (found : Option Entry) → read ≡ found
        → after_list limits (call_then (entry_says file found) (λ rest. calls_in limits n rest)) (lent table store)
        ≡ whole
    unfolding calls_in
    by_next found is =
        ap (λ (r : EntryRead). after_list limits (call_then r (λ rest. calls_in limits n rest)) (lent table store))
        (ap (entry_says file) (sym is) ∙ says)
        ∙ rw one_more at inserting.leaves

    -- Where there is no entry nothing more is inserted.
    pub inserting_stops : read ≡ None → Leaves whole table store
    inserting_stops none = left_whole whole table store (by_next None none)

    module _ (e : Entry) (is : read ≡ Some e) where
      -- What is read of an entry.
      read_whole : take_entry limits (drop next file) ≡ entry (label_of file e) e.value (drop e.next file)
      read_whole = sym says ∙ ap (entry_says file) is

      -- Its label can be inserted.
      pub insert_fits : Ready limits table store (label_of file e)
      insert_fits =
          record {
            limits_fit = inserting.limits_fit;
            sound = inserting.sound;
            label = entry_fits limits (drop next file) _ e.value (drop e.next file) read_whole;
          }

      -- Past it the entries after it are left.
      pub inserting_goes_on : (answer : Answer) (words bytes : List ℕ)
          → Gives (insert_outcome limits table store (label_of file e) e.value) answer words bytes
          → Inserting limits file whole words bytes n e.next
      unfolding insert_outcome
      inserting_goes_on answer words bytes gives =
          let x = label_of file e in
          let after = (update_outcome limits (insert x e.value) table store).memory in
          let same : lent words bytes ≡ after = λ i. record { table = gives.table i; store = gives.store i } in
          record {
            limits_fit = inserting.limits_fit;
            sound =
                rw same
                ((ordered_map limits inserting.limits_fit.deepest).updates (lent table store) inserting.sound x
                insert_fits.label e.value).insert_sound;
            leaves = rw same (by_next (Some e) is);
          }
