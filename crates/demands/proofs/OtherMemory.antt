-- Memory of one index lent to a call of another.
-- wrong_table_refused: each call refuses a table of another length by 1.
use mathlib.Core.List.{List}
use mathlib.Core.Path.{◌≡◌, refl}
use mathlib.Core.Bool.{Bool, not}
use Prim.Native.Nat.{ℕ}
use lib.Dec.{eqb}
use lib.ListN.{length}
use Rattle.types.specs.declared.Limits.{Limits}
use Rattle.types.specs.Sizes.{table_length, store_length}
use Rattle.labels.proofs.Numbers.{Eqb, eq_yes, eq_no, eqb_view}
use Rattle.tables.specs.Outcomes.{Verdict, refuse, line, of_memory, search_outcome, check_outcome, view_outcome, view_part}
use Rattle.tables.specs.Outcomes.{listing_outcome, layout_outcome, update_outcome, insert_outcome, delete_outcome}
use Rattle.tables.specs.Outcomes.{charge_outcome}
use Rattle.files.specs.Saves.{save_outcome}
use Rattle.files.specs.Loads.{load_outcome}
use Rattle.rfc4180.specs.Rosters.{roster_outcome}
use Rattle.demands.specs.OtherMemory.{AllRefused}

module _ (limits : Limits) (table store : List ℕ) (other : length table ≡ table_length limits → ⊥) where
  -- The first line of the table of refusals applies.
  first_refused : (below : Verdict) → of_memory limits table store below ≡ refuse 1
  first_refused below = by_test (line (not (eqb (length store) (store_length limits))) 2 below)
      (eqb_view (length table) (table_length limits))
    where
      by_test : {b : Bool} (next : Verdict) → Eqb (length table) (table_length limits) b → line (not b) 1 next ≡ refuse 1
      by_test next (eq_yes same) = absurd (other same)
      by_test next (eq_no apart) = refl

  -- Each call refuses a table of another length by 1.
  pub wrong_table_refused : AllRefused limits table store
  unfolding search_outcome check_outcome view_outcome view_part listing_outcome layout_outcome update_outcome insert_outcome
      delete_outcome charge_outcome save_outcome load_outcome roster_outcome
  wrong_table_refused = record {
    layout = rw first_refused;
    search = λ x. rw first_refused;
    insert = λ x value. rw first_refused;
    delete = λ x. rw first_refused;
    charge = λ x charge. rw first_refused;
    check = rw first_refused;
    listing = λ list. rw first_refused;
    view = λ k. rw first_refused;
    part = λ k. rw first_refused;
    save = λ output. rw first_refused;
    load = λ file. rw first_refused;
    roster = λ text. rw first_refused;
  }
