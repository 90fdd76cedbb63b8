-- Every state that calls leave is valid.
-- valid_fresh: the fresh state is valid.
-- exactly_of_valid: the slots of a valid state are exactly 1 to its high mark.
-- valid_of_charge, valid_after: a charge set leaves a valid state valid, and so does every call.
use mathlib.Core.List.{List, [], ◌∷◌, ◌++◌}
use mathlib.Core.Path.{◌≡◌, refl, ap, ◌∙◌}
use mathlib.Core.Bool.{Bool, true, false}
use Prim.Native.Nat.{ℕ, suc, ◌≤◌, ◌<◌}
use native.Mathlib.Omega.{arith}
use lib.Dec.{leb, ltb, eqb}
use lib.ListN.{length, length-append}
use borrow.Author.Tests.{ltb-false, leb-false, eqb-false, not-false}
use Rattle.labels.specs.Labels.{Label}
use Rattle.trees.specs.Trees.{Entry, slots, size}
use Rattle.trees.specs.Searches.{Held, absent, found, full_search}
use Rattle.trees.specs.Updates.{inserted}
use Rattle.trees.specs.Charges.{is_charge}
use Rattle.trees.specs.Plain.{State, fresh, Call, search, insert, delete, set_charge, sought_by, wrong_charge}
use Rattle.trees.specs.Plain.{new_node, new_entry, insert_if_room, after_search, after_insert, after_delete, after_charge}
use Rattle.trees.specs.Plain.{after_full_search, after_arguments, after_length, plain_step}
use Rattle.trees.specs.Valid.{Valid, ascends, lengths_fit, exactly_up_to}
use Rattle.trees.proofs.Balance.{balanced_inserted, balanced_deleted}
use Rattle.trees.proofs.Counts.{Exactly, exactly_of_test, test_of_exactly}
use Rattle.trees.proofs.SlotCounts.{length_of_slots}
use Rattle.trees.proofs.Allotment.{exactly_when_reused, exactly_when_raised, exactly_when_freed}
use Rattle.trees.proofs.Charged.{labels_of_charged, slots_of_charged, balanced_charged}
use Rattle.trees.proofs.Charged.{charges_of_inserted, charges_of_deleted, charges_of_charged}
use Rattle.trees.proofs.MapKept.{ascends_of_inserted, ascends_of_deleted, fits_of_inserted, fits_of_deleted}

module _ (capacity width : ℕ) where
  -- The fresh state is valid.
  pub valid_fresh : Valid capacity width fresh
  valid_fresh =
      record {
        balanced = refl;
        ascending = refl;
        fitting = refl;
        charges_fit = refl;
        allotted = refl;
        within = omega arith;
      }

  -- The slots of a valid state are exactly 1 to the high mark.
  pub exactly_of_valid : (s : State) → Valid capacity width s → Exactly s.high (slots s.tree ++ s.freed)
  exactly_of_valid s valid = exactly_of_test s.high (slots s.tree ++ s.freed) valid.allotted

  module _ (s : State) (valid : Valid capacity width s) where
    -- A new node leaves the state valid where the slots are right afterwards.
    valid_hung : (new : Entry) → 1 ≤ length new.label → length new.label ≤ width
        → (full_search new.label s.tree).result ≡ absent → is_charge new.charge ≡ true
        → {freed : List ℕ} {high : ℕ} → Exactly high (slots (inserted new s.tree) ++ freed) → high ≤ capacity
        → Valid capacity width (record { tree = inserted new s.tree; freed = freed; high = high })
    valid_hung new long short none own exact within = record {
      balanced = balanced_inserted new s.tree valid.balanced;
      ascending = ascends_of_inserted s.tree valid.ascending new;
      fitting = fits_of_inserted s.tree valid.ascending width valid.fitting new long short;
      charges_fit = charges_of_inserted new s.tree none own valid.charges_fit;
      allotted = test_of_exactly exact;
      within = within;
    }

    -- The slot freed last, or else the slot above the high mark, leaves the slots right.
    valid_of_new : (x : Label) (v : ℕ) → 1 ≤ length x → length x ≤ width
        → (full_search x s.tree).result ≡ absent → size s.tree < capacity
        → (freed : List ℕ) → Exactly s.high (slots s.tree ++ freed)
        → Valid capacity width (new_entry x v s.tree freed s.high).state
    valid_of_new x v long short none room [] exact =
        let new : Entry = new_node x v (suc s.high) in
        valid_hung new long short none refl (exactly_when_raised new s.tree none [] refl exact)
        (omega (arith, exact.counted, length-append (slots s.tree) [], length_of_slots s.tree))
    valid_of_new x v long short none room (k ∷ freed) exact =
        let new : Entry = new_node x v k in
        valid_hung new long short none refl (exactly_when_reused new s.tree none freed exact) valid.within

    valid_of_search : (h : Held) (below above : ℕ) → Valid capacity width (after_search h below above s).state
    valid_of_search absent below above = valid
    valid_of_search (found e) below above = valid

    valid_of_insert : (x : Label) (v : ℕ) → 1 ≤ length x → length x ≤ width
        → (h : Held) → (full_search x s.tree).result ≡ h → Valid capacity width (after_insert capacity h x v s).state
    valid_of_insert x v long short (found e) held = valid
    valid_of_insert x v long short absent none = go (leb capacity (size s.tree)) refl
      where
        go : (full : Bool) → leb capacity (size s.tree) ≡ full
            → Valid capacity width (insert_if_room full x v s).state
        go true full = valid
        go false room =
            valid_of_new x v long short none (leb-false capacity (size s.tree) room) s.freed
            (exactly_of_valid s valid)

    valid_of_delete : (x : Label) (h : Held) → (full_search x s.tree).result ≡ h
        → Valid capacity width (after_delete h x s).state
    valid_of_delete x absent none = valid
    valid_of_delete x (found e) held = record {
      balanced = balanced_deleted x s.tree valid.balanced;
      ascending = ascends_of_deleted s.tree valid.ascending x;
      fitting = fits_of_deleted s.tree valid.ascending width valid.fitting x;
      charges_fit = charges_of_deleted x s.tree held valid.charges_fit;
      allotted = test_of_exactly (exactly_when_freed x s.tree held s.freed (exactly_of_valid s valid));
      within = valid.within;
    }

    -- A charge set leaves the state valid.
    pub valid_of_charge : (x : Label) (n : ℕ) → is_charge n ≡ true → (h : Held)
        → Valid capacity width (after_charge h x n s).state
    valid_of_charge x n own absent = valid
    valid_of_charge x n own (found e) = record {
      balanced = balanced_charged x n s.tree ∙ valid.balanced;
      ascending = ap ascends (labels_of_charged x n s.tree) ∙ valid.ascending;
      fitting = ap (lengths_fit width) (labels_of_charged x n s.tree) ∙ valid.fitting;
      charges_fit = charges_of_charged x n own s.tree valid.charges_fit;
      allotted =
          ap (λ (held : List ℕ). exactly_up_to s.high (held ++ s.freed)) (slots_of_charged x n s.tree)
          ∙ valid.allotted;
      within = valid.within;
    }

    valid_of_call : (c : Call) → 1 ≤ length (sought_by c) → length (sought_by c) ≤ width → wrong_charge c ≡ false
        → Valid capacity width (after_full_search capacity c (full_search (sought_by c) s.tree) s).state
    valid_of_call (search x) long short right = valid_of_search (full_search x s.tree).result _ _
    valid_of_call (insert x v) long short right = valid_of_insert x v long short (full_search x s.tree).result refl
    valid_of_call (delete x) long short right = valid_of_delete x (full_search x s.tree).result refl
    valid_of_call (set_charge x n) long short right =
        valid_of_charge x n (not-false (is_charge n) right) (full_search x s.tree).result

    -- A call leaves a valid state valid.
    pub valid_after : (c : Call) → Valid capacity width (plain_step capacity width c s).state
    valid_after c = go (eqb (length (sought_by c)) 0) (ltb width (length (sought_by c))) refl refl
      where
        go : (empty long : Bool) → eqb (length (sought_by c)) 0 ≡ empty → ltb width (length (sought_by c)) ≡ long
            → Valid capacity width (after_length empty long capacity c s).state
        go true long zero above = valid
        go false true some above = valid
        go false false some fits =
            let apart : (length (sought_by c) ≡ 0 → ⊥) = eqb-false (length (sought_by c)) 0 some in
            of_arguments (wrong_charge c) refl (omega arith) (ltb-false width (length (sought_by c)) fits)
          where
            of_arguments : (wrong : Bool) → wrong_charge c ≡ wrong
                → 1 ≤ length (sought_by c) → length (sought_by c) ≤ width
                → Valid capacity width (after_arguments wrong capacity c s).state
            of_arguments true wrong long short = valid
            of_arguments false right long short = valid_of_call c long short right
