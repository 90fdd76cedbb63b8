-- Demand 2: "On a sound table it is the plain ordered map": what each call says and leaves is what the map has.
use Rattle.std.specs.Prelude.{List, map, ◌≡◌, Bool, true, false, ℕ, ◌≤◌, ◌<◌, length, take, drop}
use Rattle.std.proofs.Math.Option.{Option, none, some}
use Rattle.types.specs.declared.Limits.{Limits}
use Rattle.types.specs.Answers.{Answer, found, absent, updated, listed, done, refused}
use Rattle.labels.specs.Labels.{Label, Alike}
use Rattle.trees.specs.Charges.{unknown, is_charge}
use Rattle.trees.specs.Plain as plain
use Rattle.trees.specs.Plain.{Call, sought_by}
use Rattle.trees.specs.Valid.{ascends}
use Rattle.trees.specs.Map.{Pair, lookup, insertion, removal, charging, map_of}
use Rattle.tables.specs.Words.{row_at, put_charge, label_at}
use Rattle.tables.specs.Written.{Memory}
use Rattle.tables.specs.Sound.{state_of}
use Rattle.tables.specs.Outcomes.{search_outcome, update_outcome, listing_outcome}
use Rattle.tables.specs.Claims.{Sound, LabelFits, call_outcome}

-- the map that a table holds
abbrev pub map_in : Limits → Memory → List Pair
map_in limits m = map_of (state_of limits m.table m.store).tree

-- the labels of its pairs
abbrev pub labels_in : Limits → Memory → List Label
labels_in limits m = map (λ p. p.label) (map_in limits m)

-- the label of a slot, as the view shows it
abbrev pub label_in : Limits → Memory → ℕ → Label
label_in limits m k = label_at limits m.store k (row_at m.table k).len

-- the charge of a slot, its word 7
abbrev pub charge_in : Memory → ℕ → ℕ
charge_in m k = (row_at m.table k).charge

-- what a search answer says is held: the label that its slot shows, the value, and the charge in its slot
abbrev pub pair_said : Limits → Memory → Answer → Option Pair
pair_said limits m (found slot value visits places) =
    some (record { label = label_in limits m slot; value = value; charge = charge_in m slot })
pair_said limits m (absent below above visits places) = none
pair_said limits m (updated slot visits places) = none
pair_said limits m (listed count) = none
pair_said limits m done = none
pair_said limits m (refused number) = none

-- search answers as lookup: the value, the charge in the slot, and "the spelling first stored is the one shown" (M-104
-- of document 02), which is alike to the label sought; it is not refused
pub record SearchLooksUp (limits : Limits) (m : Memory) (x : Label) : Type 0 where
  pub pair : pair_said limits m (search_outcome limits m.table m.store x) ≡ lookup x (map_in limits m)
  pub slot :
      (k v visits places : ℕ) → search_outcome limits m.table m.store x ≡ found k v visits places
      → Alike x (label_in limits m k)
  pub answered : (number : ℕ) → search_outcome limits m.table m.store x ≡ refused number → ⊥

-- an update's answer, as the map has it: done, or refused by a number
pub data Said : Type 0 where
  accepted : Said
  refused_by : ℕ → Said

abbrev pub said : Answer → Said
said (found slot value visits places) = accepted
said (absent below above visits places) = accepted
said (updated slot visits places) = accepted
said (listed count) = accepted
said done = accepted
said (refused number) = refused_by number

abbrev pub insert_said : Option Pair → (held capacity : ℕ) → Said → Type 0
insert_said (some p) held capacity a = a ≡ refused_by 7
insert_said none held capacity a = (capacity ≤ held → a ≡ refused_by 9) × (held < capacity → a ≡ accepted)

abbrev pub map_after_insert : Said → Pair → List Pair → List Pair
map_after_insert accepted new m = insertion new m
map_after_insert (refused_by number) new m = m

abbrev pub delete_said : Option Pair → Said → Type 0
delete_said (some p) a = a ≡ accepted
delete_said none a = a ≡ refused_by 8

pub record UpdatesMap (limits : Limits) (m : Memory) (x : Label) (value : ℕ) : Type 0 where
  pub insert_says :
      insert_said (lookup x (map_in limits m)) (length (map_in limits m)) limits.slots
      (said (update_outcome limits (plain.insert x value) m.table m.store).answer)
  pub insert_leaves :
      map_in limits (update_outcome limits (plain.insert x value) m.table m.store).memory
      ≡ map_after_insert (said (update_outcome limits (plain.insert x value) m.table m.store).answer)
      (record { label = x; value = value; charge = unknown }) (map_in limits m)
  pub insert_sound : Sound limits (update_outcome limits (plain.insert x value) m.table m.store).memory
  pub delete_says :
      delete_said (lookup x (map_in limits m))
      (said (update_outcome limits (plain.delete x) m.table m.store).answer)
  pub delete_leaves :
      map_in limits (update_outcome limits (plain.delete x) m.table m.store).memory ≡ removal x (map_in limits m)
  pub delete_sound : Sound limits (update_outcome limits (plain.delete x) m.table m.store).memory

-- "24 comes before its search, then 8 where absent, else the charge is set" (M-109 of document 02)
abbrev pub charge_said : (right : Bool) → Option Pair → Said → Type 0
charge_said false held a = a ≡ refused_by 24
charge_said true none a = a ≡ refused_by 8
charge_said true (some p) a = a ≡ accepted

abbrev pub map_after_charge : Said → Label → ℕ → List Pair → List Pair
map_after_charge accepted x charge m = charging x charge m
map_after_charge (refused_by number) x charge m = m

-- what the call that sets a charge says and leaves
pub record ChargesMap (limits : Limits) (m : Memory) (x : Label) (charge : ℕ) : Type 0 where
  pub says :
      charge_said (is_charge charge) (lookup x (map_in limits m))
      (said (update_outcome limits (plain.set_charge x charge) m.table m.store).answer)
  pub leaves :
      map_in limits (update_outcome limits (plain.set_charge x charge) m.table m.store).memory
      ≡ map_after_charge (said (update_outcome limits (plain.set_charge x charge) m.table m.store).answer)
      x charge (map_in limits m)
  -- only word 7 of the slot that it answers is stored
  pub word :
      (slot visits places : ℕ)
      → (update_outcome limits (plain.set_charge x charge) m.table m.store).answer ≡ updated slot visits places
      → (update_outcome limits (plain.set_charge x charge) m.table m.store).memory
      ≡ record { table = put_charge m.table slot charge; store = m.store }
  pub after_sound : Sound limits (update_outcome limits (plain.set_charge x charge) m.table m.store).memory

-- a listing with room gives the number of labels, and the slots of the labels in ascending order; "later words stay"
pub record ListsAscending (limits : Limits) (m : Memory) (list : List ℕ) : Type 0 where
  pub count : (listing_outcome limits m.table m.store list).answer ≡ listed (length (map_in limits m))
  pub labels :
      map (label_in limits m) (take (length (map_in limits m)) (listing_outcome limits m.table m.store list).list)
      ≡ labels_in limits m
  pub ascending : ascends (labels_in limits m) ≡ true
  pub later :
      drop (length (map_in limits m)) (listing_outcome limits m.table m.store list).list
      ≡ drop (length (map_in limits m)) list

-- The claim of demand 2, for every sound table and every label.
pub record OrderedMap (limits : Limits) : Type 0 where
  pub searches : (m : Memory) → Sound limits m → (x : Label) → LabelFits limits x → SearchLooksUp limits m x
  pub updates :
      (m : Memory) → Sound limits m → (x : Label) → LabelFits limits x → (value : ℕ) → UpdatesMap limits m x value
  pub charges :
      (m : Memory) → Sound limits m → (x : Label) → LabelFits limits x → (charge : ℕ) → ChargesMap limits m x charge
  -- no call changes what is held under another label, so no other call its charge
  pub others :
      (m : Memory) → Sound limits m → (c : Call) (y : Label) → (Alike y (sought_by c) → ⊥)
      → lookup y (map_in limits (call_outcome limits c m).memory) ≡ lookup y (map_in limits m)
  pub lists :
      (m : Memory) → Sound limits m → (list : List ℕ) → length (map_in limits m) ≤ length list
      → ListsAscending limits m list
