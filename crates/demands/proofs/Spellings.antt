-- The spelling first stored stays, on every sound table.
-- refused_leaves: an update that is refused leaves the memory as it was lent, whatever it holds.
-- spelling_stays: what search, insert and delete say and leave for a label under which a pair is held.
use mathlib.Core.List.{List, ◌++◌}
use mathlib.Core.Option.{none, some}
use mathlib.Core.Path.{◌≡◌, refl, ◌∙◌}
use mathlib.Core.Bool.{true}
use Prim.Native.Nat.{ℕ, ◌≤◌, ◌<◌}
use native.Mathlib.Omega.{arith}
use lib.ListN.{length, length-map, length-append}
use borrow.Author.Tests.{eqb-true}
use Rattle.types.specs.declared.Limits.{Limits}
use Rattle.types.specs.Answers.{Answer, found, absent, updated, listed, done, refused}
use Rattle.labels.specs.Labels.{Label}
use Rattle.labels.proofs.Clashes.{clash}
use Rattle.trees.specs.Trees.{entries, size, slots}
use Rattle.trees.specs.Charges.{unknown}
use Rattle.trees.specs.Heights.{Deepest}
use Rattle.trees.specs.Plain as plain
use Rattle.trees.specs.Plain.{State, Call, After, Reply, sought_by, plain_step}
use Rattle.trees.specs.Valid.{Valid, ascends}
use Rattle.trees.specs.Map.{Pair, lookup}
use Rattle.trees.proofs.Entries.{length_of_entries}
use Rattle.trees.proofs.MapLaws.{keys_of_map}
use Rattle.trees.proofs.MapLists.{keys}
use Rattle.trees.proofs.Views.{both_true}
use Rattle.tables.specs.Written.{Memory}
use Rattle.tables.specs.Steps.{Walk, search_steps}
use Rattle.tables.specs.Sound.{state_of}
use Rattle.tables.specs.Outcomes.{Verdict, pass, refuse, of_memory, of_label, of_charge, of_table, outcome_by, reply_answer}
use Rattle.tables.specs.Outcomes.{memory_after, settled, update_outcome, insert_outcome, delete_outcome}
use Rattle.tables.specs.Claims.{Sound, LabelFits}
use Rattle.tables.specs.MapClaims.{map_in, accepted, refused_by, said, UpdatesMap}
use Rattle.demands.specs.Spellings.{SpellingStays}
use Rattle.demands.proofs.MapSpellings.{lookup_alike, lookup_removed, removal_shorter, lookup_inserted}
use Rattle.demands.proofs.OnSound.{of_sound, count_of_map, map_of_written}
use Rattle.demands.proofs.OrderedMap.{ordered_map}

-- an answer that is refused by a number
said_refused : (a : Answer) (n : ℕ) → said a ≡ refused_by n → a ≡ refused n
said_refused (found slot value visits places) n says = clash cc
said_refused (absent below above visits places) n says = clash cc
said_refused (updated slot visits places) n says = clash cc
said_refused (listed count) n says = clash cc
said_refused done n says = clash cc
said_refused (refused number) n says = cc

-- a reply that is refused leaves the memory
settled_refused : (limits : Limits) (m : Memory) (w : Walk) (r : Reply) (s : State) (n : ℕ)
    → reply_answer r w ≡ refused n → memory_after limits m r s ≡ m
settled_refused limits m w (plain.found_at slot value) s n says = refl
settled_refused limits m w (plain.not_held below above) s n says = refl
settled_refused limits m w (plain.updated slot) s n says = clash cc
settled_refused limits m w (plain.refused number) s n says = refl

-- an outcome that is refused does
outcome_refused : (v : Verdict) (limits : Limits) (m : Memory) (w : Walk) (a : After) (n : ℕ)
    → (outcome_by v m (settled limits m w a)).answer ≡ refused n
    → outcome_by v m (settled limits m w a) ≡ record { answer = refused n; memory = m }
outcome_refused pass limits m w a n says = rw (says, settled_refused limits m w a.reply a.state n says)
outcome_refused (refuse number) limits m w a n says = rw says

-- An update that is refused leaves the memory as it was lent.
pub refused_leaves : (limits : Limits) (c : Call) (table store : List ℕ) (n : ℕ)
    → (update_outcome limits c table store).answer ≡ refused n
    → update_outcome limits c table store
    ≡ record { answer = refused n; memory = record { table = table; store = store } }
unfolding update_outcome
refused_leaves limits c table store n says =
    outcome_refused
    (of_memory limits table store (of_label limits (sought_by c) (of_charge c (of_table limits table store pass)))) limits
    (record { table = table; store = store }) (search_steps limits table store (sought_by c))
    (plain_step limits.slots limits.width c (state_of limits table store)) n says

-- a valid tree has no more nodes than there are slots
size_within : (capacity width : ℕ) (s : State) → Valid capacity width s → size s.tree ≤ capacity
size_within capacity width s valid =
    let (counted, once) = (both_true _ _).0 valid.allotted in
    let all = eqb-true (length (slots s.tree ++ s.freed)) s.high counted in
    let sum = length-append (slots s.tree) s.freed in
    let nodes = length-map (entries s.tree) (λ e. e.slot) ∙ length_of_entries s.tree in
    let within = valid.within in
    omega arith

module _ (limits : Limits) (deepest : Deepest limits.slots limits.depth) where
  -- the map of a sound table ascends, and has no more pairs than there are slots
  map_ascends : (m : Memory) → Sound limits m → ascends (keys (map_in limits m)) ≡ true
  map_ascends =
      of_sound limits deepest (λ m. ascends (keys (map_in limits m)) ≡ true)
      (λ s valid. rw (map_of_written limits deepest s valid, keys_of_map s.tree) valid.ascending)

  map_within : (m : Memory) → Sound limits m → length (map_in limits m) ≤ limits.slots
  map_within =
      of_sound limits deepest (λ m. length (map_in limits m) ≤ limits.slots)
      (λ s valid. rw (map_of_written limits deepest s valid, count_of_map s)
      (size_within limits.slots limits.width s valid))

  module _ (m : Memory) (sound : Sound limits m) (x : Label) (fits : LabelFits limits x)
      (p : Pair) (held : lookup x (map_in limits m) ≡ some p) where
    updates : (v : ℕ) → UpdatesMap limits m x v
    updates v = (ordered_map limits deepest).updates m sound x fits v

    -- an insert is refused by 7
    says_held : (v : ℕ) → said (update_outcome limits (plain.insert x v) m.table m.store).answer ≡ refused_by 7
    says_held v = rw held at (updates v).insert_says

    -- after a delete the label is missing, and there is room
    abbrev left : Memory
    left = (update_outcome limits (plain.delete x) m.table m.store).memory

    missing : lookup x (map_in limits left) ≡ none
    missing = rw (updates 0).delete_leaves (lookup_removed x (map_in limits m) (map_ascends m sound))

    room : length (map_in limits left) < limits.slots
    room =
        let fewer = removal_shorter x (map_in limits m) p held in
        let most = map_within m sound in
        rw (updates 0).delete_leaves (omega arith)

    updates_left : (v : ℕ) → UpdatesMap limits left x v
    updates_left v = (ordered_map limits deepest).updates left (updates 0).delete_sound x fits v

    says_new : (v : ℕ) → said (update_outcome limits (plain.insert x v) left.table left.store).answer ≡ accepted
    says_new v = (rw missing at (updates_left v).insert_says).1 room

    -- it is held again, in the new spelling
    held_anew : (v : ℕ)
        → lookup x (map_in limits (update_outcome limits (plain.insert x v) left.table left.store).memory)
        ≡ some (record { label = x; value = v; charge = unknown })
    held_anew v =
        rw ((updates_left v).insert_leaves, says_new v)
        (lookup_inserted (record { label = x; value = v; charge = unknown }) (map_in limits left) missing)

  -- The spelling first stored stays.
  pub spelling_stays : SpellingStays limits
  unfolding insert_outcome delete_outcome
  spelling_stays m sound x fits p held = record {
    alike = lookup_alike x (map_in limits m) p held;
    shown = ((ordered_map limits deepest).searches m sound x fits).pair ∙ held;
    refuses = λ v.
        refused_leaves limits (plain.insert x v) m.table m.store 7
        (said_refused _ 7 (says_held m sound x fits p held v));
    deletes = rw held at (updates m sound x fits p held 0).delete_says;
    inserts = says_new m sound x fits p held;
    respells = held_anew m sound x fits p held;
  }
