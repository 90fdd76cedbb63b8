-- Inserts of ascending labels into a sound table.
-- insert_above: a label above all that are held is inserted, where there is room, at the end of the map.
-- all_inserted: so are pairs as a file has them, one after the other.
use mathlib.Core.Bool.{true}
use mathlib.Core.List.{List, [], ◌∷◌, ◌++◌, append-nil, map-append}
use mathlib.Core.Option.{none}
use mathlib.Core.Path.{◌≡◌, sym, ap, ◌∙◌}
use Prim.Native.Nat.{ℕ, ◌+◌, ◌≤◌, ◌<◌}
use native.Mathlib.Omega.{arith}
use lib.ListN.{length, length-append}
use lib.Seq.{append_snoc}
use Rattle.types.specs.declared.Limits.{Limits}
use Rattle.labels.specs.Labels.{Label, compare_labels}
use Rattle.labels.specs.Neighbours.{Neighbour, held, none_below}
use Rattle.trees.specs.Heights.{Deepest}
use Rattle.trees.specs.Map.{Pair, lookup, insertion}
use Rattle.trees.specs.Plain.{insert}
use Rattle.trees.specs.Valid.{is_smaller}
use Rattle.trees.proofs.Linked.{Linked, linked_end, linked_append, before_of_smaller}
use Rattle.trees.proofs.MapLists.{keys, lookup_past, insertion_past}
use Rattle.tables.specs.Written.{Memory}
use Rattle.tables.specs.Claims.{Sound, LabelFits, call_outcome, after_list}
use Rattle.tables.specs.MapClaims.{map_in, Said, accepted, said, map_after_insert}
use Rattle.files.specs.FileReads.{filed}
use Rattle.files.specs.Loads.{inserts_of}
use Rattle.files.proofs.FileReadLaws.{Filed, filed_none, filed_more}
use Rattle.demands.specs.Loads.{AllAccepted}
use Rattle.demands.proofs.OrderedMap.{ordered_map}

-- A label above all that are held is not held,
missing_above : {p : Neighbour} (x : Label) (list : List Pair) → Linked p (keys list) (held x) → lookup x list ≡ none
missing_above x list above = rw append-nil at (lookup_past x list [] above)

-- and goes to the end of the map.
insertion_above : {p : Neighbour} (new : Pair) (list : List Pair) → Linked p (keys list) (held new.label)
    → insertion new list ≡ list ++ (new ∷ [])
insertion_above new list above = rw append-nil at (insertion_past new list [] above)

module _ (limits : Limits) where
  -- an insert that is accepted and leaves a sound table, with the pair at the end of its map
  pub record InsertsLast (m : Memory) (x : Label) (value : ℕ) : Type 0 where
    pub accepts : said (call_outcome limits (insert x value) m).answer ≡ accepted
    pub sound : Sound limits (call_outcome limits (insert x value) m).memory
    pub map : map_in limits (call_outcome limits (insert x value) m).memory ≡ map_in limits m ++ (filed x value ∷ [])

  -- inserts that are all accepted and leave a sound table, with the pairs at the end of its map
  pub record InsertsAll (m : Memory) (pairs : List Pair) : Type 0 where
    pub accepts : AllAccepted limits (inserts_of pairs) m
    pub sound : Sound limits (after_list limits (inserts_of pairs) m)
    pub map : map_in limits (after_list limits (inserts_of pairs) m) ≡ map_in limits m ++ pairs

  -- the labels held are below each label above this one
  abbrev pub HeldUpTo : Label → Memory → Type 0
  HeldUpTo before m = (x : Label) → is_smaller (compare_labels before x) ≡ true
      → Linked none_below (keys (map_in limits m)) (held x)

  -- So they are of the label that was inserted last.
  up_to_last : (m : Memory) (x : Label) (value : ℕ) → Linked none_below (keys (map_in limits m)) (held x)
      → InsertsLast m x value → HeldUpTo x (call_outcome limits (insert x value) m).memory
  up_to_last m x value above last y up =
      rw (last.map, map-append) (linked_append above (linked_end (before_of_smaller x y up)))

  module _ (deepest : Deepest limits.slots limits.depth) where
    -- A label above all that are held is inserted, where there is room, at the end of the map.
    pub insert_above : (m : Memory) → Sound limits m → (x : Label) → LabelFits limits x → (value : ℕ)
        → Linked none_below (keys (map_in limits m)) (held x) → length (map_in limits m) < limits.slots
        → InsertsLast m x value
    insert_above m sound x fits value above room =
        let updates = (ordered_map limits deepest).updates m sound x fits value in
        let says = rw (missing_above x (map_in limits m) above) at updates.insert_says in
        let accepts = says.1 room in
        record {
          accepts = accepts;
          sound = updates.insert_sound;
          map =
              updates.insert_leaves
              ∙ ap (λ (s : Said). map_after_insert s (filed x value) (map_in limits m)) accepts
              ∙ insertion_above (filed x value) (map_in limits m) above;
        }

    -- Pairs as a file has them are inserted one after the other.
    pub all_inserted : {before : Label} {pairs : List Pair} → Filed limits before pairs
        → (m : Memory) → Sound limits m → HeldUpTo before m → length (map_in limits m) + length pairs ≤ limits.slots
        → InsertsAll m pairs
    all_inserted filed_none m sound up room =
        record { accepts = tt; sound = sound; map = sym (append-nil (map_in limits m)) }
    all_inserted (filed_more {more} x value above fits word so) m sound up room =
        let last = insert_above m sound x fits value (up x above) (omega arith) in
        let longer = ap (λ (l : List Pair). length l) last.map in
        let counted = length-append (map_in limits m) (filed x value ∷ []) in
        let later = all_inserted so (call_outcome limits (insert x value) m).memory last.sound
        (up_to_last m x value (up x above) last) (omega arith) in
        record {
          accepts = (last.accepts, later.accepts);
          sound = later.sound;
          map =
              later.map ∙ ap (λ (l : List Pair). l ++ more) last.map
              ∙ append_snoc (map_in limits m) (filed x value) more;
        }
