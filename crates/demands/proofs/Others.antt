-- What is held under a label that a call does not name stays, on a valid state written out.
-- others_stay: so it is for every call.
use mathlib.Core.Bool.{Bool, true, false}
use mathlib.Core.List.{List, [], ◌∷◌}
use mathlib.Core.Path.{◌≡◌, refl, ap, ◌∙◌}
use Prim.Native.Nat.{ℕ, suc}
use lib.Dec.{eqb, ltb, leb}
use lib.ListN.{length}
use Rattle.types.specs.declared.Limits.{Limits}
use Rattle.labels.specs.Labels.{Label, Alike}
use Rattle.trees.specs.Trees.{size}
use Rattle.trees.specs.Heights.{Deepest}
use Rattle.trees.specs.Searches.{Held, absent, found, Search, full_search}
use Rattle.trees.specs.Plain.{State, Call, search, insert, delete, set_charge, sought_by, wrong_charge, new_node, new_entry}
use Rattle.trees.specs.Plain.{insert_if_room, after_search, after_insert, after_delete, after_charge, after_full_search}
use Rattle.trees.specs.Plain.{after_arguments, after_length, plain_step}
use Rattle.trees.specs.Map.{lookup, map_of}
use Rattle.trees.specs.Valid.{Valid, ascends}
use Rattle.trees.proofs.MapLaws.{keys_of_map, map_of_inserted, map_of_deleted, map_of_charged}
use Rattle.trees.proofs.MapLists.{keys}
use Rattle.trees.proofs.ValidSteps.{valid_after}
use Rattle.tables.specs.Written.{written}
use Rattle.tables.specs.Claims.{call_outcome}
use Rattle.tables.specs.MapClaims.{map_in}
use Rattle.demands.proofs.CostRule.{call_agrees}
use Rattle.demands.proofs.MapOthers.{others_inserted, others_removed, others_charged}
use Rattle.demands.proofs.OnSound.{map_of_written}

module _ (limits : Limits) (s : State) (valid : Valid limits.slots limits.width s) (y : Label) where
  -- what is held under y in a state is what is held under it in s
  abbrev Stays : State → Type 0
  Stays after = lookup y (map_of after.tree) ≡ lookup y (map_of s.tree)

  stays_inserted : (x : Label) (v : ℕ) → (Alike y x → ⊥) → (freed : List ℕ)
      → Stays (new_entry x v s.tree freed s.high).state
  stays_inserted x v apart [] =
      rw (map_of_inserted s.tree valid.ascending (new_node x v (suc s.high)))
      (others_inserted y _ (map_of s.tree) apart)
  stays_inserted x v apart (k ∷ freed) =
      rw (map_of_inserted s.tree valid.ascending (new_node x v k))
      (others_inserted y _ (map_of s.tree) apart)

  stays_if_room : (x : Label) (v : ℕ) → (Alike y x → ⊥) → (full : Bool) → Stays (insert_if_room full x v s).state
  stays_if_room x v apart true = refl
  stays_if_room x v apart false = stays_inserted x v apart s.freed

  -- So it is past the tests of a call,
  stays_past_tests : (c : Call) (f : Search) → (Alike y (sought_by c) → ⊥)
      → Stays (after_full_search limits.slots c f s).state
  stays_past_tests (search x) f apart = by_held f.result _ _
    where
      by_held : (h : Held) (below above : ℕ) → Stays (after_search h below above s).state
      by_held absent below above = refl
      by_held (found e) below above = refl
  stays_past_tests (insert x v) f apart = by_held f.result
    where
      by_held : (h : Held) → Stays (after_insert limits.slots h x v s).state
      by_held absent = stays_if_room x v apart (leb limits.slots (size s.tree))
      by_held (found e) = refl
  stays_past_tests (delete x) f apart = by_held f.result
    where
      sorted : ascends (keys (map_of s.tree)) ≡ true
      sorted = ap ascends (keys_of_map s.tree) ∙ valid.ascending

      by_held : (h : Held) → Stays (after_delete h x s).state
      by_held absent = refl
      by_held (found e) =
          rw (map_of_deleted s.tree valid.ascending x) (others_removed y x (map_of s.tree) sorted apart)
  stays_past_tests (set_charge x n) f apart = by_held f.result
    where
      by_held : (h : Held) → Stays (after_charge h x n s).state
      by_held absent = refl
      by_held (found e) =
          rw (map_of_charged s.tree valid.ascending x n) (others_charged y x n (map_of s.tree) apart)

  -- and so by all of them.
  stays_after : (c : Call) → (Alike y (sought_by c) → ⊥) → Stays (plain_step limits.slots limits.width c s).state
  stays_after c apart = by_length (eqb (length (sought_by c)) 0) (ltb limits.width (length (sought_by c)))
    where
      by_charge : (wrong : Bool) → Stays (after_arguments wrong limits.slots c s).state
      by_charge true = refl
      by_charge false = stays_past_tests c (full_search (sought_by c) s.tree) apart

      by_length : (none long : Bool) → Stays (after_length none long limits.slots c s).state
      by_length true long = refl
      by_length false true = refl
      by_length false false = by_charge (wrong_charge c)

  -- What is held under another label stays in the words and bytes.
  pub others_stay : Deepest limits.slots limits.depth → (c : Call) → (Alike y (sought_by c) → ⊥)
      → lookup y (map_in limits (call_outcome limits c (written limits s)).memory)
      ≡ lookup y (map_in limits (written limits s))
  others_stay deepest c apart =
      rw (
        (call_agrees limits deepest s valid c).memory,
        map_of_written limits deepest _ (valid_after limits.slots limits.width s valid c),
        map_of_written limits deepest s valid,
      )
      (stays_after c apart)
