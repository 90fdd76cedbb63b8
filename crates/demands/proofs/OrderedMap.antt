-- Demand 2: on a sound table it is the plain ordered map.
-- ordered_map: searches look up, updates insert, remove and set charges, what is held under other labels stays, and
-- listings ascend, on every sound table.
use mathlib.Core.Path.{◌≡◌}
use Prim.Native.Nat.{◌≤◌}
use lib.ListN.{length}
use Rattle.types.specs.declared.Limits.{Limits}
use Rattle.trees.specs.Heights.{Deepest}
use Rattle.trees.specs.Map.{lookup}
use Rattle.tables.specs.Claims.{call_outcome}
use Rattle.tables.specs.MapClaims.{map_in, SearchLooksUp, UpdatesMap, ChargesMap, ListsAscending, OrderedMap}
use Rattle.demands.proofs.OnSound.{of_sound}
use Rattle.demands.proofs.MapCalls.{search_looks_up, updates_map}
use Rattle.demands.proofs.Charges.{charges_map}
use Rattle.demands.proofs.Others.{others_stay}
use Rattle.demands.proofs.Listings.{lists_ascending}

-- On every sound table the calls are those of the plain ordered map.
pub ordered_map : (limits : Limits) → Deepest limits.slots limits.depth → OrderedMap limits
ordered_map limits deepest = record {
  searches = λ m sound x fits.
      of_sound limits deepest (λ m. SearchLooksUp limits m x)
      (λ s valid. search_looks_up limits deepest s valid x fits) m sound;
  updates = λ m sound x fits value.
      of_sound limits deepest (λ m. UpdatesMap limits m x value)
      (λ s valid. updates_map limits deepest s valid x fits value) m sound;
  charges = λ m sound x fits charge.
      of_sound limits deepest (λ m. ChargesMap limits m x charge)
      (λ s valid. charges_map limits deepest s valid x fits charge) m sound;
  others = λ m sound c y apart.
      of_sound limits deepest
      (λ m. lookup y (map_in limits (call_outcome limits c m).memory) ≡ lookup y (map_in limits m))
      (λ s valid. others_stay limits s valid y deepest c apart) m sound;
  lists = λ m sound list room.
      of_sound limits deepest (λ m. length (map_in limits m) ≤ length list → ListsAscending limits m list)
      (λ s valid. lists_ascending limits deepest s valid list) m sound room;
}
