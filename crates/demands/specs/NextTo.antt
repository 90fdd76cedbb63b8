-- Who stands next to a missing label: M-107 of document 02.
use Rattle.std.proofs.Math.Option.{Option, none, some}
use Rattle.std.specs.Prelude.{◌≡◌, ℕ, zero, suc}
use Rattle.types.specs.declared.Limits.{Limits}
use Rattle.types.specs.Answers.{absent}
use Rattle.labels.specs.Labels.{Label}
use Rattle.trees.specs.Trees.{left, right}
use Rattle.trees.specs.Map.{Pair, Nearest}
use Rattle.tables.specs.Words.{row_at}
use Rattle.tables.specs.Written.{Memory}
use Rattle.tables.specs.Outcomes.{search_outcome}
use Rattle.tables.specs.Claims.{Sound}
use Rattle.tables.specs.MapClaims.{map_in, label_in, charge_in}

-- the pair that a slot shows: "0 for none"
abbrev pub pair_at : Limits → Memory → ℕ → Option Pair
pair_at limits m zero = none
pair_at limits m (suc k) =
    some (record {
      label = label_in limits m (suc k);
      value = (row_at m.table (suc k)).value;
      charge = charge_in m (suc k);
    })

-- the slots show the greatest smaller and the least larger pair of the map
pub record NextTo (limits : Limits) (m : Memory) (x : Label) (below above : ℕ) : Type 0 where
  pub smaller : Nearest left x (map_in limits m) (pair_at limits m below)
  pub larger : Nearest right x (map_in limits m) (pair_at limits m above)

-- The claim: "On a sound table these are the map's true neighbours."
abbrev pub TrueNeighbours : Limits → Type 0
TrueNeighbours limits =
    (m : Memory) → Sound limits m → (x : Label) (below above visits places : ℕ)
    → search_outcome limits m.table m.store x ≡ absent below above visits places → NextTo limits m x below above
