-- The law of each index: its numbers fit machine words, and its depth is the deepest that its slots allow.
use native.Mathlib.Omega.{arith}
use Rattle.types.specs.Sizes.{hub, page}
use Rattle.tables.proofs.Depths.{hub_depth, page_depth}
use Rattle.endings.specs.Ready.{EditsFit}

pub hub_fits : EditsFit hub
hub_fits =
    record {
      fit = record { slots = omega arith; width = omega arith; depth = omega arith };
      deepest = hub_depth;
    }

pub page_fits : EditsFit page
page_fits =
    record {
      fit = record { slots = omega arith; width = omega arith; depth = omega arith };
      deepest = page_depth;
    }
