-- The whole test, from what its parts find.
-- `root_fits`: the walk over the tree may start at the root.
-- `sound_held`, `sound_unused`, `sound_broken`, `sound_counted`, `sound_chain`: the test fails at a part, or is as its last part.
use Prim.Native.Nat.{ℕ, ◌-◌, ◌≤◌, ◌<◌}
use mathlib.Core.Path.{◌≡◌, refl, sym, ◌∙◌}
use mathlib.Core.List.{List}
use mathlib.Core.Bool.{Bool, true, false}
use native.Mathlib.Omega.{arith}
use lib.Dec.{eqb}
use borrow.Author.Tests.{le-leb, lt-leb, eq-eqb, ne_eqb}
use Rattle.std.specs.Prelude.{Option, Some, None}
use Rattle.types.specs.declared.Limits.{Limits}
use Rattle.tables.specs.Words.{root_link, labels_held, first_free, high_mark}
use Rattle.tables.specs.Sound.{unused_slots}
use Rattle.words.specs.Limits.{SizesFit}
use Rattle.checks.specs.Fits.{WalkFits}
use Rattle.checks.specs.Check.{check_tree, check_chain, count_is, sound_by_walks}
use Rattle.heights.specs.declared.Subtree.{Subtree}

-- the walk may start at the root, whose neighbours are both missing
pub root_fits : (limits : Limits) (table store : List ℕ) → SizesFit limits table store
    → WalkFits limits table store limits.depth 0 0 0
root_fits limits table store sizes =
    record {
      deep = sizes.fit.depth;
      between = record {
        sizes = sizes;
        lower = record { within = omega arith; short = λ low. absurd (omega arith) };
        upper = record { within = omega arith; short = λ low. absurd (omega arith) };
        order = refl;
        parts = refl;
      };
    }

module _ (limits : Limits) (table store : List ℕ) where
  -- more labels are held than slots were used
  pub sound_held : high_mark table < labels_held table → false ≡ sound_by_walks limits table store
  unfolding sound_by_walks
  sound_held h = rw (lt-leb (labels_held table) (high_mark table) h)

  module _ (t : Bool) (h : labels_held table ≤ high_mark table)
      (rest : t ≡ unused_slots limits table store (high_mark table)) where
    -- the unused rest is not zero
    pub sound_unused : t ≡ false → false ≡ sound_by_walks limits table store
    unfolding sound_by_walks
    sound_unused f = rw (le-leb (labels_held table) (high_mark table) h, sym rest ∙ f)

    module _ (tree : Option Subtree) (clear : t ≡ true)
        (walked : tree ≡ check_tree limits table store limits.depth (root_link table) 0 0) where
      -- the tree is not sound
      pub sound_broken : tree ≡ None → false ≡ sound_by_walks limits table store
      unfolding sound_by_walks count_is
      sound_broken f =
          rw (le-leb (labels_held table) (high_mark table) h, sym rest ∙ clear, sym walked ∙ f)

      module _ (s : Subtree) (is : tree ≡ Some s) where
        -- it has another number of nodes
        pub sound_counted : (s.count ≡ labels_held table → ⊥)
            → eqb s.count (labels_held table) ≡ sound_by_walks limits table store
        unfolding sound_by_walks count_is
        sound_counted other =
            rw (
              le-leb (labels_held table) (high_mark table) h,
              sym rest ∙ clear,
              sym walked ∙ is,
              ne_eqb s.count (labels_held table) other,
            )

        -- the free chain decides
        pub sound_chain : (r : Bool) → s.count ≡ labels_held table
            → r ≡ check_chain limits table store (high_mark table - labels_held table) (first_free table)
            → r ≡ sound_by_walks limits table store
        unfolding sound_by_walks count_is
        sound_chain r same f =
            rw (
              le-leb (labels_held table) (high_mark table) h,
              sym rest ∙ clear,
              sym walked ∙ is,
              eq-eqb s.count (labels_held table) same,
            ) f
