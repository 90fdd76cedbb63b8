-- Cases that reach the limit on places, limits that are too small, and a search that is beyond it.
-- cases_at_limit: cases 3 and 7 reach the limit by shared bytes.
-- hub_one_less_fails, page_one_less_fails: a limit of a byte less fails.
-- hub_same_bytes_fail, page_same_bytes_fail: so does one by the bytes themselves.
-- whole_beyond_shared, whole_beyond_length: a search that compares whole labels at each node is beyond both limits.
use mathlib.Core.List.{[], ◌∷◌}
use mathlib.Core.Path.{◌≡◌, refl}
use Prim.Native.Nat.{ℕ, ◌≤◌}
use native.Mathlib.Omega.{arith}
use lib.ListN.{length}
use Rattle.types.specs.declared.Limits.{Limits}
use Rattle.types.specs.Sizes.{hub, page}
use Rattle.labels.specs.Labels.{Label, number_of, compare_labels, compare_from, difference_place}
use Rattle.labels.specs.Shared.{most_shared}
use Rattle.tables.specs.Words.{row_at, part_at, label_at}
use Rattle.tables.specs.Written.{written_table, written_store}
use Rattle.tables.specs.Steps.{is_bad, Walk, walk_from_root, search_steps}
use Rattle.tables.specs.Sound.{words_and_bytes, counted, sound_as, sound, state_of}
use Rattle.tables.specs.Outcomes.{visits_of, places_of, search_outcome, layout_outcome, update_outcome}
use Rattle.tables.specs.Claims.{LabelFits}
use Rattle.tables.specs.MapClaims.{labels_in}
use Rattle.cases.specs.Cases.{a, b, d, roster, three}
use Rattle.demands.specs.PlaceLimits.{ByteLimit, WalkWithin, WalksWithin, CasesAtLimit, NoSmallerLimit}
use Rattle.demands.specs.LimitTrials.{one_less, most_same, whole_step}
use Rattle.demands.proofs.Hub.{hub_no_smaller_limit}
use Rattle.demands.proofs.Page.{page_no_smaller_limit}
use Rattle.demands.proofs.Computed.{after, fair_one, onlyA, capital}

-- Cases 3 and 7 reach the limit.
pub cases_at_limit : CasesAtLimit
unfolding
    after number_of compare_labels compare_from difference_place row_at part_at label_at written_table written_store is_bad
    search_steps words_and_bytes counted sound_as sound state_of search_outcome layout_outcome update_outcome
cases_at_limit = record {
  three = record { holds = (fair_one onlyA {byte = a}).holds; visited = refl; shares = refl; places = refl };
  seven = record { holds = (fair_one roster {byte = a}).holds; visited = refl; shares = refl; places = refl };
}

module _ (limits : Limits) (one : 1 ≤ limits.width) (sharp : NoSmallerLimit limits) where
  -- a label of one byte fits
  one_byte_fits : (byte : ℕ) → LabelFits limits (byte ∷ [])
  one_byte_fits byte = record { some = omega arith; short = omega arith }

  -- A limit of a byte less fails: "a" where it is held.
  one_less_fails : ¬ WalksWithin limits one_less (search_steps limits)
  unfolding number_of
  one_less_fails within = omega (arith, sharp one_less within (a ∷ []) (a ∷ []) (one_byte_fits a))

  -- A limit by the bytes themselves fails: "A" where "a" is held.
  same_bytes_fail : ¬ WalksWithin limits most_same (search_steps limits)
  unfolding number_of
  same_bytes_fail within = omega (arith, sharp most_same within capital (a ∷ []) (one_byte_fits a))

-- So they do at the hub and at the page.
pub hub_one_less_fails : ¬ WalksWithin hub one_less (search_steps hub)
hub_one_less_fails = one_less_fails hub (omega arith) hub_no_smaller_limit

pub hub_same_bytes_fail : ¬ WalksWithin hub most_same (search_steps hub)
hub_same_bytes_fail = same_bytes_fail hub (omega arith) hub_no_smaller_limit

pub page_one_less_fails : ¬ WalksWithin page one_less (search_steps page)
page_one_less_fails = one_less_fails page (omega arith) page_no_smaller_limit

pub page_same_bytes_fail : ¬ WalksWithin page most_same (search_steps page)
page_same_bytes_fail = same_bytes_fail page (omega arith) page_no_smaller_limit

-- the walk for "abd" by whole labels, where "ab", "abc" and "abd" are held: "ab" is examined again at the second node
abbrev abd : Label
abd = a ∷ b ∷ d ∷ []

abbrev whole : Walk
whole = walk_from_root whole_step hub (after three).table (after three).store abd

record Reread : Type 0 where
  visited : visits_of whole ≡ 2
  examined : places_of whole ≡ 7
  shares : most_shared abd (labels_in hub (after three)) ≡ 3

reread : Reread
unfolding
    after number_of compare_labels compare_from difference_place row_at part_at label_at written_table written_store is_bad
    search_steps words_and_bytes counted sound_as sound state_of search_outcome layout_outcome update_outcome
reread = record { visited = refl; examined = refl; shares = refl }

-- 7 places are beyond 2 visits and 3 bytes.
beyond : (w : Walk) (bytes : ℕ) → visits_of w ≡ 2 → places_of w ≡ 7 → bytes ≡ 3 → WalkWithin bytes w → ⊥
beyond w bytes visited examined three_bytes within = omega (arith, within.few)

-- A search that compares whole labels at each node is beyond every limit of three bytes for that label: beyond that by
-- shared bytes, and beyond that by its length.
whole_labels_fail : (bytes : ByteLimit) → bytes abd (labels_in hub (after three)) ≡ 3
    → ¬ WalksWithin hub bytes (walk_from_root whole_step hub)
whole_labels_fail bytes three_bytes within =
    beyond whole _ reread.visited reread.examined three_bytes
    (within (after three) (fair_one three {byte = a}).holds abd)

pub whole_beyond_shared : ¬ WalksWithin hub most_shared (walk_from_root whole_step hub)
whole_beyond_shared = whole_labels_fail most_shared reread.shares

pub whole_beyond_length : ¬ WalksWithin hub (λ x held. length x) (walk_from_root whole_step hub)
whole_beyond_length = whole_labels_fail (λ x held. length x) refl
