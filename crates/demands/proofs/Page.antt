-- The claims at the page's limits: 32 labels of at most 20 bytes.
-- page_ordered_map, page_cost_rule, page_sound_is_written: demand 2, demand 3, and what sound tables are.
-- page_counts: a search visits at most 6 nodes and examines at most 26 places.
-- page_breaks: one node more breaks a walk. page_refuses_hub: the hub's table is refused by 1.
-- page_one_name, page_spelling_stays: spellings of one name.
-- page_tie_saves: the places that the first line of the search steps saves.
-- page_true_neighbours: who stands next to a missing label.
-- page_shared_limit, page_length_limit, page_no_smaller_limit: limits on places, the second from the first.
-- page_charge_rule: word 7 on sound tables.
use native.Mathlib.Omega.{arith}
use Rattle.types.specs.Sizes.{hub, page}
use Rattle.tables.proofs.Depths.{page_depth}
use Rattle.tables.specs.Claims.{SoundIsWritten, CostRule}
use Rattle.tables.specs.MapClaims.{OrderedMap}
use Rattle.sounds.proofs.SoundIsWritten.{sound_is_written}
use Rattle.demands.specs.Counts.{CountsWithin, BreaksAfter}
use Rattle.demands.specs.OtherMemory.{RefusesTableOf}
use Rattle.demands.specs.Spellings.{OneName, SpellingStays}
use Rattle.demands.specs.Ties.{TieSaves}
use Rattle.demands.specs.NextTo.{TrueNeighbours}
use Rattle.demands.specs.Charges.{ChargeRule}
use Rattle.demands.specs.PlaceLimits.{SharedLimit, LengthLimit, NoSmallerLimit}
use Rattle.demands.proofs.CostRule.{cost_rule}
use Rattle.demands.proofs.OrderedMap.{ordered_map}
use Rattle.demands.proofs.Counts.{counts_within}
use Rattle.demands.proofs.Breaks.{breaks_after}
use Rattle.demands.proofs.OtherMemory.{wrong_table_refused}
use Rattle.demands.proofs.OneName.{one_name}
use Rattle.demands.proofs.Spellings.{spelling_stays}
use Rattle.demands.proofs.Ties.{tie_saves}
use Rattle.demands.proofs.NextTo.{true_neighbours}
use Rattle.demands.proofs.ChargeRule.{charge_rule}
use Rattle.demands.proofs.PlaceLimits.{shared_limit, length_limit}
use Rattle.demands.proofs.Sharp.{no_smaller_limit}

-- Demand 2 at the page.
pub page_ordered_map : OrderedMap page
page_ordered_map = ordered_map page page_depth

-- Demand 3 at the page.
pub page_cost_rule : CostRule page
page_cost_rule = cost_rule page page_depth

-- The sound tables and stores of the page are exactly the written-out valid plain trees.
pub page_sound_is_written : SoundIsWritten page
page_sound_is_written = sound_is_written page page_depth

-- A search of any list of calls on what layout left visits at most 6 nodes and examines at most 26 places.
pub page_counts : CountsWithin page 6 26
page_counts = counts_within page page_cost_rule

-- On any memory, a seventh node breaks a walk.
pub page_breaks : BreaksAfter page 6
page_breaks = breaks_after page

-- The hub's table lent to a call of the page is refused by 1.
pub page_refuses_hub : RefusesTableOf page hub
page_refuses_hub table store words = wrong_table_refused page table store (λ same. omega arith)

-- Capital and small letters name one player of the page, and the spelling first stored stays.
pub page_one_name : OneName page
page_one_name = one_name page

pub page_spelling_stays : SpellingStays page
page_spelling_stays = spelling_stays page page_depth

-- On a sound table of the page, the walk before M-106 examined a place more at each node where its line applies.
pub page_tie_saves : TieSaves page
page_tie_saves = tie_saves page page_depth

-- On a sound table of the page, the slots beside an absent label show the map's true neighbours.
pub page_true_neighbours : TrueNeighbours page
page_true_neighbours = true_neighbours page page_depth

-- On a sound table of the page, places are at most visits plus the most leading bytes shared with any one label held.
-- The limit by the sought label's length follows. With one label held no limit that reads labels alone is smaller.
pub page_shared_limit : SharedLimit page
page_shared_limit = shared_limit page page_depth

pub page_length_limit : LengthLimit page
page_length_limit = length_limit page page_shared_limit

pub page_no_smaller_limit : NoSmallerLimit page
page_no_smaller_limit = no_smaller_limit page page_depth (omega arith)

-- On a sound table of the page, word 7 of a slot in use is a charge, and may be any; in another slot it is 0.
pub page_charge_rule : ChargeRule page
page_charge_rule = charge_rule page page_depth
