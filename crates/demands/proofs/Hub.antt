-- The claims at the hub's limits: 512 labels of at most 64 bytes.
-- hub_ordered_map, hub_cost_rule, hub_sound_is_written: demand 2, demand 3, and what sound tables are.
-- hub_counts: a search visits at most 12 nodes and examines at most 76 places.
-- hub_breaks: one node more breaks a walk. hub_refuses_page: the page's table is refused by 1.
-- hub_one_name, hub_spelling_stays: spellings of one name.
-- hub_tie_saves: the places that the first line of the search steps saves.
-- hub_true_neighbours: who stands next to a missing label.
-- hub_shared_limit, hub_length_limit, hub_no_smaller_limit: limits on places, the second from the first.
-- hub_charge_rule: word 7 on sound tables.
-- hub_saves_map, hub_saves_within: saved files, and their 34,818 bytes at most.
-- hub_loads_files: loads of saved files. hub_takes_rosters: rosters of clubs.
use native.Mathlib.Omega.{arith}
use Rattle.types.specs.Sizes.{hub, page}
use Rattle.tables.proofs.Depths.{hub_depth}
use Rattle.tables.specs.Claims.{SoundIsWritten, CostRule}
use Rattle.tables.specs.MapClaims.{OrderedMap}
use Rattle.sounds.proofs.SoundIsWritten.{sound_is_written}
use Rattle.files.specs.Groups.{groups_within, groups_of}
use Rattle.demands.specs.Counts.{CountsWithin, BreaksAfter}
use Rattle.demands.specs.OtherMemory.{RefusesTableOf}
use Rattle.demands.specs.Spellings.{OneName, SpellingStays}
use Rattle.demands.specs.Ties.{TieSaves}
use Rattle.demands.specs.NextTo.{TrueNeighbours}
use Rattle.demands.specs.Charges.{ChargeRule}
use Rattle.demands.specs.Saves.{SavesMap, SavesWithin}
use Rattle.demands.specs.Loads.{LoadsFiles}
use Rattle.demands.specs.Rosters.{TakesRosters}
use Rattle.demands.specs.PlaceLimits.{SharedLimit, LengthLimit, NoSmallerLimit}
use Rattle.demands.proofs.CostRule.{cost_rule}
use Rattle.demands.proofs.OrderedMap.{ordered_map}
use Rattle.demands.proofs.Counts.{counts_within}
use Rattle.demands.proofs.Breaks.{breaks_after}
use Rattle.demands.proofs.OtherMemory.{wrong_table_refused}
use Rattle.demands.proofs.OneName.{one_name}
use Rattle.demands.proofs.Spellings.{spelling_stays}
use Rattle.demands.proofs.Ties.{tie_saves}
use Rattle.demands.proofs.NextTo.{true_neighbours}
use Rattle.demands.proofs.ChargeRule.{charge_rule}
use Rattle.demands.proofs.Saves.{saves_map}
use Rattle.demands.proofs.FileSizes.{saves_within}
use Rattle.demands.proofs.Loads.{loads_files}
use Rattle.demands.proofs.Rosters.{takes_rosters}
use Rattle.demands.proofs.PlaceLimits.{shared_limit, length_limit}
use Rattle.demands.proofs.Sharp.{no_smaller_limit}

-- Demand 2 at the hub.
pub hub_ordered_map : OrderedMap hub
hub_ordered_map = ordered_map hub hub_depth

-- Demand 3 at the hub.
pub hub_cost_rule : CostRule hub
hub_cost_rule = cost_rule hub hub_depth

-- The sound tables and stores of the hub are exactly the written-out valid plain trees.
pub hub_sound_is_written : SoundIsWritten hub
hub_sound_is_written = sound_is_written hub hub_depth

-- A search of any list of calls on what layout left visits at most 12 nodes and examines at most 76 places.
pub hub_counts : CountsWithin hub 12 76
hub_counts = counts_within hub hub_cost_rule

-- On any memory, a 13th node breaks a walk.
pub hub_breaks : BreaksAfter hub 12
hub_breaks = breaks_after hub

-- The page's table lent to a call of the hub is refused by 1.
pub hub_refuses_page : RefusesTableOf hub page
hub_refuses_page table store words = wrong_table_refused hub table store (λ same. omega arith)

-- Capital and small letters name one player of the hub, and the spelling first stored stays.
pub hub_one_name : OneName hub
hub_one_name = one_name hub

pub hub_spelling_stays : SpellingStays hub
hub_spelling_stays = spelling_stays hub hub_depth

-- On a sound table of the hub, the walk before M-106 examined a place more at each node where its line applies.
pub hub_tie_saves : TieSaves hub
hub_tie_saves = tie_saves hub hub_depth

-- On a sound table of the hub, the slots beside an absent label show the map's true neighbours.
pub hub_true_neighbours : TrueNeighbours hub
hub_true_neighbours = true_neighbours hub hub_depth

-- On a sound table of the hub, places are at most visits plus the most leading bytes shared with any one label held.
-- The limit by the sought label's length follows. With one label held no limit that reads labels alone is smaller.
pub hub_shared_limit : SharedLimit hub
hub_shared_limit = shared_limit hub hub_depth

pub hub_length_limit : LengthLimit hub
hub_length_limit = length_limit hub hub_shared_limit

pub hub_no_smaller_limit : NoSmallerLimit hub
hub_no_smaller_limit = no_smaller_limit hub hub_depth (omega arith)

-- On a sound table of the hub, word 7 of a slot in use is a charge, and may be any; in another slot it is 0.
pub hub_charge_rule : ChargeRule hub
hub_charge_rule = charge_rule hub hub_depth

-- On a sound table of the hub, a save writes the file of the map, which depends on the labels and the values alone.
pub hub_saves_map : SavesMap hub
hub_saves_map = saves_map hub hub_depth

-- Of words of 16 bits, a save of the hub writes at most 34,818 bytes.
pub hub_saves_within : SavesWithin hub 34818
unfolding groups_within groups_of
hub_saves_within = saves_within hub hub_depth

-- A load of the hub leaves a sound table of its file's labels and values, and saving it again yields the same bytes.
pub hub_loads_files : LoadsFiles hub
hub_loads_files = loads_files hub hub_depth

-- A roster of the hub puts in the records before the first refused one, and names that record, or how many went in.
pub hub_takes_rosters : TakesRosters hub
hub_takes_rosters = takes_rosters hub hub_depth
