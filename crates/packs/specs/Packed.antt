-- An answer packed in one 64-bit number, for callers that take no enum.
use Rattle.std.specs.Prelude.{◌≡◌, ℕ, ◌+◌, ◌*◌, ◌/◌, ◌%◌, ◌<◌}
use Rattle.types.specs.Answers.{Answer, found, absent, updated, listed, done, refused}
use Rattle.types.specs.SaveReplies as saves
use Rattle.types.specs.SaveReplies.{SaveReply, saved}
use Rattle.types.specs.LoadReplies as loads
use Rattle.types.specs.LoadReplies.{LoadReply, loaded}
use Rattle.types.specs.RosterReplies as rosters
use Rattle.types.specs.RosterReplies.{RosterReply, taken}

-- From the lowest bits: 4 of kind, 12 of places, 16 of visits, then 16 and 16.
-- A number too large for its bits is cut to them.
abbrev pub parts : (kind places visits one other : ℕ) → ℕ
parts kind places visits one other =
    kind % 16
    + (places % 4096 * 16
    + (visits % 65536 * 65536 + (one % 65536 * 4294967296 + other % 65536 * 281474976710656)))

-- The kinds: 0 refused, with the refusal's number and both counts 0; 1 found, with slot and value; 2 absent, with the
-- slots of the nearest smaller and nearest larger label; 3 updated, with the slot; 4 done; 5 listed, with the number of
-- slots.
abbrev pub packed : Answer → ℕ
packed (found slot value visits places) = parts 1 places visits slot value
packed (absent below above visits places) = parts 2 places visits below above
packed (updated slot visits places) = parts 3 places visits slot 0
packed (listed count) = parts 5 0 0 count 0
packed done = parts 4 0 0 0 0
packed (refused number) = parts 0 0 0 number 0

-- The kind 7: a save, with the number of bytes written; a refused one is packed as any refusal.
abbrev pub packed_save : SaveReply → ℕ
packed_save (saved bytes) = parts 7 0 0 bytes 0
packed_save (saves.refused number) = packed (refused number)

-- The kind 8: a load, with the number of labels loaded; a refused one is packed as any refusal.
abbrev pub packed_load : LoadReply → ℕ
packed_load (loaded count) = parts 8 0 0 count 0
packed_load (loads.refused number) = packed (refused number)

-- The kind 9: a roster, with how many records went in; a refused one is packed as any refusal, with the number of its
-- record.
abbrev pub packed_roster : RosterReply → ℕ
packed_roster (taken count) = parts 9 0 0 count 0
packed_roster (rosters.refused n number) = parts 0 0 0 number n

-- The kind 6: the view's part, where it begins in the store and how long it is.
abbrev pub packed_part : (start len : ℕ) → ℕ
packed_part start len = parts 6 0 0 start len

-- what a caller reads by shifting and masking, as in `include/strap_index.h`
pub record Unpacks (answer kind places visits one other : ℕ) : Type 0 where
  pub kind_read : answer % 16 ≡ kind
  pub places_read : answer / 16 % 4096 ≡ places
  pub visits_read : answer / 65536 % 65536 ≡ visits
  pub one_read : answer / 4294967296 % 65536 ≡ one
  pub other_read : answer / 281474976710656 % 65536 ≡ other

-- The claim: numbers that fit their bits are read back.
abbrev pub PartsUnpack : Type 0
PartsUnpack =
    (kind places visits one other : ℕ) → kind < 16 → places < 4096 → visits < 65536 → one < 65536 → other < 65536
    → Unpacks (parts kind places visits one other) kind places visits one other
