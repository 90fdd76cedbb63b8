-- The listing, by the links alone: a walk from left to right, its remaining height falling.
use Rattle.std.specs.Prelude.{List, [], ◌∷◌, ◌++◌, true, false, ◌≡◌, ℕ, zero, suc, ◌+◌, ◌^◌, ◌≤◌, ltb, length}
use Rattle.types.specs.declared.Limits.{Limits}
use Rattle.types.specs.Sizes.{table_length}
use Rattle.tables.specs.Words.{root_link, labels_held, row_at}
use Rattle.tables.specs.Outcomes.{pass, of_list, Listing, listing_by}
use Rattle.words.specs.Limits.{LimitsFit}

-- the slots at a link, at most so many nodes deep; a link above the slots gives none
unfoldable pub slots_from : Limits → (table : List ℕ) → (remaining link : ℕ) → List ℕ
slots_from limits table zero link = []
slots_from limits table (suc remaining) zero = []
slots_from limits table (suc remaining) (suc k) =
    elim (ltb limits.slots (suc k)) [
      | true ↦ []
      | false ↦ slots_from limits table remaining (row_at table (suc k)).left
          ++ (suc k ∷ slots_from limits table remaining (row_at table (suc k)).right)
    ]

-- the slots of a table
abbrev pub slots_listed : Limits → (table : List ℕ) → List ℕ
slots_listed limits table = slots_from limits table limits.depth (root_link table)

-- what is listed past the tests of a whole table: refused by the list's length, or the slots before the list's later
-- words
abbrev pub listing_ready : Limits → (table list : List ℕ) → Listing
listing_ready limits table list = listing_by (of_list table list pass) list (slots_listed limits table)

-- past those tests: sizes that fit, and as many slots as labels held
pub record ListReady (limits : Limits) (table : List ℕ) : Type 0 where
  pub fit : LimitsFit limits
  pub words : length table ≡ table_length limits
  pub count : length (slots_listed limits table) ≡ labels_held table

-- sizes that fit, and a position that stays a machine word over a tree so many nodes high
pub record ListFits (limits : Limits) (table : List ℕ) (at remaining : ℕ) : Type 0 where
  pub fit : LimitsFit limits
  pub words : length table ≡ table_length limits
  pub room : at + 2 ^ remaining ≤ 2 ^ 64
