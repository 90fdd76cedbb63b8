-- The contracts of layout and listing at the hub's limits, trial versions that they rule out, and calls that refuse but
-- change lent memory ('Agreed between the keeper and the builders' and 'Where each call turns away' of document 01).
use Rattle.std.specs.Prelude.{List, ◌≡◌, ℕ, ◌≤◌, length, replicate}
use Rattle.types.specs.Sizes.{hub, table_length, store_length}
use Rattle.types.specs.Answers.{Answer, found, absent, updated, listed, done, refused}
use Rattle.tables.specs.Words.{labels_held}
use Rattle.tables.specs.Written.{Memory, lent}
use Rattle.tables.specs.Outcomes.{Outcome, Listing, layout_outcome, listing_outcome}
use Rattle.tables.specs.Claims.{Sound}

-- ---- the contracts

abbrev pub LayoutVersion : Type 0
LayoutVersion = (table store : List ℕ) → Outcome

abbrev pub ListingVersion : Type 0
ListingVersion = (table store list : List ℕ) → Listing

abbrev pub MeetsLayout : LayoutVersion → Type 0
MeetsLayout f = (table store : List ℕ) → f table store ≡ layout_outcome hub table store

abbrev pub MeetsListing : ListingVersion → Type 0
MeetsListing f = (table store list : List ℕ) → f table store list ≡ listing_outcome hub table store list

-- ---- answers at once

-- "constant refusal": layout is refused by a number though the lent lengths are right
abbrev pub LayoutsRefused : ℕ → LayoutVersion → Type 0
LayoutsRefused number f =
    (table store : List ℕ) → length table ≡ table_length hub → length store ≡ store_length hub
    → (f table store).answer ≡ refused number

-- "one fixed answer" of listings, though the table is sound and the list has room
abbrev pub ListingsAnswer : Answer → ListingVersion → Type 0
ListingsAnswer a f =
    (table store list : List ℕ) → Sound hub (lent table store) → labels_held table ≤ length list
    → (f table store list).answer ≡ a

-- ---- "the answer is the number only, all lent memory stays"

-- a call refuses, and leaves other memory than it found
pub record Spoils (o : Outcome) (m : Memory) : Type 0 where
  pub number : ℕ
  pub refuses : o.answer ≡ refused number
  pub changes : o.memory ≡ m → ⊥

-- a listing refuses, and leaves another list than it found
pub record SpoilsList (l : Listing) (list : List ℕ) : Type 0 where
  pub number : ℕ
  pub refuses : l.answer ≡ refused number
  pub changes : l.list ≡ list → ⊥

-- what is lent, with zeros in its place where the answer is a refusal
abbrev pub zeros_if_refused : Answer → List ℕ → List ℕ
zeros_if_refused (found slot value visits places) lent = lent
zeros_if_refused (absent below above visits places) lent = lent
zeros_if_refused (updated slot visits places) lent = lent
zeros_if_refused (listed count) lent = lent
zeros_if_refused done lent = lent
zeros_if_refused (refused number) lent = replicate (length lent) 0

-- the defined outcome, but for a refusal that clears all lent memory
abbrev pub clearing : Outcome → Outcome
clearing o =
    record {
      answer = o.answer;
      memory = record {
        table = zeros_if_refused o.answer o.memory.table;
        store = zeros_if_refused o.answer o.memory.store;
      };
    }

abbrev pub clearing_list : Listing → Listing
clearing_list l = record { answer = l.answer; list = zeros_if_refused l.answer l.list }
