-- What the test that comes before a node is visited lets through.
-- `live`: such a link is that of a node.
-- `son_of_row`: a son's link, by a row that was read.
-- `live_row`, `live_slot`: its row can be read, and its label can be compared.
use mathlib.Core.Path.{◌≡◌, sym, ◌∙◌}
use mathlib.Core.List.{List}
use mathlib.Core.Bool.{Bool, false, ◌||◌}
use Prim.Native.Nat.{ℕ, ◌+◌}
use native.Mathlib.Omega.{arith}
use lib.Dec.{ltb, eqb}
use borrow.Author.Tests.{ltb-false, eqb-false}
use Rattle.types.specs.declared.Limits.{Limits}
use Rattle.types.specs.declared.Row.{Row}
use Rattle.tables.specs.Words.{row_at}
use Rattle.tables.specs.Steps.{is_bad}
use Rattle.words.specs.Rows.{HasRow}
use Rattle.words.specs.Limits.{SizesFit}
use Rattle.trees.proofs.Views.{either_false}
use Rattle.nodes.specs.Nodes.{halts_at, son_of}
use Rattle.nodes.specs.Bounds.{GoodRow, AtRow, Live}

-- a row that is not bad is good
good_row : (limits : Limits) (row : Row) → is_bad limits row ≡ false → GoodRow limits row
unfolding is_bad
good_row limits row fine =
    let sided = ltb 1 row.side in
    let far = ltb (row.len + 1) row.place in
    let unplaced = eqb row.place 0 in
    let long = ltb limits.width row.len in
    let first = either_false (eqb row.len 0) (long || (unplaced || (far || sided))) fine in
    let second = either_false long (unplaced || (far || sided)) first.1 in
    let third = either_false unplaced (far || sided) second.1 in
    let fourth = either_false far sided third.1 in
    let some = eqb-false row.len 0 first.0 in
    let low = eqb-false row.place 0 third.0 in
    record {
      some = omega arith;
      short = ltb-false limits.width row.len second.0;
      low = omega arith;
      high = ltb-false (row.len + 1) row.place fourth.0;
      sided = ltb-false 1 row.side fourth.1;
    }

-- what the whole test lets through
module _ (limits : Limits) (table : List ℕ) (link remaining : ℕ) (tested : Bool)
    (test : tested ≡ halts_at limits table link remaining) (fine : tested ≡ false) where
  -- it is a node, and so many are left to visit
  pub live : Live limits table link remaining
  unfolding halts_at
  live =
      let above = ltb limits.slots link in
      let bad = is_bad limits (row_at table link) in
      let first = either_false (eqb link 0) (eqb remaining 0 || (above || bad)) (sym test ∙ fine) in
      let second = either_false (eqb remaining 0) (above || bad) first.1 in
      let third = either_false above bad second.1 in
      let some = eqb-false link 0 first.0 in
      let room = eqb-false remaining 0 second.0 in
      record {
        some = omega arith;
        high = ltb-false limits.slots link third.0;
        room = omega arith;
        good = good_row limits (row_at table link) third.1;
      }

  module _ (store : List ℕ) (sizes : SizesFit limits table store) where
    -- its row can be read
    pub live_row : HasRow table link
    live_row =
        let node = live in
        let words = sizes.words in
        record { low = node.some; high = omega arith }

    -- its label can be compared
    pub live_slot : (row : Row) → row ≡ row_at table link → AtRow limits store link row
    live_slot row read =
        let node = live in
        record {
          slot = record { fit = sizes.fit; low = node.some; high = node.high };
          bytes = sizes.bytes;
          good = rw read node.good;
        }

-- a son's link, by a row that was read
pub son_of_row : (link : ℕ) (row held : Row) (right : Bool) → row ≡ held → link ≡ son_of held right
    → link ≡ son_of row right
son_of_row link row held right e son = rw e son
