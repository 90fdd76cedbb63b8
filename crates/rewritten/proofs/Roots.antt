-- The root's place: 1 in a table as written out, counted as 0 while the tree is turned.
-- `row_past_header`: the first four words are in no row.
-- `Placed`: only the place of the root's row is another. `placed_root`, `placed_rooted`: so after the two stores.
-- `header_of_root`, `root_of_rooted`, `header_of_rooted`: the first four words after them.
-- `link_apart`: a slot that is in no node is not the root's.
-- `rep_of_rows`: with the root's place 0, a tree as written out stands as turned.
-- `rows_of_rep`: with the root's place 1, a tree as turned stands as written out.
use mathlib.Core.List.{List}
use mathlib.Core.Path.{◌≡◌, refl, ap, ◌∙◌}
use mathlib.Core.Logic.{◌≢◌}
use mathlib.Core.Bool.{cond}
use Prim.Native.Nat.{ℕ, zero, suc, ◌+◌, ◌≤◌, ◌<◌}
use native.Mathlib.Omega.{arith}
use lib.Dec.{eqb}
use lib.ListN.{length, get_or, set, length-set}
use lib.Seq.{get_or-set_same, get_or-set_other}
use borrow.Author.Tests.{eq-eqb, ne_eqb}
use Rattle.types.specs.declared.Row.{Row}
use Rattle.labels.specs.Neighbours.{Neighbour, none_below, held, none_above}
use Rattle.trees.specs.Trees.{Entry, Tree, empty, node, slots}
use Rattle.trees.specs.Valid.{one_if, occurrences}
use Rattle.trees.proofs.SlotCounts.{occurrences_of_node}
use Rattle.tables.specs.Words.{root_link, slot_start, row_at}
use Rattle.tables.specs.Written.{link_of}
use Rattle.words.specs.Rows.{put_row, HasRow}
use Rattle.words.proofs.Laws.{row_put_same, row_put_other, length_put_row}
use Rattle.sides.specs.Rows.{prefixed}
use Rattle.turns.specs.Turns.{Turned}
use Rattle.rotations.proofs.Rep.{Rep, Once}
use Rattle.rotations.proofs.Stays.{frame_of_put}
use Rattle.slots.specs.Slots.{with_root_place}
use Rattle.paths.specs.Paths.{rooted}
use Rattle.rewritten.proofs.InRows.{RowsOf, rows_kept, rep_of_inner, rows_of_inner}

-- The first four words are in no row.
pub row_past_header : (table : List ℕ) (i value k : ℕ) → i < 4 → row_at (set table i value) k ≡ row_at table k
unfolding row_at
row_past_header table i value k low =
    λ j. record {
      left = at (slot_start k) (omega arith) j;
      right = at (slot_start k + 1) (omega arith) j;
      place = at (slot_start k + 2) (omega arith) j;
      side = at (slot_start k + 3) (omega arith) j;
      balance = at (slot_start k + 4) (omega arith) j;
      len = at (slot_start k + 5) (omega arith) j;
      value = at (slot_start k + 6) (omega arith) j;
      charge = at (slot_start k + 7) (omega arith) j;
    }
  where
    at : (m : ℕ) → 4 ≤ m → get_or (set table i value) m 0 ≡ get_or table m 0
    at m past = get_or-set_other table i m value 0 (omega arith)

-- only the place of the root's row is another
pub record Placed (root place : ℕ) (before after : List ℕ) : Type 0 where
  pub words : length after ≡ length before
  pub root_row : HasRow before root → row_at after root ≡ prefixed (row_at before root) place (row_at before root).side
  pub others : (k : ℕ) → 1 ≤ k → k ≢ root → row_at after k ≡ row_at before k

-- So it is after the root's place is set.
pub placed_root : (table : List ℕ) (place : ℕ) → Placed (root_link table) place table (with_root_place table place)
unfolding with_root_place
placed_root table place = go (root_link table)
  where
    go : (root : ℕ) → Placed root place table
        (cond (eqb root 0) table (put_row table root (prefixed (row_at table root) place (row_at table root).side)))
    go zero = record { words = refl; root_row = λ has. absurd (omega (arith, has.low)); others = λ k low apart. refl }
    go (suc k) =
        rw (ne_eqb (suc k) 0 (omega arith))
        (record {
          words = length_put_row table (suc k) _;
          root_row = λ has. row_put_same table (suc k) _ has;
          others = λ j low apart. row_put_other table (suc k) j _ (omega arith) low apart;
        })

-- The first four words stay when the root's place is set.
pub header_of_root : (table : List ℕ) (place i : ℕ) → i < 4 → get_or (with_root_place table place) i 0 ≡ get_or table i 0
unfolding with_root_place
header_of_root table place i small = go (root_link table)
  where
    row : ℕ → Row
    row root = prefixed (row_at table root) place (row_at table root).side

    go : (root : ℕ) → get_or (cond (eqb root 0) table (put_row table root (row root))) i 0 ≡ get_or table i 0
    go zero = refl
    go (suc k) =
        rw (ne_eqb (suc k) 0 (omega arith)) ((frame_of_put table (suc k) (row (suc k)) (omega arith)).header i small)

module _ (o : Turned) where
  -- the table with the root link set
  abbrev linked : List ℕ
  linked = set o.table 0 o.top.link

  -- Words 1, 2 and 3 stay when the root is set.
  pub header_of_rooted : (i : ℕ) → 1 ≤ i → i < 4 → get_or (rooted o) i 0 ≡ get_or o.table i 0
  unfolding rooted
  header_of_rooted i low small =
      header_of_root linked 1 i small ∙ get_or-set_other o.table 0 i o.top.link 0 (omega arith)

  module _ (long : 1 ≤ length o.table) where
    link_set : root_link linked ≡ o.top.link
    link_set = get_or-set_same o.table 0 o.top.link 0 (omega arith)

    -- The root link is set,
    pub root_of_rooted : root_link (rooted o) ≡ o.top.link
    unfolding rooted
    root_of_rooted = header_of_root linked 1 0 (omega arith) ∙ link_set

    -- and the root's place.
    pub placed_rooted : Placed o.top.link 1 o.table (rooted o)
    unfolding rooted
    placed_rooted = record {
      words = placed.words ∙ length-set o.table 0 o.top.link;
      root_row = λ has.
          placed.root_row (record { low = has.low; high = rw length-set has.high })
          ∙ ap (λ (row : Row). prefixed row 1 row.side) (same o.top.link);
      others = λ k low apart. placed.others k low apart ∙ same k;
    }
      where
        same : (k : ℕ) → row_at linked k ≡ row_at o.table k
        same k = row_past_header o.table 0 o.top.link k (omega arith)

        placed : Placed o.top.link 1 linked (rooted o)
        placed = rw link_set at (placed_root linked 1)

-- A slot that is in no node is not the root's.
pub link_apart : (t : Tree) (k : ℕ) → 1 ≤ k → occurrences k (slots t) ≡ 0 → k ≢ link_of t
link_apart empty k low out equal = omega arith
link_apart (node l e r) k low out equal =
    omega (arith, occurrences_of_node k l e r, ap one_if (eq-eqb k e.slot equal))

-- Where no slot is twice, a slot of a son is not the root's.
apart_from_root : (l : Tree) (e : Entry) (r : Tree) → Once (slots (node l e r)) → (k : ℕ)
    → 1 ≤ occurrences k (slots l) + occurrences k (slots r) → k ≢ e.slot
apart_from_root l e r once k there equal =
    omega (arith, once k, occurrences_of_node k l e r, ap one_if (eq-eqb k e.slot equal))

-- A tree none of whose slots is the root's stands.
kept : {root place : ℕ} (before after : List ℕ) → Placed root place before after → (p q : Neighbour) (t : Tree)
    → ((k : ℕ) → 1 ≤ occurrences k (slots t) → k ≢ root) → RowsOf before p q t → RowsOf after p q t
kept before after placed p q t apart =
    rows_kept before after placed.words p q t (λ k low there. placed.others k low (apart k there))

-- With the root's place 0, a tree as written out stands as turned.
pub rep_of_rows : (before after : List ℕ) (t : Tree) → Placed (link_of t) 0 before after → Once (slots t)
    → RowsOf before none_below none_above t → Rep after none_below none_above t
rep_of_rows before after empty placed once rows = tt
rep_of_rows before after (node l e r) placed once (own, on_left_lem, on_right_lem) =
    let x = held e.label in
    let apart = apart_from_root l e r once in (
      record {
        has = record { low = own.has.low; high = rw placed.words own.has.high };
        row = placed.root_row own.has ∙ ap (λ (row : Row). prefixed row 0 row.side) own.row;
      },
      rep_of_inner after none_below x l refl
          (kept before after placed none_below x l (λ k there. apart k (omega arith)) on_left_lem),
      rep_of_inner after x none_above r refl
          (kept before after placed x none_above r (λ k there. apart k (omega arith)) on_right_lem),
    )

-- With the root's place 1, a tree as turned stands as written out.
pub rows_of_rep : (before after : List ℕ) (t : Tree) → Placed (link_of t) 1 before after → Once (slots t)
    → Rep before none_below none_above t → RowsOf after none_below none_above t
rows_of_rep before after empty placed once rep = tt
rows_of_rep before after (node l e r) placed once (own, on_left_lem, on_right_lem) =
    let x = held e.label in
    let apart = apart_from_root l e r once in (
      record {
        has = record { low = own.has.low; high = rw placed.words own.has.high };
        row = placed.root_row own.has ∙ ap (λ (row : Row). prefixed row 1 row.side) own.row;
      },
      kept before after placed none_below x l (λ k there. apart k (omega arith))
          (rows_of_inner before none_below x l refl on_left_lem),
      kept before after placed x none_above r (λ k there. apart k (omega arith))
          (rows_of_inner before x none_above r refl on_right_lem),
    )
