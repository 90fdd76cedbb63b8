-- Rows seen from a side, and the prefix fields of two nodes that a rotation exchanges.
use Rattle.std.specs.Prelude.{List, Bool, true, false, not, ◌&&◌, ◌||◌, cond, ℕ, eqb, ltb}
use Rattle.types.specs.declared.Row.{Row}
use Rattle.tables.specs.Words.{row_at}
use Rattle.words.specs.Rows.{put_row}

-- a balance seen from the other side
abbrev pub mirrored : ℕ → ℕ
mirrored balance = cond (eqb balance 0) 2 (cond (eqb balance 2) 0 balance)

-- a row with its sides exchanged, where the flag says so
unfoldable pub flipped : Bool → Row → Row
flipped false row = row
flipped true row =
    record {
      left = row.right;
      right = row.left;
      place = row.place;
      side = row.side;
      balance = mirrored row.balance;
      len = row.len;
      value = row.value;
      charge = row.charge;
    }

abbrev pub row_on : Bool → List ℕ → ℕ → Row
row_on flip table k = flipped flip (row_at table k)

abbrev pub put_on : Bool → List ℕ → ℕ → Row → List ℕ
put_on flip table k row = put_row table k (flipped flip row)

-- a row with other links and another balance
abbrev pub linked_row : Row → (left right balance : ℕ) → Row
linked_row row left right balance =
    record {
      left = left;
      right = right;
      place = row.place;
      side = row.side;
      balance = balance;
      len = row.len;
      value = row.value;
      charge = row.charge;
    }

-- a row with other prefix fields
abbrev pub prefixed : Row → (place side : ℕ) → Row
prefixed row place side =
    record {
      left = row.left;
      right = row.right;
      place = place;
      side = side;
      balance = row.balance;
      len = row.len;
      value = row.value;
      charge = row.charge;
    }

-- the side that points from the near son to its parent: a left son's successor, a right son's predecessor
abbrev pub to_parent : Bool → ℕ
to_parent false = 1
to_parent true = 0

-- whether a rotation of the near son over its parent exchanges their prefix fields. The root's place counts as 0.
-- A tie goes to the predecessor, so of two equal places a right son's parent keeps its own where its side is
-- predecessor.
unfoldable pub exchanges : Bool → (parent son : Row) → Bool
exchanges flip parent son =
    eqb son.side (to_parent flip)
    && (ltb parent.place son.place
    || (eqb parent.place son.place && not (flip && eqb parent.side 0)))

-- the son's row with the fields that it has above its parent
unfoldable pub raised : Bool → (parent son : Row) → Row
raised flip parent son = cond (exchanges flip parent son) (prefixed son parent.place parent.side) son

-- the parent's row with the fields that it has below its son: its side points to the new parent
unfoldable pub lowered : Bool → (parent son : Row) → Row
lowered flip parent son =
    cond (exchanges flip parent son) (prefixed parent son.place (to_parent (not flip))) parent
