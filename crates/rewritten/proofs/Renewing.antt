-- Prefix fields renewed, one node at a time.
-- Renews: an update that leaves every slot's label length, and the rows of the slots that it does not touch.
-- root_within: the root's slot is one of the tree's.
-- renews_none, renews_both, renews_wider: nothing done, two such updates one after the other, more slots touched.
-- below_renewed, above_renewed: the neighbours in two slots stay.
-- fields_between: the fields of a node between the neighbours in two slots.
-- renews_one: a renewed node is such an update. renewed_stands: it stands between the neighbours in the two slots.
use mathlib.Core.List.{List, [], ◌∷◌}
use mathlib.Core.Path.{◌≡◌, refl, ◌∙◌}
use Prim.Native.Nat.{ℕ, zero, suc, ◌≤◌}
use native.Mathlib.Decide.{ℕ_discrete}
use native.Mathlib.Omega.{arith}
use Rattle.types.specs.declared.Limits.{Limits}
use Rattle.types.specs.declared.Row.{Row}
use Rattle.labels.specs.Labels.{Label}
use Rattle.labels.specs.Neighbours.{Neighbour}
use Rattle.trees.specs.Trees.{Entry, Tree, node, slots}
use Rattle.trees.proofs.SlotCounts.{occurrences_of_node}
use Rattle.tables.specs.Words.{row_at, entry_at}
use Rattle.tables.specs.Prefix.{side_within}
use Rattle.words.specs.Rows.{HasRow}
use Rattle.words.proofs.Laws.{row_put_same, row_put_other}
use Rattle.gaps.specs.Windows.{below_in, above_in}
use Rattle.sides.specs.Rows.{prefixed}
use Rattle.rotations.proofs.Rep.{bare_within, Stands, Frame}
use Rattle.rotations.proofs.Frames.{frame_none, frame_wider, has_framed}
use Rattle.rotations.proofs.Stays.{Within, frame_of_put, frame_both}
use Rattle.fields.specs.Between.{fields_between}
use Rattle.renewals.specs.Renewals.{renewed}
use Rattle.rewritten.proofs.Naming.{LabelStored, named_standing}

-- an update that touches only these slots, and no label's length
pub record Renews (touched before after : List ℕ) : Type 0 where
  pub frame : Frame touched before after
  pub lens : (k : ℕ) → 1 ≤ k → (row_at after k).len ≡ (row_at before k).len

-- The root's slot is one of the tree's.
pub root_within : (l : Tree) (e : Entry) (r : Tree) → Within (e.slot ∷ []) (slots (node l e r))
root_within l e r k = omega (arith, occurrences_of_node k l e r)

-- Nothing done.
pub renews_none : (touched table : List ℕ) → Renews touched table table
renews_none touched table = record { frame = frame_none touched table; lens = λ k low. refl }

-- Two updates one after the other.
pub renews_both : {first second whole before between after : List ℕ} → Within first whole → Within second whole
    → Renews first before between → Renews second between after → Renews whole before after
renews_both of_first of_second one two = record {
  frame = frame_both of_first of_second one.frame two.frame;
  lens = λ k low. two.lens k low ∙ one.lens k low;
}

-- More slots may count as touched.
pub renews_wider : {few whole before after : List ℕ} → Within few whole → Renews few before after
    → Renews whole before after
renews_wider within renews =
    record { frame = frame_wider (λ k out. omega (arith, within k)) renews.frame; lens = renews.lens }

module _ (limits : Limits) (store : List ℕ) {touched before after : List ℕ} (renews : Renews touched before after) where
  -- The neighbour below that is in a slot stays.
  pub below_renewed : (k : ℕ) → below_in limits after store k ≡ below_in limits before store k
  below_renewed zero = refl
  below_renewed (suc k) = rw (renews.lens (suc k) (omega arith))

  -- The neighbour above that is in a slot stays.
  pub above_renewed : (k : ℕ) → above_in limits after store k ≡ above_in limits before store k
  above_renewed zero = refl
  above_renewed (suc k) = rw (renews.lens (suc k) (omega arith))

module _ (limits : Limits) (table store : List ℕ) where
  -- The fields of a node between the neighbours in two slots.
  pub fields_between_lem : {p q : Neighbour} {x : Label} (k below above : ℕ) → (entry_at limits table store k).label ≡ x
      → below_in limits table store below ≡ p → above_in limits table store above ≡ q
      → fields_between limits table store k below above
      ≡ record { place = bare_within p x q; side = side_within p x q }
  unfolding fields_between
  fields_between_lem k below above label lower upper = rw (label, lower, upper)

  -- a node's row with the fields between the neighbours in two slots
  abbrev row_renewed : (k below above : ℕ) → Row
  row_renewed k below above =
      let fields = fields_between limits table store k below above in
      prefixed (row_at table k) fields.place fields.side

  -- A renewed node's row has other prefix fields.
  row_renewed_lem : (k below above : ℕ) → HasRow table k
      → row_at (renewed limits table store k below above) k ≡ row_renewed k below above
  unfolding renewed
  row_renewed_lem k below above has = row_put_same table k (row_renewed k below above) has

  -- A renewed node is an update that touches its slot, and no label's length.
  pub renews_one : (k below above : ℕ) → HasRow table k
      → Renews (k ∷ []) table (renewed limits table store k below above)
  unfolding renewed
  renews_one k below above has = record {
    frame = frame_of_put table k (row_renewed k below above) has.low;
    lens = λ j low. by_slot j low (ℕ_discrete j k);
  }
    where
      by_slot : (j : ℕ) → 1 ≤ j → Dec (j ≡ k)
          → (row_at (renewed limits table store k below above) j).len ≡ (row_at table j).len
      by_slot j low (yes same) = rw same (λ i. (row_renewed_lem k below above has i).len)
      by_slot j low (no other) = λ i. (row_put_other table k j (row_renewed k below above) has.low low other i).len

  -- A renewed node stands between the neighbours in the two slots.
  pub renewed_stands : {p q p' q' : Neighbour} {l : Tree} {e : Entry} {r : Tree} (below above : ℕ)
      → Stands table p l e r q → LabelStored limits store e → below_in limits table store below ≡ p'
      → above_in limits table store above ≡ q' → Stands (renewed limits table store e.slot below above) p' l e r q'
  renewed_stands {e = e} below above stands label lower upper =
      let named = named_standing limits table store stands label in
      let fields = fields_between_lem e.slot below above named.label lower upper in
      record {
        has = has_framed (renews_one e.slot below above stands.has).frame stands.has;
        row = row_renewed_lem e.slot below above stands.has
            ∙ (λ i. prefixed (stands.row i) (fields i).place (fields i).side);
      }
