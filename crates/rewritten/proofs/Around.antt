-- The nodes around one that is to be taken out, renewed.
-- FieldsFor: the fields of the node that takes its place, where there are two sons.
-- Around: what is left around the node. around_node: `renewed_around` leaves that.
use mathlib.Core.List.{List, [], ◌++◌, append-nil}
use mathlib.Core.Path.{◌≡◌, refl, ◌∙◌}
use mathlib.Core.Bool.{true, false}
use Prim.Native.Nat.{ℕ, ◌+◌, ◌≤◌}
use native.Mathlib.Omega.{arith}
use borrow.Author.Tests.{ne_eqb}
use Rattle.types.specs.declared.Limits.{Limits}
use Rattle.labels.specs.Neighbours.{Neighbour, held}
use Rattle.trees.specs.Trees.{Entry, Tree, empty, node, slots}
use Rattle.trees.specs.Updates.{without_least}
use Rattle.trees.specs.Valid.{occurrences}
use Rattle.trees.proofs.Counts.{occurrences_append}
use Rattle.trees.proofs.Heights.{Kept}
use Rattle.trees.proofs.SlotCounts.{occurrences_of_node}
use Rattle.tables.specs.Words.{row_at}
use Rattle.tables.specs.Written.{link_of}
use Rattle.rotations.proofs.Rep.{Rep}
use Rattle.rotations.proofs.Along.{RepHole, place_of_next, side_of_next}
use Rattle.rotations.proofs.Frames.{own_slot}
use Rattle.rotations.proofs.Pops.{occurrences_of_rest}
use Rattle.rotations.proofs.Stays.{rep_apart}
use Rattle.sides.specs.declared.Fields.{Fields}
use Rattle.fields.specs.Between.{fields_between}
use Rattle.renewals.specs.Renewals.{renewed_spine, least_from, renewed_spines, renewed_son}
use Rattle.fields.specs.Between.{no_fields}
use Rattle.renewals.specs.Renewals.{Renewed, renewed_around}
use Rattle.rewritten.proofs.Naming.{named_least, below_named, above_named}
use Rattle.rewritten.proofs.Subtrees.{Subtree, Window, left_son, right_son}
use Rattle.rewritten.proofs.Renewing.{Renews, renews_none, renews_both, below_renewed, above_renewed}
use Rattle.rewritten.proofs.Renewing.{fields_between_lem, renews_one, renewed_stands}
use Rattle.rewritten.proofs.Spines.{right_spine, left_spine, least_from_lem}

-- the fields of the node that takes the place of one with the sons l and r, between p and q
abbrev pub FieldsFor : Neighbour → Tree → Tree → Neighbour → Fields → Type 0
FieldsFor p empty r q fields = Unit {0}
FieldsFor p (node a y a') r q fields = fields ≡ record { place = place_of_next p r q; side = side_of_next p r q }

-- what is left around a node with the sons l and r, between p and q
pub record Around (p q : Neighbour) (l r : Tree) (table : List ℕ) (o : Renewed) : Type 0 where
  pub renews : Renews (slots l ++ slots r) table o.table
  pub hole : RepHole o.table p q l r
  pub next : FieldsFor p l r q o.next

-- ---- the three cases

module _ (limits : Limits) (table store : List ℕ) (c below above : ℕ) where
  -- Without a left son, the right son is renewed.
  around_right : (son : ℕ) → (row_at table c).left ≡ 0 → (row_at table c).right ≡ son
      → renewed_around limits table store c below above
      ≡ record { table = renewed_son limits table store son below above; next = no_fields }
  unfolding renewed_around
  around_right son none link = rw (none, link)

  -- With a left son alone, that one is renewed.
  around_left : (son : ℕ) → (row_at table c).left ≡ son → (son ≡ 0 → ⊥) → (row_at table c).right ≡ 0
      → renewed_around limits table store c below above
      ≡ record { table = renewed_son limits table store son below above; next = no_fields }
  unfolding renewed_around
  around_left son link some none = rw (link, ne_eqb son 0 some, none)

  -- With two sons, two spines are renewed.
  around_two : (near far least : ℕ) → (row_at table c).left ≡ near → (near ≡ 0 → ⊥) → (row_at table c).right ≡ far
      → (far ≡ 0 → ⊥) → least_from limits.depth table far ≡ least
      → renewed_around limits table store c below above
      ≡ record {
        table = renewed_spine limits true limits.depth
            (renewed_spine limits false limits.depth table store near below least) store far above least;
        next = fields_between limits table store least below above;
      }
  unfolding renewed_around renewed_spines
  around_two near far least on_near near_some on_far far_some found =
      rw (on_near, ne_eqb near 0 near_some, on_far, ne_eqb far 0 far_some, found)

module _ (limits : Limits) (store : List ℕ) (p q : Neighbour) (below above : ℕ) where
  -- A lone son renewed stands in the window of its parent.
  renewed_lone : (t : Tree) (p' q' : Neighbour) (table : List ℕ) → Subtree limits table store 1 p' q' t
      → Window limits table store below above p q
      → let after = renewed_son limits table store (link_of t) below above in
      Rep after p q t × Renews (slots t) table after
  unfolding renewed_son
  renewed_lone empty p' q' table lone window = (tt, renews_none [] table)
  renewed_lone (node (node a d b) e r) p' q' table lone window = absurd (omega (arith, lone.fits))
  renewed_lone (node empty e (node a d b)) p' q' table lone window = absurd (omega (arith, lone.fits))
  renewed_lone (node empty e empty) p' q' table lone window =
      let stands = lone.rep.0 in
      rw (ne_eqb e.slot 0 (λ none. omega (arith, stands.has.low))) (
        (
          renewed_stands limits table store below above stands lone.stored.0 window.lower window.upper,
          tt,
          tt,
        ),
        renews_one limits table store e.slot below above stands.has,
      )

  -- Two spines renewed leave the two subtrees as they stand around the smallest node of the right one.
  renewed_two : (a : Tree) (y : Entry) (a' : Tree) (e : Entry) (b : Tree) (d : Entry) (c : Tree) (table : List ℕ)
      → Subtree limits table store limits.depth p (held e.label) (node a y a')
      → Subtree limits table store limits.depth (held e.label) q (node b d c)
      → ((k : ℕ) → occurrences k (slots (node a y a')) + occurrences k (slots (node b d c)) ≤ 1)
      → Window limits table store below above p q
      → let least = (without_least b d c).least in Around p q (node a y a') (node b d c) table (record {
        table = renewed_spine limits true limits.depth
            (renewed_spine limits false limits.depth table store y.slot below least.slot) store d.slot above
            least.slot;
        next = fields_between limits table store least.slot below above;
      })
  renewed_two a y a' e b d c table on_left_lem on_right_lem once window =
      let l = node a y a' in
      let r = node b d c in
      let here = held e.label in
      let least = (without_least b d c).least in
      let named = named_least limits table store b d c here q on_right_lem.rep on_right_lem.stored in
      let middle = renewed_spine limits false limits.depth table store y.slot below least.slot in
      let first = right_spine limits store l p here (held least.label) table limits.depth below least.slot
      on_left_lem (record { lower = window.lower; upper = above_named limits table store named })
      (omega (arith, once least.slot, occurrences_of_rest least.slot b d c, own_slot least.slot)) in
      let second = left_spine limits store b d c here q middle limits.depth above (record {
        fits = on_right_lem.fits;
        rep = rep_apart first.1.frame here q r (λ k. omega (arith, once k)) on_right_lem.rep;
        once = on_right_lem.once;
        stored = on_right_lem.stored;
      }) (record {
        lower = below_renewed limits store first.1 least.slot ∙ below_named limits table store named;
        upper = above_renewed limits store first.1 above ∙ window.upper;
      }) in
      record {
        renews = renews_both (λ k. omega (arith, occurrences_append k (slots l) (slots r)))
            (λ k. omega (arith, occurrences_append k (slots l) (slots r))) first.1 second.1;
        hole = (
          rep_apart second.1.frame p (held least.label) l (λ k. omega (arith, once k)) first.0,
          second.0,
        );
        next = fields_between_lem limits table store least.slot below above named.label window.lower
            window.upper;
      }

  -- `renewed_around` leaves that around the node in slot c.
  pub around_node : (l : Tree) (e : Entry) (r : Tree) (table : List ℕ) → Kept (node l e r)
      → Subtree limits table store limits.depth p q (node l e r) → Window limits table store below above p q
      → Around p q l r table (renewed_around limits table store e.slot below above)
  around_node empty e r table kept whole window =
      let son = right_son limits table store empty e r whole in
      let done = renewed_lone r (held e.label) q table
      (record { fits = kept.far_fits; rep = son.rep; once = son.once; stored = son.stored }) window in
      let row = whole.rep.0.row in
      rw (around_right limits table store e.slot below above (link_of r) (λ i. (row i).left) (λ i. (row i).right))
      (record {
        renews = done.1;
        hole = lone (renewed_son limits table store (link_of r) below above) r done.0;
        next = tt;
      })
    where
      lone : (after : List ℕ) (t : Tree) → Rep after p q t → RepHole after p q empty t
      lone after empty rep = tt
      lone after (node b d c) rep = rep
  around_node (node a y a') e empty table kept whole window =
      let l = node a y a' in
      let son = left_son limits table store l e empty whole in
      let done = renewed_lone l p (held e.label) table
      (record { fits = kept.near_fits; rep = son.rep; once = son.once; stored = son.stored }) window in
      let row = whole.rep.0.row in
      rw (around_left limits table store e.slot below above y.slot (λ i. (row i).left)
      (λ none. omega (arith, whole.rep.1.0.has.low)) (λ i. (row i).right))
      (record { renews = rw (append-nil (slots l)) done.1; hole = done.0; next = refl })
  around_node (node a y a') e (node b d c) table kept whole window =
      let l = node a y a' in
      let r = node b d c in
      let on_left_lem = left_son limits table store l e r whole in
      let on_right_lem = right_son limits table store l e r whole in
      let row = whole.rep.0.row in
      rw (around_two limits table store e.slot below above y.slot d.slot (without_least b d c).least.slot
      (λ i. (row i).left) (λ none. omega (arith, on_left_lem.rep.0.has.low)) (λ i. (row i).right)
      (λ none. omega (arith, on_right_lem.rep.0.has.low))
      (least_from_lem b d c (held e.label) q table limits.depth on_right_lem.fits on_right_lem.rep))
      (renewed_two a y a' e b d c table on_left_lem on_right_lem
      (λ k. omega (arith, whole.once k, occurrences_of_node k (node a y a') e (node b d c))) window)
