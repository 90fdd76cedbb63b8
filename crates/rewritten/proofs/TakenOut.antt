-- The found node taken out of the tree in a written-out table, before its slot is freed.
-- TurnedTo, TakenOut: what is left then. found_slot: the trace ends at the slot found. taken_out: delete in the words
-- leaves that.
use mathlib.Core.List.{List}
use mathlib.Core.Path.{◌≡◌, ◌∙◌}
use Prim.Native.Nat.{ℕ, ◌-◌, ◌≤◌}
use lib.Dec.{leb}
use lib.ListN.{length}
use Rattle.types.specs.declared.Limits.{Limits}
use Rattle.labels.specs.Labels.{Label}
use Rattle.labels.specs.Neighbours.{none_below, none_above}
use Rattle.trees.specs.Trees.{Entry, Tree, slots}
use Rattle.trees.specs.Heights.{height, Deepest}
use Rattle.trees.specs.Searches.{found, full_search}
use Rattle.trees.specs.Updates.{deleted}
use Rattle.trees.specs.Plain.{State}
use Rattle.trees.specs.Valid.{Valid}
use Rattle.trees.proofs.Heights.{Kept, kept_of_balanced}
use Rattle.trees.proofs.Sorted.{between_of_ascends}
use Rattle.tables.specs.Words.{labels_held}
use Rattle.tables.specs.Written.{link_of, written_table, written_store}
use Rattle.written.proofs.Rows.{root_of_written}
use Rattle.written.proofs.Held.{height_within}
use Rattle.turns.specs.Turns.{Turned}
use Rattle.paths.specs.Paths.{path_of, delete_along, rooted}
use Rattle.rotations.proofs.Rep.{Rep, Frame, Refines}
use Rattle.rotations.proofs.Along.{sides_to, low_to, high_to, place_of_next, side_of_next, right_of}
use Rattle.rotations.proofs.Frames.{frame_then}
use Rattle.rotations.proofs.Deletes.{delete_refines}
use Rattle.traces.specs.declared.Trace.{Trace}
use Rattle.slots.specs.Slots.{with_root_place, after_freed, with_count}
use Rattle.renewals.specs.Renewals.{Renewed, renewed_around}
use Rattle.deletions.specs.Deletions.{deleted_table}
use Rattle.rewritten.proofs.Traces.{Way}
use Rattle.rewritten.proofs.FromRows.{once_of_valid}
use Rattle.rewritten.proofs.Renewing.{below_renewed, above_renewed}
use Rattle.rewritten.proofs.Readied.{Ready, ready_to_delete_lem}
use Rattle.rewritten.proofs.NextFields.{fields_along}
use Rattle.rewritten.proofs.Rooting.{labels_of_written, rep_of_written, renews_of_root}

-- the outcome is the tree t, and only slots of the tree before were touched
pub record TurnedTo (before : Tree) (table : List ℕ) (t : Tree) (o : Turned) : Type 0 where
  pub link : o.top.link ≡ link_of t
  pub rep : Rep o.table none_below none_above t
  pub frame : Frame (slots before) table o.table

-- a table that is left once the node in slot c is taken out, its slot freed and the labels counted
pub record TakenOut (before : Tree) (table : List ℕ) (t : Tree) (c : ℕ) (after : List ℕ) : Type 0 where
  pub out : Turned
  pub turned : TurnedTo before table t out
  pub stores : after ≡ with_count (after_freed (rooted out) c) (labels_held table - 1)

module _ (limits : Limits) (s : State) (x : Label) (e : Entry) (trace : Trace)
    (deepest : Deepest limits.slots limits.depth) (valid : Valid limits.slots limits.width s)
    (there : (full_search x s.tree).result ≡ found e)
    (way : Way limits (written_table limits s) (written_store limits s) x s.tree trace) where
  abbrev t : Tree
  t = s.tree

  abbrev table : List ℕ
  table = written_table limits s

  abbrev store : List ℕ
  store = written_store limits s

  abbrev after : Renewed
  after = renewed_around limits (with_root_place table 0) store e.slot trace.below trace.above

  abbrev along : (place side : ℕ) → Turned
  along = delete_along (length (sides_to x t)) (path_of (sides_to x t)) limits.depth after.table (link_of t)

  abbrev out : Turned
  out =
      along (place_of_next (low_to none_below x t) (right_of x t) (high_to none_above x t))
      (side_of_next (low_to none_below x t) (right_of x t) (high_to none_above x t))

  kept : Kept t
  kept = kept_of_balanced t valid.balanced

  shallow : height t ≤ limits.depth
  shallow = height_within limits deepest s valid

  -- The tree is made ready.
  ready : Ready x none_below none_above t (with_root_place table 0) after
  ready =
      let root = renews_of_root limits s valid x there in
      ready_to_delete_lem limits (with_root_place table 0) store x e trace.below trace.above t none_below none_above
      kept (record {
        fits = shallow;
        rep = rep_of_written limits s valid;
        once = once_of_valid limits s valid;
        stored = labels_of_written limits s valid;
      }) there (record {
        lower = below_renewed limits store root trace.below ∙ way.below;
        upper = above_renewed limits store root trace.above ∙ way.above;
      })

  -- The node is taken out.
  refines : Refines after.table none_below none_above (deleted x t) (leb (height t) (height (deleted x t))) (slots t)
      out
  refines =
      delete_refines t none_below none_above after.table x e limits.depth kept
      (between_of_ascends t valid.ascending) there (once_of_valid limits s valid) ready.rep shallow

  -- The trace ends at the slot found.
  pub found_slot : trace.found ≡ e.slot
  found_slot = rw there at way.ends

  -- The fields found for the next node are as good as its own.
  same_along : along after.next.place after.next.side ≡ out
  same_along =
      fields_along x e limits.depth after.table (low_to none_below x t) (high_to none_above x t) after.next t
      none_below none_above there ready.rep ready.next

  -- Delete in the words leaves the table once the node is taken out, its slot freed and the labels counted.
  pub taken_out : TakenOut s.tree (written_table limits s) (deleted x s.tree) e.slot
      (deleted_table limits (written_table limits s) (written_store limits s) trace)
  unfolding deleted_table
  taken_out = record {
    out = out;
    turned = record {
      link = refines.link;
      rep = refines.rep;
      frame = frame_then (renews_of_root limits s valid x there).frame
          (frame_then ready.renews.frame refines.frame);
    };
    stores = rw (found_slot, way.path, way.sides, root_of_written limits s, same_along);
  }
