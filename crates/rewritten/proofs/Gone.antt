-- The slot of a node that was found and is taken out.
-- after_gone: the plain tree's next state. GoneSlot: the slot against the tree before and after; gone_slot: so it is.
use mathlib.Core.List.{◌∷◌}
use mathlib.Core.Path.{◌≡◌, ap}
use mathlib.Core.Logic.{◌≢◌}
use Prim.Native.Nat.{ℕ, ◌+◌, ◌≤◌}
use native.Mathlib.Omega.{arith}
use lib.Dec.{eqb}
use borrow.Author.Tests.{eq-eqb, ne_eqb}
use Rattle.types.specs.declared.Limits.{Limits}
use Rattle.labels.specs.Labels.{Label}
use Rattle.trees.specs.Trees.{Entry, Tree, slots}
use Rattle.trees.specs.Searches.{found, full_search}
use Rattle.trees.specs.Updates.{deleted}
use Rattle.trees.specs.Plain.{State}
use Rattle.trees.specs.Valid.{Valid, one_if, occurrences}
use Rattle.trees.proofs.SlotCounts.{occurrences_of_deleted, slot_of_found}
use Rattle.rotations.proofs.Rep.{Once}
use Rattle.rewritten.proofs.FromRows.{once_of_valid, slot_of_valid}

-- the plain tree's next state: the node found is taken out, and its slot freed
abbrev pub after_gone : State → Label → Entry → State
after_gone s x e = record { tree = deleted x s.tree; freed = e.slot ∷ s.freed; high = s.high }

-- slot c, one of 1 to last, is the only one that a tree lost; the others are as they were
pub record GoneSlot (last : ℕ) (before after : Tree) (c : ℕ) : Type 0 where
  pub low : 1 ≤ c
  pub up : c ≤ last
  pub once : Once (slots after)
  pub others_low : (k : ℕ) → 1 ≤ occurrences k (slots after) → 1 ≤ k
  pub apart : (k : ℕ) → 1 ≤ occurrences k (slots after) → k ≢ c
  pub none_before : (k : ℕ) → k ≢ c → occurrences k (slots after) ≡ 0 → occurrences k (slots before) ≡ 0

-- So is the slot of the node found.
pub gone_slot : (limits : Limits) (s : State) (x : Label) (e : Entry) → Valid limits.slots limits.width s
    → (full_search x s.tree).result ≡ found e → GoneSlot limits.slots s.tree (deleted x s.tree) e.slot
gone_slot limits s x e valid there =
    let own = slot_of_valid limits s valid e.slot (slot_of_found x s.tree there) in
    record {
      low = own.0;
      up = omega (arith, own.1, valid.within);
      once = λ k. omega (arith, once k, fewer k);
      others_low = λ k occurs. (slot_of_valid limits s valid k (omega (arith, fewer k))).0;
      apart = λ k occurs same. omega (arith, once k, fewer k, ap one_if (eq-eqb k e.slot same));
      none_before = λ k other none. omega (arith, fewer k, ap one_if (ne_eqb k e.slot other));
    }
  where
    once : Once (slots s.tree)
    once = once_of_valid limits s valid

    fewer : (k : ℕ) → one_if (eqb k e.slot) + occurrences k (slots (deleted x s.tree))
        ≡ occurrences k (slots s.tree)
    fewer = occurrences_of_deleted x s.tree there
