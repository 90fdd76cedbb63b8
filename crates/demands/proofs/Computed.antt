-- What the definitions give on small lists of calls at the hub's limits, by computation.
-- after: the memory after calls on a fresh table. fair_one, fair_two: it is sound, and short labels fit.
-- small_is_not_capital: "a" and "A" are not the same bytes.
-- Shown, shown: what the calls on it answer and leave.
use mathlib.Core.List.{List, [], ◌∷◌}
use mathlib.Core.Path.{◌≡◌, refl, ap}
use Prim.Native.Nat.{ℕ}
use native.Mathlib.Omega.{arith}
use lib.ListN.{length, get_or, set, replicate, length-set, length-replicate}
use Rattle.types.specs.declared.Row.{Row}
use Rattle.types.specs.Sizes.{hub, table_length, store_length}
use Rattle.types.specs.Answers.{Answer, found, absent, updated, listed, done, refused}
use Rattle.labels.specs.Labels.{Label, number_of, compare_labels, compare_from, difference_place}
use Rattle.trees.specs.Charges.{unknown}
use Rattle.trees.specs.Plain.{Call, insert, delete}
use Rattle.tables.proofs.Depths.{hub_depth}
use Rattle.tables.specs.Words.{labels_held, row_at, part_at, label_at}
use Rattle.tables.specs.Written.{Memory, written_table, written_store}
use Rattle.tables.specs.Steps.{is_bad, walk_from_root, search_steps}
use Rattle.tables.specs.Sound.{words_and_bytes, counted, sound_as, sound, state_of}
use Rattle.tables.specs.Outcomes.{Outcome, walk_answer, search_outcome, layout_outcome, update_outcome, listing_outcome}
use Rattle.cases.specs.Cases.{a, b, c, d, roster, three, laid_out}
use Rattle.tables.specs.Claims.{LabelFits, after_list}
use Rattle.tables.specs.MapClaims.{label_in}
use Rattle.demands.specs.Ties.{steps_before, ties_met}
use Rattle.demands.specs.Trials.{Fair, step_on_both}
use Rattle.demands.specs.UpdateTrials.{last_numbers}
use Rattle.demands.proofs.SoundAfter.{sound_after}

-- the memory after calls on a fresh table
unfoldable pub after : List Call → Memory
after calls = after_list hub calls laid_out

-- Any calls leave a sound table and store; a short label fits.
after_fair : (calls : List Call) (x : Label) → LabelFits hub x → Fair (after calls).table (after calls).store x
unfolding after
after_fair calls x fits = record {
  holds =
      sound_after hub hub_depth (replicate (table_length hub) 1) (replicate (store_length hub) 1)
      (length-replicate {A = ℕ} (table_length hub) 1) (length-replicate {A = ℕ} (store_length hub) 1) calls;
  fits = fits;
}

pub fair_one : (calls : List Call) {byte : ℕ} → Fair (after calls).table (after calls).store (byte ∷ [])
fair_one calls {byte} = after_fair calls (byte ∷ []) (record { some = omega arith; short = omega arith })

pub fair_two : (calls : List Call) {one two : ℕ} → Fair (after calls).table (after calls).store (one ∷ two ∷ [])
fair_two calls {one} {two} = after_fair calls (one ∷ two ∷ []) (record { some = omega arith; short = omega arith })

-- what a search, and what an update, gives there
abbrev pub searched : List Call → Label → Answer
searched calls x = search_outcome hub (after calls).table (after calls).store x

abbrev pub next : List Call → Call → Outcome
next calls k = update_outcome hub k (after calls).table (after calls).store

-- only "a" is held, as in cases 2 and 3; only "b"; and "ab" with "aa" on its left and "b" on its right
abbrev pub onlyA : List Call
onlyA = insert (a ∷ []) 5 ∷ []

abbrev pub onlyB : List Call
onlyB = insert (b ∷ []) 10 ∷ []

abbrev pub around : List Call
around = insert (a ∷ b ∷ []) 1 ∷ insert (a ∷ a ∷ []) 2 ∷ insert (b ∷ []) 3 ∷ []

-- "A", another spelling of "a"
abbrev pub capital : Label
capital = 65 ∷ []

pub small_is_not_capital : ◌≡◌ {A = Label} (a ∷ []) capital → ⊥
small_is_not_capital same = let bytes : ◌≡◌ {A = ℕ} 97 65 = ap (λ (x : Label). get_or x 0 0) same in omega arith

-- "ab" with "ac" on its right, whose place, word 14, and side, word 15, are made 1
abbrev pub two : List Call
two = insert (a ∷ b ∷ []) 1 ∷ insert (a ∷ c ∷ []) 2 ∷ []

abbrev pub sided_table : List ℕ
sided_table = set (set (after two).table 14 1) 15 1

abbrev pub sided_store : List ℕ
sided_store = (after two).store

pub sided_words : length sided_table ≡ table_length hub
sided_words = rw (length-set, length-set) (fair_two two {one = a} {two = b}).holds.words

pub sided_bytes : length sided_store ≡ store_length hub
sided_bytes = (fair_two two {one = a} {two = b}).holds.bytes

-- a label under "b": its new slot is 2, it has this side, and its search ended with both numbers at 1
pub record UnderB (x : Label) (side : ℕ) : Type 0 where
  pub answer : (next onlyB (insert x 20)).answer ≡ updated 2 1 1
  pub its_side : (row_at (next onlyB (insert x 20)).memory.table 2).side ≡ side
  pub numbers : last_numbers (after onlyB).table (after onlyB).store x ≡ record { p = 1; s = 1 }

-- the row of "aa", a leaf on the left of its successor, with this place
abbrev pub row_ofAA : ℕ → Row
row_ofAA place =
    record { left = 0; right = 0; place = place; side = 1; balance = 1; len = 2; value = 2; charge = unknown }

pub record Shown : Type 0 where
  -- cases 1 and 2, and two labels that are unlike "a" at place 1 and at its end
  pub none_held : searched [] (a ∷ []) ≡ absent 0 0 0 0
  pub one_held : searched onlyA (a ∷ []) ≡ found 1 5 1 2
  pub other_first : searched onlyA (b ∷ []) ≡ absent 1 0 1 1
  pub zero_after : searched onlyA (a ∷ 0 ∷ []) ≡ absent 1 0 1 2
  -- inserts and deletes
  pub first_in : (next [] (insert (a ∷ []) 5)).answer ≡ updated 1 0 0
  pub in_again : (next onlyA (insert (a ∷ []) 5)).answer ≡ refused 7
  pub second_in : (next onlyA (insert (b ∷ []) 10)).answer ≡ updated 2 1 1
  pub none_out : (next [] (delete (a ∷ []))).answer ≡ refused 8
  pub one_out : (next onlyA (delete (a ∷ []))).answer ≡ updated 1 1 2
  pub lower_out : (next three (delete (a ∷ b ∷ []))).answer ≡ updated 1 2 4
  -- a layout, and listings into a list of one word
  pub laid_out_done : (layout_outcome hub (replicate (table_length hub) 1) (replicate (store_length hub) 1)).answer ≡ done
  pub none_listed : (listing_outcome hub (after []).table (after []).store (0 ∷ [])).answer ≡ listed 0
  pub one_listed : (listing_outcome hub (after onlyA).table (after onlyA).store (0 ∷ [])).answer ≡ listed 1
  -- the labels held
  pub held_fresh : labels_held (after []).table ≡ 0
  pub held_first : labels_held (next [] (insert (a ∷ []) 5)).memory.table ≡ 1
  pub held_one : labels_held (after onlyA).table ≡ 1
  pub held_second : labels_held (next onlyA (insert (b ∷ []) 10)).memory.table ≡ 2
  -- sides under "b"
  pub held_b : labels_held (after onlyB).table ≡ 1
  pub left_of_b : UnderB (a ∷ []) 1
  pub right_of_b : UnderB (c ∷ []) 0
  -- "aa" keeps its sons, none, when "ab" is deleted, and its place changes
  pub row_then : row_at (after around).table 2 ≡ row_ofAA 2
  pub row_after : row_at (next around (delete (a ∷ b ∷ []))).memory.table 2 ≡ row_ofAA 1
  -- "A" where "a" is held, and where nothing is
  pub capital_held : searched onlyA capital ≡ found 1 5 1 2
  pub capital_again : (next onlyA (insert capital 9)).answer ≡ refused 7
  pub shown_small : label_in hub (after onlyA) 1 ≡ a ∷ []
  pub capital_in : (next [] (insert capital 5)).answer ≡ updated 1 0 0
  pub shown_capital : label_in hub (next [] (insert capital 5)).memory 1 ≡ capital
  -- case 6, by the search steps and by those before M-106; the first line applies once
  pub tie_now : searched roster (d ∷ a ∷ []) ≡ absent 4 3 3 3
  pub tie_before :
      walk_answer (steps_before hub (after roster).table (after roster).store (d ∷ a ∷ [])) ≡ absent 4 3 3 4
  pub tie_met : ties_met hub (after roster).table (after roster).store (d ∷ a ∷ []) ≡ 1
  -- "ac" in that table, by the search steps and with the line of the tie on side successor too
  pub both_now : search_outcome hub sided_table sided_store (a ∷ c ∷ []) ≡ found 2 2 2 5
  pub both_sides : walk_answer (walk_from_root step_on_both hub sided_table sided_store (a ∷ c ∷ [])) ≡ absent 1 2 2 2

-- All of it holds by computation.
pub shown : Shown
unfolding
    after last_numbers number_of compare_labels compare_from difference_place row_at part_at label_at written_table
    written_store is_bad search_steps steps_before ties_met words_and_bytes counted sound_as sound state_of search_outcome
    layout_outcome update_outcome listing_outcome
shown = record {
  none_held = refl;
  one_held = refl;
  other_first = refl;
  zero_after = refl;
  first_in = refl;
  in_again = refl;
  second_in = refl;
  none_out = refl;
  one_out = refl;
  lower_out = refl;
  laid_out_done = refl;
  none_listed = refl;
  one_listed = refl;
  held_fresh = refl;
  held_first = refl;
  held_one = refl;
  held_second = refl;
  held_b = refl;
  left_of_b = record { answer = refl; its_side = refl; numbers = refl };
  right_of_b = record { answer = refl; its_side = refl; numbers = refl };
  row_then = refl;
  row_after = refl;
  capital_held = refl;
  capital_again = refl;
  shown_small = refl;
  capital_in = refl;
  shown_capital = refl;
  tie_now = refl;
  tie_before = refl;
  tie_met = refl;
  both_now = refl;
  both_sides = refl;
}
