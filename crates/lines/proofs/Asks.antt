-- What a line asks: the laws that the tactics use, by the names of three rulesets. A text behind its first bytes is
-- written as a pattern gives it.
use Rattle.std.proofs.Common.{◌≡◌, refl, Bool, true, false, cond, List, [], ◌∷◌, ℕ, ◌-◌, ◌≤◌, ◌<◌}
use Rattle.std.proofs.Common.{length, get_or, take, drop, arith, Option, Some, None}
use Rattle.std.proofs.lemmas.List.{take_all}
use borrow.Author.Tests.{lt-ltb, le-ltb, ne_eqb}
use Rattle.labels.specs.Labels.{Label}
use Rattle.decimals.specs.Decimals.{is_value, decimal_after}
use Rattle.decimals.specs.Values.{value_of}
use Rattle.lines.specs.Commands.{Asked, insert, delete, search, bad}
use Rattle.lines.specs.Commands.{insert_of, ended, by_letter, label_at_front, after_label, asks}

-- ---- a line, by its length and its second byte

-- a line above 80 bytes asks nothing
pub long_asks_nothing : (line : List ℕ) → 80 < length line → bad ≡ asks line
unfolding asks
long_asks_nothing line long = rw (lt-ltb 80 (length line) long)

-- nor does one below 2 bytes
pub short_asks_nothing : (line : List ℕ) → length line < 2 → bad ≡ asks line
unfolding asks
short_asks_nothing [] short = refl
short_asks_nothing (letter ∷ []) short = refl
short_asks_nothing (letter ∷ space ∷ text) short = absurd (omega arith)

-- nor one whose second byte is no space
pub unspaced_asks_nothing : (line : List ℕ) → length line ≤ 80 → (get_or line 1 0 ≡ 32 → ⊥) → bad ≡ asks line
unfolding asks
unspaced_asks_nothing [] fits other = refl
unspaced_asks_nothing (letter ∷ []) fits other = refl
unspaced_asks_nothing (letter ∷ space ∷ text) fits other =
    rw (le-ltb 80 (length (letter ∷ space ∷ text)) fits, ne_eqb space 32 other)

-- another line asks what its letter says
pub asks_by_letter : (line : List ℕ) → length line ≤ 80 → 2 ≤ length line → get_or line 1 0 ≡ 32
    → by_letter (get_or line 0 0) (take (length line - 2) (drop 2 line)) ≡ asks line
unfolding asks
asks_by_letter [] fits two space = absurd (omega arith)
asks_by_letter (letter ∷ []) fits two space = absurd (omega arith)
asks_by_letter (letter ∷ byte ∷ text) fits two space =
    rw (
      le-ltb 80 (length (letter ∷ byte ∷ text)) fits,
      space,
      take_all (length (letter ∷ byte ∷ text) - 2) text (omega arith),
    )

-- what `command_of` needs
pub ruleset line_laws = (long_asks_nothing, short_asks_nothing, unspaced_asks_nothing, asks_by_letter)

-- ---- an insert, after its label

-- with nothing after the label there is no insert
pub empty_no_insert : (label rest : List ℕ) → length rest < 1 → bad ≡ insert_of label rest
empty_no_insert label [] none = refl
empty_no_insert label (byte ∷ text) none = absurd (omega arith)

-- with another byte than a space there is none
pub unspaced_no_insert : (label rest : List ℕ) → (get_or rest 0 0 ≡ 32 → ⊥) → bad ≡ insert_of label rest
unspaced_no_insert label [] other = refl
unspaced_no_insert label (byte ∷ text) other = rw (ne_eqb byte 32 other)

-- an insert of a label, if there is a value
abbrev insert_with : Label → Option ℕ → Asked
insert_with x (Some value) = insert x value
insert_with x None = bad

module _ (label : List ℕ) where
  by_value : (test : Bool) (value : ℕ)
      → insert_with label (cond test (Some value) None) ≡ cond test (insert label value) bad
  by_value true value = refl
  by_value false value = refl

  spaced : (rest : List ℕ) → 1 ≤ length rest → get_or rest 0 0 ≡ 32
      → insert_with label (value_of (take (length rest - 1) (drop 1 rest))) ≡ insert_of label rest
  unfolding value_of
  spaced [] one space = absurd (omega arith)
  spaced (byte ∷ text) one space = rw (take_all (length (byte ∷ text) - 1) text (omega arith), space) (by_value (is_value text) (decimal_after 0 text))

  module _ (rest : List ℕ) (one : 1 ≤ length rest) (space : get_or rest 0 0 ≡ 32) where
    -- a space and a value make an insert
    pub value_inserted : (value : ℕ) → value_of (take (length rest - 1) (drop 1 rest)) ≡ Some value
        → insert label value ≡ insert_of label rest
    value_inserted value is = rw is at (spaced rest one space)

    -- a space and no value make none
    pub no_value_no_insert : value_of (take (length rest - 1) (drop 1 rest)) ≡ None → bad ≡ insert_of label rest
    no_value_no_insert is = rw is at (spaced rest one space)

-- what `insert_of` needs
pub ruleset insert_laws = (empty_no_insert, unspaced_no_insert, value_inserted, no_value_no_insert)

-- ---- a command, by its letter

same_either_way : (test : Bool) (asked : Asked) → cond test asked asked ≡ asked
same_either_way true asked = refl
same_either_way false asked = refl

ended_here : (asked : Asked) (rest : List ℕ) → length rest ≡ 0 → ended asked rest ≡ asked
ended_here asked [] none = refl
ended_here asked (byte ∷ more) none = absurd (omega arith)

not_ended : (asked : Asked) (rest : List ℕ) → (length rest ≡ 0 → ⊥) → ended asked rest ≡ bad
not_ended asked [] more = absurd (more refl)
not_ended asked (byte ∷ others) more = refl

module _ (letter : ℕ) (text label rest : List ℕ) (label_is : label ≡ label_at_front text)
    (rest_is : rest ≡ after_label text) where
  -- the letter I asks for an insert
  pub letter_I : letter ≡ 73 → insert_of label rest ≡ by_letter letter text
  letter_I is = rw (is, label_is, rest_is)

  -- the letter D, with nothing after the label, asks for a delete
  pub letter_D : letter ≡ 68 → length rest ≡ 0 → delete label ≡ by_letter letter text
  letter_D is none = rw (is, ← label_is, ← rest_is, ended_here (delete label) rest none)

  -- the letter S, with nothing after the label, asks for a search
  pub letter_S : letter ≡ 83 → length rest ≡ 0 → search label ≡ by_letter letter text
  letter_S is none = rw (is, ← label_is, ← rest_is, ended_here (search label) rest none)

  -- with another letter than I and something after the label, a line asks nothing
  pub letter_and_more : (letter ≡ 73 → ⊥) → (length rest ≡ 0 → ⊥) → bad ≡ by_letter letter text
  letter_and_more other more =
      rw (
        ne_eqb letter 73 other,
        ← label_is,
        ← rest_is,
        not_ended (delete label) rest more,
        not_ended (search label) rest more,
        same_either_way,
        same_either_way,
      )

  -- with another letter a line asks nothing
  pub letter_unknown : (letter ≡ 73 → ⊥) → (letter ≡ 68 → ⊥) → (letter ≡ 83 → ⊥) → bad ≡ by_letter letter text
  letter_unknown no_I no_D no_S = rw (ne_eqb letter 73 no_I, ne_eqb letter 68 no_D, ne_eqb letter 83 no_S)

-- what `by_letter` needs
pub ruleset letter_laws = (letter_I, letter_D, letter_S, letter_and_more, letter_unknown)
