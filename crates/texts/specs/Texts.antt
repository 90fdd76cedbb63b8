-- The line that answers a line of `hubshell` (document 01, below 'Worked on paper').
use Rattle.std.specs.Prelude.{List, [], ◌∷◌, ◌++◌, true, false, ℕ, zero, suc, ◌+◌, ◌/◌, ◌%◌, ltb, Option, Some, None}
use Rattle.types.specs.Answers.{Answer, found, absent, updated, listed, done, refused, search_says, update_says}
use Rattle.texts.specs.declared.Said as code

-- a number below 10 to the power of the digits given, in decimal
abbrev pub decimal_with : (digits : ℕ) → ℕ → List ℕ
decimal_with zero n = []
decimal_with (suc digits) n =
    elim (ltb n 10) [ true ↦ (48 + n) ∷ [] | false ↦ decimal_with digits (n / 10) ++ ((48 + n % 10) ∷ []) ]

-- "numbers in decimal": a number of 64 bits has at most 20 digits
unfoldable pub decimal : ℕ → List ℕ
decimal n = decimal_with 20 n

-- a space, and a number
abbrev pub then_number : ℕ → List ℕ
then_number n = 32 ∷ decimal n

abbrev pub ok_word : List ℕ
ok_word = 111 ∷ 107 ∷ []

abbrev pub found_word : List ℕ
found_word = 102 ∷ 111 ∷ 117 ∷ 110 ∷ 100 ∷ []

abbrev pub absent_word : List ℕ
absent_word = 97 ∷ 98 ∷ 115 ∷ 101 ∷ 110 ∷ 116 ∷ []

abbrev pub no_word : List ℕ
no_word = 110 ∷ 111 ∷ []

abbrev pub bad_word : List ℕ
bad_word = 98 ∷ 97 ∷ 100 ∷ []

abbrev pub line_end : List ℕ
line_end = 10 ∷ []

-- the two counts that end an answer's line
abbrev pub then_counts : (visits places : ℕ) → List ℕ
then_counts visits places = then_number visits ++ (then_number places ++ line_end)

-- "`ok slot visits places` for I and D, `found value visits places` or `absent visits places` for S, and for a refusal
-- `no number`", "ended by byte 10".
-- (A listing and the calls that only say that they are done are no commands. The slots beside an absent label are not
-- printed: "`hubshell` prints as before", M-107 of document 02.)
unfoldable pub text_of : Answer → List ℕ
text_of (updated slot visits places) = ok_word ++ (then_number slot ++ then_counts visits places)
text_of (found slot value visits places) = found_word ++ (then_number value ++ then_counts visits places)
text_of (absent below above visits places) = absent_word ++ then_counts visits places
text_of (refused number) = no_word ++ (then_number number ++ line_end)
text_of (listed count) = ok_word ++ line_end
text_of done = ok_word ++ line_end

unfoldable pub bad_text : List ℕ
bad_text = bad_word ++ line_end

-- the line for what the code says
abbrev pub text_said : Option code.Said → List ℕ
text_said (Some (code.TheVariants.Update answer)) = text_of (update_says answer)
text_said (Some (code.TheVariants.Search answer)) = text_of (search_says answer)
text_said None = bad_text
