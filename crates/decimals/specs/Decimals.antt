-- Which texts are a value in a line of `hubshell` (document 01, below 'Worked on paper') and in a record of a roster
-- (M-100 of document 02), and of what number.
use Rattle.std.specs.Prelude.{List, [], ◌∷◌, Bool, true, false, not, ◌&&◌, ℕ, ◌+◌, ◌-◌, ◌*◌, eqb, leb, length}

abbrev pub is_digit : ℕ → Bool
is_digit byte = leb 48 byte && leb byte 57

abbrev pub all_digits : List ℕ → Bool
all_digits [] = true
all_digits (byte ∷ more) = is_digit byte && all_digits more

-- the number that digits write, after those that write n
abbrev pub decimal_after : ℕ → List ℕ → ℕ
decimal_after n [] = n
decimal_after n (byte ∷ more) = decimal_after (10 * n + (byte - 48)) more

-- a first digit 0 with others after it
abbrev pub needless_zero : List ℕ → Bool
needless_zero [] = false
needless_zero (byte ∷ []) = false
needless_zero (byte ∷ next ∷ more) = eqb byte 48

-- "a value is decimal 0 to 65535 without needless leading zeros"
abbrev pub is_value : List ℕ → Bool
is_value text =
    not (eqb (length text) 0) && (all_digits text && (not (needless_zero text) && leb (decimal_after 0 text) 65535))
