-- A content by the part of a text that it stands in.
use Rattle.std.specs.Prelude.{true, false, cond, List, [], ◌∷◌, ℕ, eqb, length}
use Rattle.rfc4180.specs.Grammar.{dquote}

-- the content of a part in which quotes stand doubled: of two, the first is taken
unfoldable pub undoubled : List ℕ → List ℕ
undoubled [] = []
undoubled (byte ∷ []) = byte ∷ []
undoubled (byte ∷ next ∷ more) =
    byte ∷ elim (eqb byte dquote) [ true ↦ undoubled more | false ↦ undoubled (next ∷ more) ]

-- what is left of such a part after the first byte of its content
abbrev pub after_first : List ℕ → List ℕ
after_first [] = []
after_first (byte ∷ []) = []
after_first (byte ∷ next ∷ more) = cond (eqb byte dquote) more (next ∷ more)

-- a content of so many bytes: the part itself where it has as many, else without the doubled quotes
abbrev pub content_in : (part : List ℕ) (len : ℕ) → List ℕ
content_in part len = cond (eqb len (length part)) part (undoubled part)
