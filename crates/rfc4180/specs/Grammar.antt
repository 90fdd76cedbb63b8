-- RFC 4180, section 2: the grammar of comma-separated values, as relations between what is derived and its bytes. Each
-- of the RFC's lines stands above its definition.
use Rattle.std.specs.Prelude.{Bool, true, ◌&&◌, ◌||◌, List, [], ◌∷◌, ◌++◌, ◌≡◌, ℕ, eqb, leb}

-- "COMMA = %x2C"
abbrev pub comma : ℕ
comma = 44

-- "CR = %x0D"
abbrev pub cr : ℕ
cr = 13

-- "LF = %x0A"; "CRLF = CR LF"
abbrev pub lf : ℕ
lf = 10

-- "DQUOTE = %x22"
abbrev pub dquote : ℕ
dquote = 34

-- "TEXTDATA = %x20-21 / %x23-2B / %x2D-7E"
abbrev pub is_textdata : ℕ → Bool
is_textdata byte = (leb 32 byte && leb byte 33) || ((leb 35 byte && leb byte 43) || (leb 45 byte && leb byte 126))

-- "non-escaped = *TEXTDATA"
pub data NonEscaped : (bytes : List ℕ) → Type 0 where
  none : NonEscaped []
  one : (byte : ℕ) (bytes : List ℕ) → is_textdata byte ≡ true → NonEscaped bytes → NonEscaped (byte ∷ bytes)

-- "TEXTDATA / COMMA / CR / LF"
abbrev pub is_inner : ℕ → Bool
is_inner byte = is_textdata byte || (eqb byte comma || (eqb byte cr || eqb byte lf))

-- "*(TEXTDATA / COMMA / CR / LF / 2DQUOTE)": its content, where 2DQUOTE is one quote, and its bytes
pub data Inner : (content bytes : List ℕ) → Type 0 where
  none : Inner [] []
  one : (byte : ℕ) (content bytes : List ℕ) → is_inner byte ≡ true → Inner content bytes
      → Inner (byte ∷ content) (byte ∷ bytes)
  two_quotes : (content bytes : List ℕ) → Inner content bytes → Inner (dquote ∷ content) (dquote ∷ dquote ∷ bytes)

-- "field = (escaped / non-escaped)"; "escaped = DQUOTE *(TEXTDATA / COMMA / CR / LF / 2DQUOTE) DQUOTE"
pub data Field : (content bytes : List ℕ) → Type 0 where
  escaped : (content bytes : List ℕ) → Inner content bytes → Field content (dquote ∷ (bytes ++ (dquote ∷ [])))
  non_escaped : (bytes : List ℕ) → NonEscaped bytes → Field bytes bytes

-- "record = field *(COMMA field)"
pub data Record : (fields : List (List ℕ)) (bytes : List ℕ) → Type 0 where
  one : (content bytes : List ℕ) → Field content bytes → Record (content ∷ []) bytes
  more : (content bytes : List ℕ) (fields : List (List ℕ)) (others : List ℕ) → Field content bytes
      → Record fields others → Record (content ∷ fields) (bytes ++ (comma ∷ others))

-- a record at the front of a text, and what comes after it: "The last record in the file may or may not have an ending
-- line break"
pub data AtFront : (fields : List (List ℕ)) (text rest : List ℕ) → Type 0 where
  last : (fields : List (List ℕ)) (bytes : List ℕ) → Record fields bytes → AtFront fields bytes []
  ended : (fields : List (List ℕ)) (bytes rest : List ℕ) → Record fields bytes
      → AtFront fields (bytes ++ (cr ∷ lf ∷ rest)) rest

-- "file = [header CRLF] record *(CRLF record) [CRLF]", with "no header" and "An empty text has no records" (M-100 of
-- document 02)
pub data File : (records : List (List (List ℕ))) (text : List ℕ) → Type 0 where
  none : File [] []
  one_more : (fields : List (List ℕ)) (records : List (List (List ℕ))) (byte : ℕ) (more rest : List ℕ)
      → AtFront fields (byte ∷ more) rest → File records rest → File (fields ∷ records) (byte ∷ more)
