-- The leading bytes that labels share (M-113 of document 02).
use Rattle.std.specs.Prelude.{cond, List, [], ◌∷◌, ℕ, suc, max, eqb}
use Rattle.labels.specs.Labels.{Label, number_of}

-- how many "leading bytes the sought label shares with .. one held label, under M-104's place numbers": those before
-- the first two with unlike numbers, or before the end of a label; an end is no byte
abbrev pub shared_bytes : Label → Label → ℕ
shared_bytes [] y = 0
shared_bytes (a ∷ x) [] = 0
shared_bytes (a ∷ x) (b ∷ y) = cond (eqb (number_of a) (number_of b)) (suc (shared_bytes x y)) 0

-- "the most leading bytes the sought label shares with any one held label": 0 with no label held
abbrev pub most_shared : Label → (held : List Label) → ℕ
most_shared x [] = 0
most_shared x (y ∷ more) = max (shared_bytes x y) (most_shared x more)
