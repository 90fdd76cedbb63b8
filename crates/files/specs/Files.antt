-- The saved file (M-105 of document 02), over the pairs of an ordered map. It does not carry the charge (M-109).
use Rattle.std.specs.Prelude.{List, [], ◌∷◌, ◌++◌, ℕ, ◌+◌, ◌*◌, length}
use Rattle.types.specs.declared.Limits.{Limits}
use Rattle.labels.specs.Labels.{Label}
use Rattle.trees.specs.Map.{Pair}
use Rattle.files.specs.Groups.{groups_of}

-- "its length, its bytes and its value"
abbrev pub entry_of : Label → ℕ → List ℕ
entry_of x value = groups_of (length x) ++ (x ++ groups_of value)

-- "for each in ascending order": a map's pairs ascend
abbrev pub entries_of : List Pair → List ℕ
entries_of [] = []
entries_of (p ∷ more) = entry_of p.label p.value ++ entries_of more

-- "The file is the number of labels, then for each .."
unfoldable pub file_of : List Pair → List ℕ
file_of pairs = groups_of (length pairs) ++ entries_of pairs

-- the largest word, so the largest value
abbrev pub largest_word : ℕ
largest_word = 65535

-- the bytes of the longest file: as many labels as there are slots, each as long as it may be, with the largest value
abbrev pub longest_file : Limits → ℕ
longest_file limits =
    length (groups_of limits.slots)
    + limits.slots * (length (groups_of limits.width) + (limits.width + length (groups_of largest_word)))
