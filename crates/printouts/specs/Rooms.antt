-- The bytes that the lines of a printout take at most.
use Rattle.std.specs.Prelude.{ℕ, ◌+◌, ◌*◌}
use Rattle.types.specs.Sizes.{hub}

-- the answer's line: two words, two numbers of 20 digits with a space before each, and the line's end
abbrev pub answer_room : ℕ
answer_room = 52

-- a space, a label and the line's end
abbrev pub label_room : ℕ
label_room = hub.width + 2

-- a label's line: before these two numbers of 20 digits, with a space between them
abbrev pub line_room : ℕ
line_room = 41 + label_room

-- the answer's line, and those of as many labels as there are slots
abbrev pub print_room : ℕ
print_room = answer_room + line_room * hub.slots
