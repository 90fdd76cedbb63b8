-- What is read of a file at a position, in the terms of the definitions; and where its parts lie.
use Rattle.std.specs.Prelude.{List, Option, Some, None, ℕ, ◌-◌, ◌≤◌, length, take, drop}
use Rattle.tables.specs.Outcomes.{Verdict, pass, refuse}
use Rattle.files.specs.Groups.{NumberRead, no_number, number}
use Rattle.files.specs.FileReads.{EntryRead, no_entry, entry, FileRead, refused_by, holds}
use Rattle.scans.specs.declared.Entry.{Entry}
use Rattle.scans.specs.declared.Number.{Number}

abbrev pub number_says : (file : List ℕ) → Option Number → NumberRead
number_says file None = no_number
number_says file (Some read) = number read.n (drop read.next file)

-- a part of a file
abbrev pub part_of : (file : List ℕ) (start end : ℕ) → List ℕ
part_of file start end = take (end - start) (drop start file)

-- the label of an entry
abbrev pub label_of : (file : List ℕ) → Entry → List ℕ
label_of file e = part_of file e.start e.end

abbrev pub entry_says : (file : List ℕ) → Option Entry → EntryRead
entry_says file None = no_entry
entry_says file (Some e) = entry (label_of file e) e.value (drop e.next file)

-- an entry whose label and whose end lie inside the file
pub record EntryInside (file : List ℕ) (e : Entry) : Type 0 where
  pub ordered : e.start ≤ e.end
  pub inside : e.end ≤ length file
  pub end : e.next ≤ length file

-- whether a file can be loaded
abbrev pub verdict_of : FileRead → Verdict
verdict_of (refused_by why) = refuse why
verdict_of (holds pairs) = pass
