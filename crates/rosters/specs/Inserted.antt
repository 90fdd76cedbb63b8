-- What a record refuses and leaves, in the terms of the definitions; and what the functions of a roster take for
-- granted.
use Rattle.std.specs.Prelude.{List, ◌≡◌, ℕ, length, Result, Ok, Err}
use Rattle.std.specs.Borrow.{Bor}
use Rattle.types.specs.declared.Limits.{Limits}
use Rattle.types.specs.declared.Refusal.{Refusal}
use Rattle.types.specs.Answers.{updated, refused, refusal_number}
use Rattle.labels.specs.Labels.{Label}
use Rattle.tables.specs.Written.{Memory, lent}
use Rattle.tables.specs.Claims.{LabelFits}
use Rattle.tables.specs.Given.{Gives}
use Rattle.tables.specs.Outcomes.{Verdict, refuse, of_label, Outcome, insert_outcome}
use Rattle.words.specs.Limits.{SizesFit}
use Rattle.endings.specs.Ready.{EditsFit, Ready, InsertsReady}
use Rattle.files.specs.FileReads.{EntryRead, no_entry, entry}
use Rattle.rfc4180.specs.Records.{take_record}
use Rattle.records.specs.declared.contents.Content.{Content}
use Rattle.records.specs.declared.Record.{Record}
use Rattle.records.specs.Contents.{content_of}

-- the lines of a record before those of the table: 13, then its label's
abbrev pub of_record : Limits → EntryRead → Verdict → Verdict
of_record limits no_entry below = refuse 13
of_record limits (entry x value rest) below = of_label limits x below

-- what a record answers and leaves
abbrev pub record_outcome : Limits → EntryRead → Memory → Outcome
record_outcome limits no_entry m = record { answer = refused 13; memory = m }
record_outcome limits (entry x value rest) m = insert_outcome limits m.table m.store x value

-- a label that stands in the text can be inserted, and the buffer has room for it
pub record LabelReady (limits : Limits) (table store : List ℕ) (label : Content) (buffer : List ℕ) : Type 0 where
  pub ready : Ready limits table store (content_of label)
  pub room : length buffer ≡ limits.width

-- a sound table, in limits that fit, and a buffer as wide as a label may be
pub record RosterReady (limits : Limits) (table store buffer : List ℕ) : Type 0 where
  pub ready : InsertsReady limits table store
  pub room : length buffer ≡ limits.width

-- limits that fit, and a buffer as wide as a label may be
pub record RosterFits (limits : Limits) (buffer : List ℕ) : Type 0 where
  pub limits_fit : EditsFit limits
  pub room : length buffer ≡ limits.width

-- a table and a store of the right lengths besides
pub record SizesReady (limits : Limits) (table store buffer : List ℕ) : Type 0 where
  pub fits : RosterFits limits buffer
  pub sizes : SizesFit limits table store

-- a record at the front of a text whose own tests have passed
pub record WholeRecord (limits : Limits) (text : List ℕ) (r : Record) : Type 0 where
  pub read : take_record text ≡ entry (content_of r.label) r.value r.rest.now
  pub label : LabelFits limits (content_of r.label)

-- the record at the front of a text, or its refusal, whatever lines stand below its own
abbrev pub RecordRead : Limits → (text : List ℕ) → Result Record Refusal → Type 0
RecordRead limits text (Ok r) = WholeRecord limits text r
RecordRead limits text (Err why) =
    (below : Verdict) → of_record limits (take_record text) below ≡ refuse (refusal_number why)

-- a record at the front of a text that went in, and the text after it
pub record WentIn (limits : Limits) (table store text rest words bytes : List ℕ) : Type 0 where
  pub label : Label
  pub value : ℕ
  pub slot : ℕ
  pub visits : ℕ
  pub places : ℕ
  pub read : take_record text ≡ entry label value rest
  pub gives : Gives (insert_outcome limits table store label value) (updated slot visits places) words bytes

-- what the insert of the record at the front of a text gives and leaves
abbrev pub FirstInserted : Limits → (table store text : List ℕ) → Result (Bor (List ℕ)) Refusal
    → (words bytes : List ℕ) → Type 0
FirstInserted limits table store text (Ok rest) words bytes = WentIn limits table store text rest.now words bytes
FirstInserted limits table store text (Err why) words bytes =
    Gives (record_outcome limits (take_record text) (lent table store)) (refused (refusal_number why)) words bytes
