-- Labels with their values, taken from the front of a file.
-- `entry_view`: a label that is taken fits, its value is a word, and in bytes its entry stands in front.
-- `entry_fits`: a label that is taken fits.
-- `take_entry_lem`: from the entry of such a label and value they are taken, whatever follows.
use mathlib.Core.Bool.{Bool, cond}
use mathlib.Core.List.{List, ◌++◌, append_assoc}
use mathlib.Core.Path.{◌≡◌, sym}
use Prim.Native.Nat.{ℕ, ◌≤◌}
use native.Mathlib.Omega.{arith}
use lib.ListN.{length, take, drop, length-append, take-append-drop}
use lib.Seq.{length-take-le, take-append_seam, drop-append_seam}
use borrow.Author.Tests.{le-ltb}
use Rattle.types.specs.declared.Limits.{Limits}
use Rattle.labels.specs.Labels.{Label}
use Rattle.labels.proofs.Clashes.{clash}
use Rattle.labels.proofs.Numbers.{Ltb, lt_yes, lt_no, ltb_view}
use Rattle.tables.specs.Claims.{LabelFits}
use Rattle.files.specs.Groups.{groups_of, NumberRead}
use Rattle.files.specs.Files.{entry_of, largest_word}
use Rattle.files.specs.FileReads.{OfBytes, take_number, EntryRead, no_entry, entry, with_value, with_bytes}
use Rattle.files.specs.FileReads.{take_entry}
use Rattle.files.proofs.FileNumbers.{bytes_after, NumberTaken, untaken, taken}
use Rattle.files.proofs.FileNumbers.{taken_view, take_groups}

-- Groups of a length, so many bytes and groups of a value are an entry.
entry_of_parts : (text rest after : List ℕ) (n value : ℕ) → length (take n rest) ≡ n → text ≡ groups_of n ++ rest
    → drop n rest ≡ groups_of value ++ after → text ≡ entry_of (take n rest) value ++ after
entry_of_parts text rest after n value long front back =
    rw (
      long,
      append_assoc (groups_of n) (take n rest ++ groups_of value) after,
      append_assoc (take n rest) (groups_of value) after,
      ← back,
      take-append-drop n rest,
    ) front

module _ (limits : Limits) where
  -- a label that is taken fits, its value is a word, and in bytes its entry stands in front
  pub data EntryTaken (text : List ℕ) : EntryRead → Type 0 where
    no_entry_taken : EntryTaken text no_entry
    entry_taken : (x : Label) (value : ℕ) (rest : List ℕ) → LabelFits limits x → value ≤ largest_word
        → (OfBytes text → text ≡ entry_of x value ++ rest) → EntryTaken text (entry x value rest)

  module _ (text : List ℕ) where
    -- Past its bytes a label is taken where its value is.
    entry_by_value : {r : NumberRead} (n : ℕ) (rest : List ℕ) → 1 ≤ n → n ≤ limits.width → n ≤ length rest
        → (OfBytes text → text ≡ groups_of n ++ rest) → NumberTaken 0 largest_word (drop n rest) r
        → EntryTaken text (with_value (take n rest) r)
    entry_by_value n rest some short room whole untaken = no_entry_taken
    entry_by_value n rest some short room whole (taken value after low word more) =
        let long = length-take-le n rest room in
        entry_taken (take n rest) value after (record { some = rw long some; short = rw long short }) word
        (λ bytes.
        entry_of_parts text rest after n value long (whole bytes)
        (more (bytes_after (take n rest) (drop n rest) (sym (take-append-drop n rest))
        (bytes_after (groups_of n) rest (whole bytes) bytes))))

    -- What taking a label with its value finds.
    pub entry_view : EntryTaken text (take_entry limits text)
    unfolding take_entry
    entry_view = by_length (taken_view 1 limits.width text)
      where
        by_room : {b : Bool} (n : ℕ) (rest : List ℕ) → 1 ≤ n → n ≤ limits.width
            → (OfBytes text → text ≡ groups_of n ++ rest) → Ltb (length rest) n b
            → EntryTaken text (cond b no_entry (with_value (take n rest) (take_number 0 largest_word (drop n rest))))
        by_room n rest some short whole (lt_yes cut) = no_entry_taken
        by_room n rest some short whole (lt_no room) =
            entry_by_value n rest some short room whole (taken_view 0 largest_word (drop n rest))

        by_length : {r : NumberRead} → NumberTaken 1 limits.width text r → EntryTaken text (with_bytes r)
        by_length untaken = no_entry_taken
        by_length (taken n rest some short whole) = by_room n rest some short whole (ltb_view (length rest) n)

  -- A label that is taken fits.
  pub entry_fits : (text : List ℕ) (x : Label) (value : ℕ) (rest : List ℕ)
      → take_entry limits text ≡ entry x value rest → LabelFits limits x
  entry_fits text x value rest is = by_view (entry_view text) is
    where
      by_view : {e : EntryRead} → EntryTaken text e → e ≡ entry x value rest → LabelFits limits x
      by_view no_entry_taken is = clash cc
      by_view (entry_taken y v after fits word whole) is =
          let same : y ≡ x = cc in
          rw (← same) fits

  -- From the entry of a label that fits and a word they are taken, whatever follows.
  pub take_entry_lem : (x : Label) (value : ℕ) (rest : List ℕ) → LabelFits limits x → value ≤ largest_word
      → take_entry limits (entry_of x value ++ rest) ≡ entry x value rest
  unfolding take_entry
  take_entry_lem x value rest fits word =
      let later = groups_of value ++ rest in
      rw (
        append_assoc (groups_of (length x)) (x ++ groups_of value) rest,
        append_assoc x (groups_of value) rest,
        take_groups 1 limits.width (length x) (x ++ later) fits.some fits.short,
        le-ltb (length (x ++ later)) (length x) (omega (arith, length-append x later)),
        take-append_seam x later,
        drop-append_seam x later,
        take_groups 0 largest_word value rest (omega arith) word,
      )
