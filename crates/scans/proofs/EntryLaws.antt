-- An entry read at a position of a file: its length, its bytes and its value in turn.
-- `length_broken`, `bytes_cut`, `value_broken`, `entry_read`: what is read, by the parts.
use mathlib.Core.List.{List}
use mathlib.Core.Path.{◌≡◌, sym, ap, ◌∙◌}
use Prim.Native.Nat.{ℕ, ◌+◌, ◌-◌, ◌≤◌, ◌<◌}
use native.Mathlib.Omega.{arith}
use lib.ListN.{length, take, drop, length-drop}
use lib.Seq.{drop-drop}
use borrow.Author.Tests.{lt-ltb, le-ltb}
use Rattle.std.specs.Prelude.{Option, Some, None}
use Rattle.types.specs.declared.Limits.{Limits}
use Rattle.files.specs.Groups.{number}
use Rattle.files.specs.FileReads.{no_entry, entry, with_value, with_bytes, take_number, take_entry}
use Rattle.scans.specs.declared.Number.{Number}
use Rattle.scans.specs.Scanned.{number_says, part_of}

module _ (limits : Limits) (file : List ℕ) (at : ℕ) (read : Option Number)
    (says : number_says file read ≡ take_number 1 limits.width (drop at file)) where
  -- What is read, by the length.
  by_length : take_entry limits (drop at file) ≡ with_bytes (number_says file read)
  unfolding take_entry
  by_length = ap with_bytes (sym says)

  -- Without a length there is no entry.
  pub length_broken : read ≡ None → no_entry ≡ take_entry limits (drop at file)
  length_broken is = sym (by_length ∙ ap (λ (s : Option Number). with_bytes (number_says file s)) is)

  module _ (size : Number) (is : read ≡ Some size) where
    abbrev past : List ℕ
    past = drop size.next file

    by_bytes : take_entry limits (drop at file) ≡ with_bytes (number size.n past)
    by_bytes = by_length ∙ ap (λ (s : Option Number). with_bytes (number_says file s)) is

    -- Without so many bytes there is no entry.
    pub bytes_cut : length file - size.next < size.n → no_entry ≡ take_entry limits (drop at file)
    bytes_cut short =
        let fewer : length past < size.n = rw (length-drop size.next file) short in
        sym (by_bytes ∙ rw (lt-ltb (length past) size.n fewer))

    module _ (room : size.n ≤ length file - size.next) (valued : Option Number)
        (value_says_lem : number_says file valued ≡ take_number 0 65535 (drop (size.next + size.n) file)) where
      by_value : take_entry limits (drop at file) ≡ with_value (take size.n past) (number_says file valued)
      by_value =
          let enough : size.n ≤ length past = rw (length-drop size.next file) room in
          by_bytes
          ∙ rw (le-ltb (length past) size.n enough, drop-drop size.n size.next file)
          (ap (with_value (take size.n past)) (sym value_says_lem))

      -- Without a value there is no entry.
      pub value_broken : valued ≡ None → no_entry ≡ take_entry limits (drop at file)
      value_broken broken =
          sym (by_value ∙ ap (λ (v : Option Number). with_value (take size.n past) (number_says file v)) broken)

      -- With all three it is read.
      pub entry_read : (value : Number) → valued ≡ Some value
          → entry (part_of file size.next (size.next + size.n)) value.n (drop value.next file)
          ≡ take_entry limits (drop at file)
      entry_read value is_value =
          let bytes : size.next + size.n - size.next ≡ size.n = omega arith in
          rw bytes
          (sym (by_value ∙ ap (λ (v : Option Number). with_value (take size.n past) (number_says file v)) is_value))
