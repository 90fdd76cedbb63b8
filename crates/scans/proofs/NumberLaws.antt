-- A number read at a position of a file, group by group.
-- `broken_at_end`: none at the file's end. `last_broken`, `last_read`: one group. `few_broken`, `cut_broken`,
-- `needless_broken`, `over_broken`, `whole_read`: more groups, by what is read after the first.
-- `read_low`, `read_high`: a number that is read is within its limits.
-- `low_broken`, `lowest_broken`, `lowest_read`: with a lowest number besides.
use mathlib.Core.List.{List, ◌∷◌}
use mathlib.Core.Path.{◌≡◌, sym, ap, ◌∙◌}
use Prim.Native.Nat.{ℕ, ◌+◌, ◌-◌, ◌*◌, ◌/◌, ◌≤◌, ◌<◌}
use native.Mathlib.Numerals.{add-one}
use lib.ListN.{length, get_or, drop, drop_of_length-le}
use lib.Seq.{drop-cons}
use Rattle.std.specs.Prelude.{Option, Some, None}
use Rattle.files.specs.Groups.{no_number, number}
use Rattle.files.specs.FileReads.{take_number}
use Rattle.files.proofs.NumberReads.{takes_of, none_at_end, take_none_within, take_above_lowest, take_below_lowest}
use Rattle.files.proofs.GroupReads.{last_taken, last_beyond, lower_taken, lower_beyond, lower_cut}
use Rattle.files.proofs.GroupReads.{lower_needless, lower_over}
use Rattle.scans.specs.declared.Number.{Number}
use Rattle.scans.specs.Scanned.{number_says}

module _ (file : List ℕ) (at highest : ℕ) where
  -- There is no number at the file's end.
  pub broken_at_end : length file ≤ at → no_number ≡ take_number 0 highest (drop at file)
  broken_at_end over = rw (drop_of_length-le file over) (sym (none_at_end 0 highest))

  module _ (inside : at < length file) where
    -- The byte at a position, and the bytes after it.
    byte_first : drop at file ≡ get_or file at 0 ∷ drop (at + 1) file
    byte_first = rw add-one (drop-cons file at 0 inside)

    module _ (small : get_or file at 0 < 128) where
      pub last_broken : highest < get_or file at 0 → no_number ≡ take_number 0 highest (drop at file)
      last_broken beyond = rw byte_first (sym (last_beyond highest (get_or file at 0) (drop (at + 1) file) small beyond))

      pub last_read : get_or file at 0 ≤ highest
          → number (get_or file at 0) (drop (at + 1) file) ≡ take_number 0 highest (drop at file)
      last_read high = rw byte_first (sym (last_taken highest (get_or file at 0) (drop (at + 1) file) small high))

    module _ (large : 128 ≤ get_or file at 0) (is_byte_lem : get_or file at 0 < 256) where
      pub few_broken : highest < 128 → no_number ≡ take_number 0 highest (drop at file)
      few_broken few =
          rw byte_first (sym (lower_beyond highest (get_or file at 0) (drop (at + 1) file) large is_byte_lem few))

      module _ (upper : Option Number)
          (says : number_says file upper ≡ take_number 0 (highest / 128) (drop (at + 1) file)) where
        pub cut_broken : upper ≡ None → no_number ≡ take_number 0 highest (drop at file)
        cut_broken is =
            rw byte_first
            (sym (lower_cut highest (get_or file at 0) (drop (at + 1) file) large is_byte_lem
            (sym says ∙ ap (number_says file) is)))

        module _ (v : Number) (is : upper ≡ Some v) where
          -- What is read after the first group.
          above_first : take_number 0 (highest / 128) (drop (at + 1) file) ≡ number v.n (drop v.next file)
          above_first = sym says ∙ ap (number_says file) is

          pub needless_broken : v.n < 1 → no_number ≡ take_number 0 highest (drop at file)
          needless_broken none =
              rw byte_first
              (sym (lower_needless highest (get_or file at 0) (drop (at + 1) file) large is_byte_lem v.n (drop v.next file)
              above_first none))

          pub over_broken : highest < 128 * v.n + (get_or file at 0 - 128)
              → no_number ≡ take_number 0 highest (drop at file)
          over_broken beyond =
              rw byte_first
              (sym (lower_over highest (get_or file at 0) (drop (at + 1) file) large is_byte_lem v.n (drop v.next file)
              above_first beyond))

          pub whole_read : 1 ≤ v.n → 128 * v.n + (get_or file at 0 - 128) ≤ highest
              → number (128 * v.n + (get_or file at 0 - 128)) (drop v.next file) ≡ take_number 0 highest (drop at file)
          whole_read some high =
              rw byte_first
              (sym (lower_taken highest (get_or file at 0) (drop (at + 1) file) large is_byte_lem v.n (drop v.next file)
              above_first some high))

-- A number that is read is within its limit.
module _ (file : List ℕ) (at lowest highest : ℕ) (found : Option Number)
    (says : number_says file found ≡ take_number lowest highest (drop at file))
    (v : Number) (is : found ≡ Some v) where
  pub read_low : lowest ≤ v.n
  read_low = (takes_of lowest highest (drop at file) v.n (drop v.next file) (sym says ∙ ap (number_says file) is)).low

  pub read_high : v.n ≤ highest
  read_high = (takes_of lowest highest (drop at file) v.n (drop v.next file) (sym says ∙ ap (number_says file) is)).high

-- With a lowest number besides.
module _ (file : List ℕ) (at lowest highest : ℕ) (found : Option Number)
    (says : number_says file found ≡ take_number 0 highest (drop at file)) where
  pub low_broken : found ≡ None → no_number ≡ take_number lowest highest (drop at file)
  low_broken is = sym (take_none_within lowest highest (drop at file) (sym says ∙ ap (number_says file) is))

  module _ (v : Number) (is : found ≡ Some v) where
    pub lowest_broken : v.n < lowest → no_number ≡ take_number lowest highest (drop at file)
    lowest_broken below =
        sym (take_below_lowest lowest highest (drop at file) v.n (drop v.next file)
        (sym says ∙ ap (number_says file) is) below)

    pub lowest_read : lowest ≤ v.n → number v.n (drop v.next file) ≡ take_number lowest highest (drop at file)
    lowest_read low =
        sym (take_above_lowest lowest highest (drop at file) v.n (drop v.next file)
        (sym says ∙ ap (number_says file) is) low)
