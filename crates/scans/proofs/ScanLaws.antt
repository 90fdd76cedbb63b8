-- A scan of entries, one after the other.
-- `Scans`: what is left to read decides the whole. `scan_begins`, `scan_goes_on`: the entries in turn.
-- `scan_broken`, `scan_not_above`, `scan_over`, `scan_ends`: where it ends.
use mathlib.Core.Bool.{Bool, true, false}
use mathlib.Core.List.{List, []}
use mathlib.Core.Path.{◌≡◌, refl, sym, ap, ◌∙◌}
use Prim.Native.Nat.{ℕ, suc, ◌≤◌, ◌<◌}
use native.Mathlib.Omega.{arith}
use lib.ListN.{length, drop, drop_of_length-le}
use lib.Seq.{drop-cons}
use Rattle.std.specs.Prelude.{Option, Some, None, Result, Err}
use Rattle.std.specs.Option.{ok_or}
use Rattle.types.specs.declared.Limits.{Limits}
use Rattle.types.specs.declared.Refusal.{Refusal}
use Rattle.types.specs.declared.Refusal.TheVariants.{BrokenFile}
use Rattle.types.specs.Answers.{refusal_number}
use Rattle.labels.specs.Labels.{Label, compare_labels}
use Rattle.labels.proofs.Clashes.{clash}
use Rattle.trees.specs.Map.{Pair}
use Rattle.trees.specs.Valid.{is_smaller}
use Rattle.tables.specs.Outcomes.{Verdict, pass, refuse}
use Rattle.files.specs.FileReads.{EntryRead, FileRead, refused_by, holds, with_pair, filed, entry_then}
use Rattle.files.specs.FileReads.{at_end, take_entry, take_entries}
use Rattle.scans.specs.declared.Entry.{Entry}
use Rattle.scans.specs.Scanned.{label_of, entry_says, verdict_of}

-- what is left of a file, after a label, decides the whole
pub record Scans (limits : Limits) (file : List ℕ) (whole : Verdict) (remaining next : ℕ) (before : Label) : Type 0 where
  pub decides : verdict_of (take_entries limits remaining before (drop next file)) ≡ whole

-- One pair more does not change whether a file can be loaded.
verdict_with_pair : (p : Pair) (r : FileRead) → verdict_of (with_pair p r) ≡ verdict_of r
verdict_with_pair p (refused_by why) = refl
verdict_with_pair p (holds more) = refl

-- At first all is left to read.
pub scan_begins : (limits : Limits) (file : List ℕ) (at count : ℕ)
    → Scans limits file (verdict_of (take_entries limits count [] (drop at file))) count at []
scan_begins limits file at count = record { decides = refl }

module _ (limits : Limits) (file : List ℕ) (whole : Verdict) (remaining next : ℕ) (before : Label)
    (scans : Scans limits file whole remaining next before) where
  -- ---- an entry more

  module _ (n : ℕ) (one_more : remaining ≡ suc n) (read : Option Entry)
      (says : entry_says file read ≡ take_entry limits (drop next file)) where
    -- The entry and what is left past it decide the whole.
    entry_decides : (found : Option Entry) → read ≡ found
        → verdict_of (entry_then (entry_says file found) before (λ x rest. take_entries limits n x rest)) ≡ whole
    unfolding take_entries
    entry_decides found is =
        ap (λ (r : EntryRead). verdict_of (entry_then r before (λ x rest. take_entries limits n x rest)))
        (ap (entry_says file) (sym is) ∙ says)
        ∙ rw one_more at scans.decides

    -- Where there is none, the file is refused by 18.
    pub scan_broken : (tested : Result Entry Refusal) (r : Refusal) → tested ≡ ok_or read BrokenFile → tested ≡ Err r
        → refuse (refusal_number r) ≡ whole
    scan_broken tested r is fails = go read refl (sym is ∙ fails)
      where
        go : (found : Option Entry) → read ≡ found → ok_or found BrokenFile ≡ Err r → refuse (refusal_number r) ≡ whole
        go None none same = let broken : r ≡ BrokenFile = cc in rw broken (entry_decides None none)
        go (Some e) one same = clash cc

    module _ (e : Entry) (is : read ≡ Some e) where
      -- What is left past the entry.
      abbrev past : FileRead
      past = take_entries limits n (label_of file e) (drop e.next file)

      by_order : (smaller : Bool) → smaller ≡ is_smaller (compare_labels before (label_of file e))
          → verdict_of (elim smaller [ true ↦ with_pair (filed (label_of file e) e.value) past | false ↦ refused_by 19 ])
          ≡ whole
      by_order smaller same = rw same (entry_decides (Some e) is)

      -- A label that is not above the one before is refused by 19.
      pub scan_not_above : false ≡ is_smaller (compare_labels before (label_of file e)) → refuse 19 ≡ whole
      scan_not_above not_above = by_order false not_above

      -- Past any other the rest decides.
      pub scan_goes_on : true ≡ is_smaller (compare_labels before (label_of file e))
          → Scans limits file whole n e.next (label_of file e)
      scan_goes_on above =
          record { decides = sym (verdict_with_pair (filed (label_of file e) e.value) past) ∙ by_order true above }

  -- ---- the end

  module _ (none : remaining ≤ 0) where
    at_the_end : (n : ℕ) → remaining ≡ n → n ≡ 0 → verdict_of (at_end (drop next file)) ≡ whole
    unfolding take_entries
    at_the_end n is zero_left = rw (is ∙ zero_left) at scans.decides

    -- Bytes after the last label are refused by 20.
    pub scan_over : next < length file → refuse 20 ≡ whole
    scan_over further =
        ap (λ (text : List ℕ). verdict_of (at_end text)) (sym (drop-cons file next 0 further))
        ∙ at_the_end remaining refl (omega arith)

    -- Else the file can be loaded.
    pub scan_ends : length file ≤ next → pass ≡ whole
    scan_ends over =
        ap (λ (text : List ℕ). verdict_of (at_end text)) (sym (drop_of_length-le file over))
        ∙ at_the_end remaining refl (omega arith)
