-- What a call answers, in the numbers of document 01 ('Updates' and 'Where each call turns away').
use Rattle.std.specs.Prelude.{ℕ, Result, Ok, Err}
use Rattle.types.specs.declared.Refusal.{Refusal}
use Rattle.types.specs.declared.Refusal.TheVariants.{WrongTable, WrongStore, LongText, BrokenFile}
use Rattle.types.specs.declared.Refusal.TheVariants.{NotAscending, BytesAfter, BrokenRecord, EmptyLabel}
use Rattle.types.specs.declared.Refusal.TheVariants.{LongLabel, WrongCharge, WrongSlot, BrokenWalk, NotSound}
use Rattle.types.specs.declared.Refusal.TheVariants.{AlreadyHeld, NotHeld, Full, ShortList, ShortOutput}
use Rattle.types.specs.declared.Searched.{Searched}
use Rattle.types.specs.declared.Searched.TheVariants.{Found, Absent}
use Rattle.types.specs.declared.Updated.{Updated}

-- "A search answer is one of found with slot, value and both counts, absent with both counts, or a refusal; a delete or
-- insert gives the slot and its search's counts"; layout, the check and the view's first call "answer only that they
-- are done"; a listing "gives their number". With absent go "the slots of the nearest smaller and nearest larger held
-- labels, 0 for none" (M-107 of document 02). The call that sets a charge "answers as delete does" (M-109).
pub data Answer : Type 0 where
  found : (slot value visits places : ℕ) → Answer
  absent : (below above visits places : ℕ) → Answer
  updated : (slot visits places : ℕ) → Answer
  listed : (count : ℕ) → Answer
  done : Answer
  refused : (number : ℕ) → Answer

-- the column 'No.' of the table of refusals; M-100's "12, text above 16,384 bytes" and "13, a record that breaks RFC
-- 4180's grammar .., has not exactly two fields, or whose value is not a decimal"; M-105's "17, output shorter than the
-- file"; M-109's "24, a charge neither 0 to 100 nor 255"; M-110's "18, a number that is cut short, has needless groups
-- or is outside its limit, or a label that is cut short", "19, a label not above the one before it" and "20, bytes
-- after the last label"
abbrev pub refusal_number : Refusal → ℕ
refusal_number WrongTable = 1
refusal_number WrongStore = 2
refusal_number EmptyLabel = 3
refusal_number LongLabel = 4
refusal_number BrokenWalk = 5
refusal_number NotSound = 6
refusal_number AlreadyHeld = 7
refusal_number NotHeld = 8
refusal_number Full = 9
refusal_number ShortList = 10
refusal_number WrongSlot = 11
refusal_number LongText = 12
refusal_number BrokenRecord = 13
refusal_number ShortOutput = 17
refusal_number BrokenFile = 18
refusal_number NotAscending = 19
refusal_number BytesAfter = 20
refusal_number WrongCharge = 24

abbrev pub search_says : Result Searched Refusal → Answer
search_says (Ok (Found slot value visits places)) = found slot value visits places
search_says (Ok (Absent below above visits places)) = absent below above visits places
search_says (Err r) = refused (refusal_number r)

abbrev pub update_says : Result Updated Refusal → Answer
update_says (Ok u) = updated u.slot u.visits u.places
update_says (Err r) = refused (refusal_number r)

abbrev pub done_says : Result Unit Refusal → Answer
done_says (Ok _) = done
done_says (Err r) = refused (refusal_number r)

abbrev pub list_says : Result ℕ Refusal → Answer
list_says (Ok count) = listed count
list_says (Err r) = refused (refusal_number r)
