-- What an answer says of the lines of refusals before it.
-- `done_passed`: an answer that is done has passed them.
-- `part_passed`, `part_refused`: the part and its start by a verdict that passed, and by one that refused.
use mathlib.Core.List.{List, []}
use mathlib.Core.Path.{◌≡◌, refl, sym}
use Prim.Native.Nat.{ℕ}
use Rattle.types.specs.Answers.{done, refused}
use Rattle.tables.specs.Outcomes.{Verdict, pass, refuse, answer_by, part_by}
use Rattle.views.specs.Parts.{start_by}
use Rattle.labels.proofs.Clashes.{clash}

-- no refusal is done
done_not_refused : (number : ℕ) → done ≡ refused number → ⊥
done_not_refused number e = clash cc

-- where the answer is done, the lines pass
pub done_passed : (v : Verdict) → done ≡ answer_by v done → pass ≡ v
done_passed pass e = refl
done_passed (refuse number) e = absurd (done_not_refused number e)

module _ (part : List ℕ) (start : ℕ) where
  -- where the answer is done, the part is the label's, at its start
  pub part_passed : (v : Verdict) → done ≡ answer_by v done → (part_by v part ≡ part) × (start_by v start ≡ start)
  part_passed pass e = (refl, refl)
  part_passed (refuse number) e = absurd (done_not_refused number e)

  -- where the answer is a refusal, the part is empty, at the store's start
  pub part_refused : (v : Verdict) (number : ℕ) → refused number ≡ answer_by v done
      → (part_by v part ≡ []) × (start_by v start ≡ 0)
  part_refused pass number e = absurd (done_not_refused number (sym e))
  part_refused (refuse other) number e = (refl, refl)
