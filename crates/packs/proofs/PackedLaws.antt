-- What a packed answer says, by its cases.
-- `said_packed`: what is packed by the case that an answer is, is packed by the answer.
-- `refusal_packed`: a refusal is packed with its number, and with a record's or none.
use mathlib.Core.Path.{◌≡◌, sym, ap, ◌∙◌}
use Prim.Native.Nat.{ℕ}
use Rattle.types.specs.declared.Refusal.{Refusal}
use Rattle.types.specs.Answers.{refusal_number}
use Rattle.packs.specs.Packed.{parts}

-- What is packed by the case that an answer is, is packed by the answer.
pub said_packed : {A : Type 0} (packing : A → ℕ) (given : ℕ) (said case : A) → said ≡ case
    → given ≡ packing case → given ≡ packing said
said_packed packing given said case is packs = packs ∙ sym (ap packing is)

-- A refusal is packed with its number, and with a record's or none.
pub refusal_packed : (given : ℕ) (refusal : Refusal) (number n : ℕ) → number ≡ refusal_number refusal
    → given ≡ parts 0 0 0 number n → given ≡ parts 0 0 0 (refusal_number refusal) n
refusal_packed given refusal number n numbered packs = packs ∙ ap (λ (k : ℕ). parts 0 0 0 k n) numbered
