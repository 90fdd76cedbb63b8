-- A field by the quote at its start.
--     escaped_taken    after a quote a field is escaped
--     bare_taken       elsewhere it is not
use Rattle.std.proofs.Common.{◌≡◌, refl, List, [], ◌∷◌, ℕ, ◌-◌, ◌≤◌, ◌<◌, length, get_or, take, drop, arith}
use Rattle.std.proofs.lemmas.List.{take_all}
use borrow.Author.Tests.{ne_eqb}
use Rattle.rfc4180.specs.Records.{bare_field, quoted_field, take_field}

-- after a quote a field is escaped
pub escaped_taken : (text : List ℕ) → 1 ≤ length text → get_or text 0 0 ≡ 34
    → quoted_field (take (length text - 1) (drop 1 text)) ≡ take_field text
unfolding take_field
escaped_taken [] one quote = absurd (omega arith)
escaped_taken (byte ∷ more) one quote = rw (take_all (length (byte ∷ more) - 1) more (omega arith), quote)

-- elsewhere it is not
pub bare_taken : (text : List ℕ) → (get_or text 0 0 ≡ 34 → ⊥) → bare_field text ≡ take_field text
unfolding bare_field take_field
bare_taken [] other = refl
bare_taken (byte ∷ more) other = rw (ne_eqb byte 34 other, take_field)

-- and not where there is nothing
pub nothing_taken : (text : List ℕ) → length text < 1 → bare_field text ≡ take_field text
unfolding bare_field take_field
nothing_taken [] none = refl
nothing_taken (byte ∷ more) none = absurd (omega arith)

-- what `take` needs
pub ruleset field_laws = (escaped_taken, bare_taken, nothing_taken)
