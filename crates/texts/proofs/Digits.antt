-- The last digits that the library gives are those of a number: `digits_put`.
use mathlib.Core.Path.{◌≡◌, refl, ap, ◌∙◌}
use mathlib.Core.List.{List, [], ◌∷◌, ◌++◌}
use Prim.Native.Nat.{ℕ, zero, suc, ◌+◌, ◌-◌, ◌/◌, ◌%◌, ◌^◌, ◌≤◌, ◌<◌}
use native.Mathlib.Omega.{arith}
use borrow.Author.Tests.{lt-ltb, le-ltb}
use lib.ListN.{length, drop, length-append}
use Rattle.std.specs.Fmt as std
use Rattle.std.proofs.lemmas.Fmt.{decimal_by_steps}
use Rattle.std.proofs.lemmas.List.{drop-append-le, drop_all, length-drop}
use Rattle.texts.specs.Texts.{decimal_with}
use Rattle.texts.specs.Puts.{Puts}

-- the last bytes of a text, at most so many
abbrev last : ℕ → List ℕ → List ℕ
last most text = drop (length text - most) text

one_digit : (n : ℕ) → n < 10 → (k : ℕ) → last k ((48 + n) ∷ []) ≡ decimal_with k n
one_digit n small zero = refl
one_digit n small (suc k) =
    let none : 1 - suc k ≡ 0 = omega arith in
    ap (λ i. drop i ((48 + n) ∷ [])) none ∙ rw (lt-ltb n 10 small, decimal_with) refl

more_digits : (n : ℕ) (front : List ℕ) → 10 ≤ n → ((k : ℕ) → last k front ≡ decimal_with k (n / 10))
    → (k : ℕ) → last k (front ++ ((48 + n % 10) ∷ [])) ≡ decimal_with k n
more_digits n front large h zero = let text : List ℕ = front ++ ((48 + n % 10) ∷ []) in drop_all (length text - 0) text (omega arith)
more_digits n front large h (suc k) =
    let end : List ℕ = (48 + n % 10) ∷ [] in
    let from : length (front ++ end) - suc k ≡ length front - k = omega (arith, length-append front end) in
    ap (λ i. drop i (front ++ end)) from ∙ drop-append-le (length front - k) front end (omega arith)
    ∙ ap (λ b. b ++ end) (h k) ∙ rw (le-ltb n 10 large, decimal_with) refl

last_digits : (k n : ℕ) → n < 2 ^ 64 → last k (std.decimal n) ≡ decimal_with k n
last_digits k n small =
    decimal_by_steps (λ m ds. (j : ℕ) → last j ds ≡ decimal_with j m) one_digit more_digits n small k

-- the last digits that the library gives of an equal number are those of the number
pub digits_put : {before text after : List ℕ} {m : ℕ} (k n : ℕ) → n < 2 ^ 64 → text ≡ std.decimal m → m ≡ n
    → Puts before (last k text) (length (last k text)) after → Puts before (decimal_with k n) k after
digits_put {before} {text} k n small is same puts = record {
  text = puts.text ∙ ap (λ (b : List ℕ). before ++ b) (ap (last k) (is ∙ ap std.decimal same) ∙ last_digits k n small);
  room = omega (arith, puts.room, length-drop (length text - k) text);
}
