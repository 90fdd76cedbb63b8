use Rattle.std.proofs.Common.{arith, ◌∙◌, List, ℕ, ap, subst, length, drop, ◌-◌}
use Rattle.std.proofs.lemmas.List.{take_all, length-drop}
use Rattle.texts.proofs.Digits.{digits_put}
use Rattle.texts.specs.Puts.{Puts}
use Rattle.texts.proofs.text.Text.put_digits.Goals as goal

pub returns : goal.returns
returns g c =
    let text : List ℕ = c.as_bytes-text.result.now in
    let at : ℕ = c.saturating_sub.result in
    let same = take_all (length text - at) (drop at text) (omega (arith, length-drop at text))
    ∙ ap (λ i. drop i text) c.saturating_sub.ensures in
    digits_put c.args.digits c.args.number (omega arith) (c.as_bytes-text.ensures.value ∙ c.format.ensures.text)
    (omega arith)
    (subst (λ b. Puts c.args.self.now b (length b) c.put.new.self) same c.put.ensures)
