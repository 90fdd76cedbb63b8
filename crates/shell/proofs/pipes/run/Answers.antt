-- What layout left is the fresh table, and what is written goes on from it.
use Rattle.std.proofs.Common.{◌≡◌, ℕ, List, [], length, refl, ◌∙◌}
use Rattle.types.specs.Sizes.{hub, table_length, store_length}
use Rattle.types.specs.Answers.{Answer}
use Rattle.tables.specs.Written.{lent}
use Rattle.tables.specs.Outcomes.{layout_outcome}
use Rattle.tables.specs.Given.{Gives}
use Rattle.inputs.specs.Inputs.{fresh}
use Rattle.inputs.proofs.Fresh.{layout_is_fresh}
use Rattle.shell.proofs.Writing.{prints_from_fresh}
use Rattle.shell.proofs.pipes.run.Goals as goal

laid : (table store words bytes : List ℕ) (answer : Answer) → length table ≡ table_length hub
    → length store ≡ store_length hub → Gives (layout_outcome hub table store) answer words bytes
    → lent words bytes ≡ fresh
laid table store words bytes answer table_is store_is gives =
    (λ i. record { table = gives.table i; store = gives.store i }) ∙ layout_is_fresh table store table_is store_is

pub returns : goal.returns
returns g c =
    let is = laid _ _ _ _ _ refl refl c.layout.ensures in
    prints_from_fresh _ _ _ _ _ (c.new-shell.ensures ∙ (λ i. record { memory = is i; line = [] })) c.answer_all.ensures
