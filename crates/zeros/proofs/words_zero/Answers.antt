use Rattle.std.proofs.Common.{◌≡◌, length, ◌/◌, rules, ◌∙◌, ap}
use Rattle.std.proofs.lemmas.Iterator.{YieldsList-from_slice}
use Rattle.std.proofs.lemmas.Iterator.Search.{all_from_yields_List}
use Rattle.std.specs.List.{list_all}
use Rattle.std.specs.Simd.{first_chunks}
use borrow.Author.Tests.{tests}
use lib.Dec.{eqb}
use Rattle.tables.specs.Sound.{all_zero}
use Rattle.zeros.proofs.ZeroLaws.{list_all_zero, chunks_broken, chunks_passed}
use Rattle.zeros.proofs.words_zero.Goals as goal
use Rattle.zeros.proofs.words_zero.Goals.{After-all}

rows_tested : (c : After-all)
    → c.all.result ≡ list_all all_zero (first_chunks 8 (length c.args.words.now / 8) c.args.words.now)
rows_tested c =
    all_from_yields_List all_zero _ _ c.all.result c.all.ensures.ran
    (YieldsList-from_slice c.as_chunks.result.0.now cc) (λ x b q k. search (rules, tests))
    ∙ ap (list_all all_zero) c.as_chunks.ensures.front

pub returns-then-all : goal.returns-then-all
returns-then-all c =
    all_from_yields_List (λ n. eqb n 0) _ _ c.all-then-all.result c.all-then-all.ensures.ran
    (YieldsList-from_slice c.as_chunks.result.1.now cc) (λ x b q k. search (rules, tests))
    ∙ list_all_zero c.as_chunks.result.1.now
    ∙ ap all_zero c.as_chunks.ensures.back
    ∙ chunks_passed 8 _ c.args.words.now c.all.result (rows_tested (goal.at.returns-then-all c).After-all) c.if-all.true

pub returns-else-all : goal.returns-else-all
returns-else-all c =
    c.if-all.false
    ∙ chunks_broken 8 _ c.args.words.now c.all.result (rows_tested (goal.at.returns-else-all c).After-all) c.if-all.false
