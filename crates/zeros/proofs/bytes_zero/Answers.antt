use Rattle.std.proofs.Common.{rules, arith, ◌∙◌, ap}
use Rattle.std.proofs.lemmas.Iterator.{YieldsList-from_slice}
use Rattle.std.proofs.lemmas.Iterator.Search.{all_from_yields_List}
use Rattle.std.specs.List.{list_all}
use borrow.Author.Tests.{tests}
use lib.Dec.{eqb}
use Rattle.tables.specs.Sound.{all_zero}
use Rattle.zeros.proofs.ZeroLaws.{list_all_zero, chunks_broken, last_decides}
use Rattle.zeros.proofs.bytes_zero.Goals as goal

pub returns-in_default : goal.returns-in_default
returns-in_default c =
    all_from_yields_List (λ n. eqb n 0) _ _ c.all.result c.all.ensures.ran (YieldsList-from_slice c.args.bytes.now cc)
    (λ x b q k. search (rules, tests))
    ∙ list_all_zero c.args.bytes.now

pub returns-then-blocks_zero : goal.returns-then-blocks_zero
returns-then-blocks_zero c =
    last_decides 8 c.args.bytes.now _ _ _ _ (omega arith) c.as_chunks.ensures.front c.blocks_zero.ensures
    c.if-blocks_zero.true c.in-Some.ensures.cases.1.same c.block_zero.ensures

pub returns-else-blocks_zero : goal.returns-else-blocks_zero
returns-else-blocks_zero c =
    c.if-blocks_zero.false
    ∙ chunks_broken 8 _ c.args.bytes.now _ (c.blocks_zero.ensures ∙ ap (list_all all_zero) c.as_chunks.ensures.front)
    c.if-blocks_zero.false

pub returns-then-blocks_zero-2 : goal.returns-then-blocks_zero-2
returns-then-blocks_zero-2 c =
    last_decides 16 c.args.bytes.now _ _ _ _ (omega arith) c.as_chunks-2.ensures.front c.blocks_zero-2.ensures
    c.if-blocks_zero-2.true c.in-Some-last_chunk.ensures.cases.1.same c.block_zero-then-blocks_zero-2.ensures

pub returns-else-blocks_zero-2 : goal.returns-else-blocks_zero-2
returns-else-blocks_zero-2 c =
    c.if-blocks_zero-2.false
    ∙ chunks_broken 16 _ c.args.bytes.now _ (c.blocks_zero-2.ensures ∙ ap (list_all all_zero) c.as_chunks-2.ensures.front)
    c.if-blocks_zero-2.false
