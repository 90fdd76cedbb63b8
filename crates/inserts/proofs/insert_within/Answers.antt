use Rattle.std.proofs.Common.{rules}
use Rattle.endings.proofs.FirstTests.{refused_insert, ready}
use Rattle.inserts.proofs.insert_within.Goals as goal

pub insert_ready-requires : goal.insert_ready-requires
insert_ready-requires c = ready _ _ _ _ c.requires _ c.first_refusal.ensures c.in_ok-first_refusal.was

pub returns-in_err-first_refusal : goal.returns-in_err-first_refusal
returns-in_err-first_refusal c = let refused = refused_insert _ _ _ _ c.args.value _ _ c.first_refusal.ensures c.in_err-first_refusal.was in search rules
