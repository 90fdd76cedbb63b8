use Rattle.std.proofs.Common.{rules}
use Rattle.endings.proofs.FirstTests.{refused_delete, ready}
use Rattle.deletes.proofs.delete_within.Goals as goal

pub delete_ready-requires : goal.delete_ready-requires
delete_ready-requires c = ready _ _ _ _ c.requires _ c.first_refusal.ensures c.in_ok-first_refusal.was

pub returns-in_err-first_refusal : goal.returns-in_err-first_refusal
returns-in_err-first_refusal c = let refused = refused_delete _ _ _ _ _ _ c.first_refusal.ensures c.in_err-first_refusal.was in search rules
