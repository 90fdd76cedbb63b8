use Rattle.std.proofs.Common.{rules}
use Rattle.charges.proofs.FirstTests.{refused_charge, charge_ready}
use Rattle.charges.proofs.charge_within.Goals as goal

pub charge_ready-requires : goal.charge_ready-requires
charge_ready-requires c = let both = charge_ready _ _ _ _ _ c.requires _ c.first_refusal.ensures c.in_ok-first_refusal.was in record { ready = both.0; charge_value = both.1 }

pub returns-in_err-first_refusal : goal.returns-in_err-first_refusal
returns-in_err-first_refusal c = let refused = refused_charge _ _ _ _ _ _ _ c.first_refusal.ensures c.in_err-first_refusal.was in search rules
