-- `walks::check_chain` meets its contract.
-- The loop's invariant: what is left of the chain is as the whole of it.
use Prim.Native.Nat.{◌-◌}
use mathlib.Core.Path.{◌≡◌}
use Rattle.checks.specs.Check.{check_chain}
use Rattle.checks.proofs.walks.check_chain.Given as goal

abbrev pub invariant-loop : goal.invariant-loop
invariant-loop l = check_chain l.limits l.table l.store (l.count - l.counter) l.slot ≡ check_chain l.limits l.table l.store l.count l.link
