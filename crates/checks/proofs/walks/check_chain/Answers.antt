use Rattle.checks.proofs.ChainLaws.{chain_done, chain_ended, chain_outside, chain_broken, chain_on}
use Rattle.checks.proofs.walks.check_chain.Goals as goal
use Rattle.checks.proofs.walks.check_chain.Goals.{then-slot-lt1-via-then-slot-lt1, then-slot-lt1-via-else-slot-lt1+then-high-slot}

pub returns-then-slot-lt1 : goal.returns-then-slot-lt1
returns-then-slot-lt1 c =
    elim c.then-slot-lt1.branch [
      | then-slot-lt1-via-then-slot-lt1 w ↦ search chain_ended
      | then-slot-lt1-via-else-slot-lt1+then-high-slot w ↦ search chain_outside
    ]

pub returns-then-not-freed_row : goal.returns-then-not-freed_row
returns-then-not-freed_row c = search chain_broken

pub loop-preserved : goal.loop-preserved
loop-preserved c = search chain_on

pub returns : goal.returns
returns c = search chain_done
