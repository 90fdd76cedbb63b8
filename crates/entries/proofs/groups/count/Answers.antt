use Prim.Native.Nat.{◌/◌}
use native.Mathlib.Omega.{arith}
use Rattle.files.proofs.GroupLaws.{count_of_lower, count_of_last, groups_few, some_group}
use Rattle.entries.proofs.groups.count.Goals as goal

pub overflow_add-groups : goal.overflow_add-groups
overflow_add-groups c = let above = c.loop-above.above in
    let few = groups_few c.args.n in
    omega (arith, count_of_lower above (omega arith), some_group (above / 128))

pub loop-above-preserved : goal.loop-above-preserved
loop-above-preserved c = omega (arith, count_of_lower c.loop-above.above (omega arith))

pub returns : goal.returns
returns c = omega (arith, count_of_last c.loop-above.above (omega arith))
