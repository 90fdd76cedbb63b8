use Rattle.nodechecks.proofs.RowLaws.{left_wraps, left_within, used_length, used_bytes, used_charge}
use Rattle.std.proofs.Common.{arith, sym, ◌∙◌}
use borrow.Author.Tests.{ltb-true}
use Rattle.nodechecks.proofs.used_row.Goals as goal
use Rattle.nodechecks.proofs.used_row.Goals.{then-rest-limits, else-rest-limits}

pub returns-then-part_zero : goal.returns-then-part_zero
returns-then-part_zero c =
    elim c.if-rest-limits.branch [
      | then-rest-limits w ↦
          let within = left_within _ c.args.row.len c.requires.width_bound (omega arith) w.if-rest-limits.true in
          used_charge _ _ _ _ _ _ within.0 within.1 w.part_zero.ensures (sym w.value-is ∙ c.if-part_zero.true)
          c.charge_passes.ensures
      | else-rest-limits w ↦ absurd (omega (arith, ltb-true _ _ (sym w.value-is ∙ c.if-part_zero.true)))
    ]

pub returns-else-part_zero : goal.returns-else-part_zero
returns-else-part_zero c =
    c.if-part_zero.false
    ∙ elim c.if-rest-limits.branch [
      | then-rest-limits w ↦
          let within = left_within _ c.args.row.len c.requires.width_bound (omega arith) w.if-rest-limits.true in
          used_bytes _ _ _ _ _ within.0 within.1 w.part_zero.ensures (sym w.value-is ∙ c.if-part_zero.false)
      | else-rest-limits w ↦
          let wraps = left_wraps _ c.args.row.len c.requires.width_bound (omega arith) in
          used_length _ _ _ _ _ wraps (omega arith) w.if-rest-limits.false
    ]
