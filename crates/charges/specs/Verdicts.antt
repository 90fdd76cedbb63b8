-- The lines of the table of refusals before a charge is set (M-109 of document 02).
use Rattle.std.specs.Prelude.{List, ℕ}
use Rattle.types.specs.declared.Limits.{Limits}
use Rattle.labels.specs.Labels.{Label}
use Rattle.trees.specs.Plain as plain
use Rattle.tables.specs.Outcomes.{Verdict, pass, of_memory, of_label, of_charge, of_table}

-- lent memory, label, charge, then soundness
unfoldable pub charge_verdict : Limits → (table store : List ℕ) → Label → ℕ → Verdict
charge_verdict limits table store x charge =
    of_memory limits table store
    (of_label limits x (of_charge (plain.set_charge x charge) (of_table limits table store pass)))
