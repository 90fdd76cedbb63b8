-- The lines of the table of refusals that come before a call uses the tree.
use Rattle.std.specs.Prelude.{List, ℕ}
use Rattle.types.specs.declared.Limits.{Limits}
use Rattle.labels.specs.Labels.{Label}
use Rattle.tables.specs.Outcomes.{Verdict, pass, of_memory, of_label, of_table}

-- for calls that test the whole table: lent memory, then soundness
abbrev pub of_whole : Limits → (table store : List ℕ) → Verdict → Verdict
of_whole limits table store below = of_memory limits table store (of_table limits table store below)

-- for insert and delete, before the map: lent memory, label, then soundness
unfoldable pub update_verdict : Limits → (table store : List ℕ) → Label → Verdict
update_verdict limits table store x = of_memory limits table store (of_label limits x (of_table limits table store pass))
