-- `table_refusal` meets its contract: the refusal of the whole is that of what is left.
use Rattle.std.proofs.Common.{◌≡◌, ◌-◌, ◌≤◌}
use Rattle.motor_table.specs.Tables.{most_records}
use Rattle.motor_table.specs.Text.{entries_from, entries_of, records_in, granting, table_of, refusal_in}
use Rattle.motor_table.proofs.text.table_refusal.Given as goal

abbrev pub invariant-loop-k : goal.invariant-loop-k
invariant-loop-k l = (l.k ≤ most_records) × (refusal_in (granting l.joints (most_records - l.k) (entries_from l.table l.k (records_in l.table - l.k))) ≡ refusal_in (table_of l.joints (entries_of l.table)))
