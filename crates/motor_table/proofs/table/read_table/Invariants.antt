-- `read_table` meets its contract: the loop keeps the answer of the whole, as that of what is left with the records before it counted.
use Rattle.std.proofs.Common.{◌≡◌, ◌-◌, ◌≤◌, drop}
use Rattle.motor_table.specs.Tables.{most_records, read_from, read_table, table_answer}
use Rattle.motor_table.proofs.table.read_table.Given as goal

abbrev pub invariant-loop-at : goal.invariant-loop-at
invariant-loop-at l = (l.count ≤ most_records) × (table_answer l.count (read_from l.joints (most_records - l.count) (drop l.at l.s)) ≡ table_answer 0 (read_table l.joints l.s))

abbrev pub decreases-loop-at : goal.decreases-loop-at
decreases-loop-at l = most_records - l.count
