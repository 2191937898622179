-- `set_table` meets its contract: the loop keeps what the rest of the table sets as what the whole of it sets, and meets good records alone.
use Prim.Native.Nat.{◌≤◌, ◌-◌}
use mathlib.Core.Path.{◌≡◌}
use lib.ListN.{length, drop}
use Rattle.motor_table.specs.Tables.{most_records, read_from, read_table, table_answer}
use Rattle.std.specs.Prelude.{Ok}
use Rattle.model.specs.MotorTargets.{set_table}
use Rattle.model.proofs.targets.set_table.Given as goal

abbrev pub invariant-loop-i : goal.invariant-loop-i
invariant-loop-i l =
    (l.i ≤ most_records) × (length l.numbers ≡ length l.initial.numbers)
    × (table_answer l.i (read_from l.joints (most_records - l.i) (drop l.at l.text)) ≡ Ok l.n)
    × (set_table l.numbers (read_from l.joints (most_records - l.i) (drop l.at l.text)) ≡ set_table l.initial.numbers (read_table l.joints l.text))
