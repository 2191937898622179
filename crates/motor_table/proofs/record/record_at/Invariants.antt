-- `record_at` meets its contract: the loop keeps what is left of the record, which a turn of the scan leaves as it is.
use Rattle.std.proofs.Common.{◌≡◌, length, drop}
use Rattle.motor_table.specs.Records.{read_at}
use Rattle.motor_table.specs.Scan.{scan_from}
use Rattle.motor_table.proofs.record.record_at.Given as goal

abbrev pub invariant-loop-i : goal.invariant-loop-i
invariant-loop-i l = scan_from (length l.s) l.scan (drop l.i l.s) ≡ read_at l.s l.at
