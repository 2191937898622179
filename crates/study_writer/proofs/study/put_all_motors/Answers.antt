-- `put_all_motors` meets its contract.
use Prim.Native.Nat.{ℕ, ◌+◌}
use lib.Ieee.{nan}
use lib.ListN.{get_or}
use Rattle.study_writer.specs.Text.{motor_lines}
use Rattle.study_writer.proofs.LinesLaws.{lines_then}
use Rattle.study_writer.proofs.study.put_all_motors.Goals as goal

pub returns : goal.returns
returns c = lines_then (motor_lines "x" (λ (k : ℕ). get_or c.args.s.now (c.args.o + k) nan) 17) _ c.put_motor-a.ensures (lines_then (motor_lines "y" (λ (k : ℕ). get_or c.args.s.now (c.args.o + k) nan) 23) _ c.put_motor-b.ensures c.put_motor.ensures)
