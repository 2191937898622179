-- `put_joints` meets its contract: after j joints, their lines are written.
use Prim.Native.Nat.{◌≤◌}
use Rattle.study_writer.specs.Text.{lines_text, joints_from}
use Rattle.texts.specs.Sink.{Appended}
use Rattle.study_writer.proofs.study.put_joints.Given as goal

abbrev pub invariant-loop-j : goal.invariant-loop-j
invariant-loop-j l = (l.j ≤ l.n) × Appended l.initial.out l.at (lines_text (joints_from l.words l.s 0 l.j)) l.out l.end
