-- `put_bodies` meets its contract: after i bodies, their lines are written.
use Prim.Native.Nat.{◌≤◌}
use Rattle.study_writer.specs.Text.{lines_text, bodies_from}
use Rattle.texts.specs.Sink.{Appended}
use Rattle.study_writer.proofs.study.put_bodies.Given as goal

abbrev pub invariant-loop-i : goal.invariant-loop-i
invariant-loop-i l = (l.i ≤ l.n) × Appended l.initial.out l.at (lines_text (bodies_from l.bodies 0 l.i)) l.out l.end
