use Prim.Native.Nat.{ℕ}
use mathlib.Core.Path.{◌≡◌, ap, ◌∙◌}
use native.Mathlib.Omega.{arith}
use lib.ListN.{length}
use Rattle.study_writer.specs.Text.{lines_text, joints_from}
use Rattle.texts.proofs.SinkLaws.{appended-text, put-length}
use Rattle.study_writer.proofs.LinesLaws.{items-none, items-turn}
use Rattle.study_writer.proofs.study.put_joints.Goals as goal

pub loop-j-init : goal.loop-j-init
loop-j-init c = (omega arith, items-none _ _ _)

pub loop-j-preserved : goal.loop-j-preserved
loop-j-preserved c = (omega arith, items-turn _ _ _ _ c.loop-j.invariant.1 c.put_joint-end.ensures)

pub shape_of-out : goal.shape_of-out
shape_of-out c = ap length c.loop-j.invariant.1.holds ∙ put-length _ _ _

pub returns : goal.returns
returns c = let e : c.loop-j.j ≡ c.args.n = omega arith in appended-text (ap (λ (k : ℕ). lines_text (joints_from c.args.words.now c.args.s.now 0 k)) e) c.loop-j.invariant.1
