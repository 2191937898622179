use Prim.Native.Nat.{ℕ}
use mathlib.Core.Path.{◌≡◌, ap, ◌∙◌}
use native.Mathlib.Omega.{arith}
use lib.ListN.{length}
use Rattle.study_writer.specs.Text.{lines_text, bodies_from}
use Rattle.texts.proofs.SinkLaws.{appended-text, put-length}
use Rattle.study_writer.proofs.LinesLaws.{items-none, items-turn}
use Rattle.study_writer.proofs.study.put_bodies.Goals as goal

pub loop-i-init : goal.loop-i-init
loop-i-init c = (omega arith, items-none _ _ _)

pub loop-i-preserved : goal.loop-i-preserved
loop-i-preserved c = (omega arith, items-turn _ _ _ _ c.loop-i.invariant.1 c.put_body-end.ensures)

pub shape_of-out : goal.shape_of-out
shape_of-out c = ap length c.loop-i.invariant.1.holds ∙ put-length _ _ _

pub returns : goal.returns
returns c = let e : c.loop-i.i ≡ c.args.n = omega arith in appended-text (ap (λ (k : ℕ). lines_text (bodies_from c.args.bodies.now 0 k)) e) c.loop-i.invariant.1
