use native.Mathlib.Nat.{sub-zero}
use native.Mathlib.Omega.{arith}
use mathlib.Core.Path.{sym, ◌∙◌, refl}
use Rattle.study_reader.proofs.ReadLaws.{centers-step, centers-done}
use Rattle.study_reader.proofs.read.center_joints.Goals as goal

pub loop-j-init : goal.loop-j-init
loop-j-init c = (omega arith, refl, refl, λ st names. rw sub-zero)

pub loop-j-smaller : goal.loop-j-smaller
loop-j-smaller c = omega arith

pub loop-j-preserved : goal.loop-j-preserved
loop-j-preserved c = (
  omega arith,
  c.center_joint.auto.numbers ∙ c.loop-j.invariant.1,
  c.center_joint.auto.words ∙ c.loop-j.invariant.2,
  λ st names. rw (c.center_joint.ensures st names) (sym (centers-step c.args.joints c.loop-j.j _ c.loop-j-test.true) ∙ c.loop-j.invariant.3 st names),
)

pub returns : goal.returns
returns c st names =
    sym (centers-done c.args.joints c.loop-j.j _ c.loop-j-test.false) ∙ c.loop-j.invariant.3 st names
