use mathlib.Core.Path.{sym, ◌∙◌}
use native.Mathlib.Numerals.{unary_clauses}
use Rattle.study_run.proofs.SettledLaws.{joint-open, joint-next, joints-done}
use Rattle.study_run.proofs.settling.joints_settled.Goals as goal

pub loop-j-init : goal.loop-j-init
loop-j-init c = simp unary_clauses

pub returns-then-not-joint_settled : goal.returns-then-not-joint_settled
returns-then-not-joint_settled c = sym (joint-open _ _ _ _ _ c.loop-j-test.true c.joint_settled.ensures c.if-not-joint_settled.true) ∙ c.loop-j.invariant

pub loop-j-preserved : goal.loop-j-preserved
loop-j-preserved c = sym (joint-next _ _ _ _ _ c.loop-j-test.true c.joint_settled.ensures c.if-not-joint_settled.false) ∙ c.loop-j.invariant

pub returns : goal.returns
returns c = sym (joints-done _ _ _ _ _ c.loop-j-test.false) ∙ c.loop-j.invariant
