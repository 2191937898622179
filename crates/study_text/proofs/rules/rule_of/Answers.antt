-- `rule_of` meets its contract.
use mathlib.Core.Path.{sym, ap, ◌∙◌}
use Rattle.rows.specs.declared.joint_velocity_constraint.WritebackId.{WritebackId}
use Rattle.study_text.specs.Rules.{rule_of}
use Rattle.study_text.proofs.rules.rule_of.Goals as goal

pub returns-in-Dof : goal.returns-in-Dof
returns-in-Dof c = c.dof_rule.ensures ∙ sym (ap (λ (i : WritebackId). rule_of i c.args.coupled) c.in-Dof.is)

pub returns-in-Limit : goal.returns-in-Limit
returns-in-Limit c = c.limit_rule.ensures ∙ sym (ap (λ (i : WritebackId). rule_of i c.args.coupled) c.in-Limit.is)

pub returns-in-Motor : goal.returns-in-Motor
returns-in-Motor c = c.motor_rule.ensures ∙ sym (ap (λ (i : WritebackId). rule_of i c.args.coupled) c.in-Motor.is)
