use mathlib.Core.Path.{refl, ap, ◌∙◌}
use lib.ListN.{length}
use Rattle.texts.proofs.SinkLaws.{appended-none, appended_then, appended-text, put-length}
use Rattle.study_text.proofs.CitationsLaws.{cite-next, cite-none}
use Rattle.study_text.proofs.citations.put_all.Goals as goal

pub loop-rule-init : goal.loop-rule-init
loop-rule-init c = (refl, λ last r s. s)

pub loop-rule-preserved : goal.loop-rule-preserved
loop-rule-preserved c = (ap length c.put_cited_in-end.ensures.holds ∙ put-length _ _ _ ∙ c.loop-rule.invariant.0, λ last r s. c.loop-rule.invariant.1 last r (appended-text (cite-next c.args.used _ _ c.loop-rule-test.true) (appended_then c.put_cited_in-end.ensures s)))

pub shape_of-out : goal.shape_of-out
shape_of-out c = c.loop-rule.invariant.0

pub returns : goal.returns
returns c = c.loop-rule.invariant.1 _ _ (appended-text (cite-none c.args.used _ c.loop-rule-test.false) (appended-none _ _))
