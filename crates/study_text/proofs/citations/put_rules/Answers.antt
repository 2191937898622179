-- `put_rules` meets its contract.
use Rattle.texts.proofs.SinkLaws.{appended_then}
use Rattle.study_text.specs.Citations.{rules_heading, rules_text}
use Rattle.study_text.proofs.citations.put_rules.Goals as goal

pub returns : goal.returns
unfolding rules_text rules_heading
returns c = appended_then c.put_text-a.ensures c.put_all.ensures
