-- `put_rule` meets its contract.
use Rattle.texts.proofs.SinkLaws.{appended_then, appended-text}
use Rattle.study_text.specs.Row.{rule_text}
use Rattle.study_text.proofs.WordsLaws.{number-column}
use Rattle.study_text.proofs.row.put_rule.Goals as goal

pub returns : goal.returns
unfolding rule_text
returns c = appended_then (appended_then (appended-text (number-column c.args.rule) (appended_then c.put_rule_number-a.ensures c.put_byte-b.ensures)) c.put_definition-c.ensures) c.put_byte.ensures
