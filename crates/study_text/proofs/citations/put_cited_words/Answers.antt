-- `put_cited_words` meets its contract.
use Rattle.texts.proofs.SinkLaws.{appended_then, appended-text}
use Rattle.study_text.specs.Citations.{cited_words}
use Rattle.study_text.proofs.citations.put_cited_words.Goals as goal

pub returns : goal.returns
unfolding cited_words
returns c = appended_then (appended_then (appended_then (appended_then c.put_text-a.ensures c.put_rule_number-b.ensures) c.put_text-c.ensures) (appended-text c.words_text.ensures c.put_text-d.ensures)) c.put_text.ensures
