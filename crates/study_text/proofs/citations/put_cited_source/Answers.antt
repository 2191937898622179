-- `put_cited_source` meets its contract.
use Rattle.texts.proofs.SinkLaws.{appended_then, appended-text}
use Rattle.study_text.specs.Citations.{cited_source}
use Rattle.study_text.proofs.citations.put_cited_source.Goals as goal

pub returns : goal.returns
unfolding cited_source
returns c = appended_then (appended_then (appended_then (appended_then c.put_text-a.ensures c.put_definition-b.ensures) c.put_text-c.ensures) (appended-text c.rust_text.ensures c.put_text-d.ensures)) c.put_text.ensures
