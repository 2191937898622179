-- `put_citation` meets its contract.
use Rattle.texts.proofs.SinkLaws.{appended_then}
use Rattle.study_text.specs.Citations.{citation}
use Rattle.study_text.proofs.citations.put_citation.Goals as goal

pub returns : goal.returns
unfolding citation
returns c = appended_then c.put_cited_words-a.ensures c.put_cited_source.ensures
