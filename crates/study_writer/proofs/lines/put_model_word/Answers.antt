-- `put_model_word` meets its contract.
use Rattle.texts.proofs.SinkLaws.{appended-text}
use Rattle.study_writer.proofs.LinesLaws.{model-acceleration, model-force}
use Rattle.study_writer.proofs.lines.put_model_word.Goals as goal

pub returns-then-m-eq0 : goal.returns-then-m-eq0
returns-then-m-eq0 c = appended-text (model-acceleration _ c.if-m-eq0.true) c.put_text.ensures

pub returns : goal.returns
returns c = appended-text (model-force _ c.if-m-eq0.false) c.put_text-2.ensures
