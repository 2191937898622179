-- `put_settings` meets its contract.
use Rattle.study_writer.specs.Text.{settings_lines}
use Rattle.texts.proofs.SinkLaws.{appended-text}
use Rattle.study_writer.proofs.LinesLaws.{settings-first, lines-one}
use Rattle.study_writer.proofs.study.put_settings.Goals as goal

pub returns : goal.returns
unfolding settings_lines
returns c = lines-one _ _ (appended-text settings-first c.put_text-a.ensures) (lines-one _ _ c.put_one-b.ensures (lines-one _ _ c.put_one-c.ensures c.put_one.ensures))
