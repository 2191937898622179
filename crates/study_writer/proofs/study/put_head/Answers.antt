-- `put_head` meets its contract.
use Rattle.texts.proofs.SinkLaws.{appended-text}
use Rattle.study_writer.proofs.LinesLaws.{first-end, lines-one, lines-three, lines-four}
use Rattle.study_writer.proofs.study.put_head.Goals as goal

pub returns : goal.returns
returns c = lines-one _ _ (appended-text (first-end c.args.words.now c.args.j) c.put_joint_line-a.ensures) (lines-four _ _ _ _ _ c.put_masks-b.ensures (lines-three _ _ _ _ c.put_models-c.ensures c.put_enabled.ensures))
