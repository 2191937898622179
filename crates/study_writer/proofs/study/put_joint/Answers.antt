-- `put_joint` meets its contract.
use Rattle.model.specs.Layout.{words_width, numbers_width}
use Rattle.model.specs.Records.{num, word}
use Rattle.study_writer.specs.Text.{joint_head, frame_lines, all_limits_lines, all_motors_lines, joint_lines}
use Rattle.study_writer.proofs.LinesLaws.{lines_then}
use Rattle.study_writer.proofs.study.put_joint.Goals as goal

pub returns : goal.returns
unfolding joint_lines
returns c = lines_then (joint_head c.args.j (word words_width c.args.words.now c.args.j)) _ c.put_head-a.ensures (lines_then (frame_lines (num numbers_width c.args.s.now c.args.j)) _ c.put_frames-b.ensures (lines_then (all_limits_lines (num numbers_width c.args.s.now c.args.j)) _ c.put_all_limits-c.ensures (lines_then (all_motors_lines (num numbers_width c.args.s.now c.args.j)) _ c.put_all_motors-d.ensures c.put_softness.ensures)))
