-- `put_study` meets its contract.
use Rattle.study_writer.specs.Text.{settings_lines, bodies_from}
use Rattle.study_writer.proofs.LinesLaws.{lines_then}
use Rattle.study_writer.proofs.study.put_study.Goals as goal

pub returns : goal.returns
returns c = lines_then (settings_lines c.args.params) _ c.put_settings-a.ensures (lines_then (bodies_from c.args.bodies.now 0 c.args.nb) _ c.put_bodies-b.ensures c.put_joints.ensures)
