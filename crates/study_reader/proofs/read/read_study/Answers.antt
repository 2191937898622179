use Rattle.study_reader.specs.Study.{read_study}
use Rattle.study_reader.proofs.read.read_study.Goals as goal

pub returns : goal.returns
unfolding read_study
returns c = rw (← c.default_settings.ensures, ← c.read_lines.ensures, ← c.ended-st.ensures) (c.center_joints.ensures _ _)
