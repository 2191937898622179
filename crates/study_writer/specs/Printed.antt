-- What is written of a model.
use Rattle.std.specs.Prelude.{ℕ, cond, List, [], leb}
use Rattle.multibody.specs.Model.{Model, most_bodies, most_joints}
use Rattle.multibody.specs.Counts.{body_count, joint_count}
use Rattle.model.specs.Planar.{plane}
use Rattle.study_writer.specs.Text.{study_text}

-- its text; nothing where it has more bodies or joints than rules 1 and 2 let through
unfoldable pub printed_text : Model → List ℕ
printed_text m = cond (leb (body_count plane m.bodies) most_bodies) (cond (leb (joint_count plane m.words m.numbers) most_joints) (study_text m) []) []
