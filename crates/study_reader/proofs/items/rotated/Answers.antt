use Rattle.study_reader.proofs.items.rotated.Goals as goal

pub returns : goal.returns
returns c = rw (c.given2.ensures, c.rotation_from_angle-rotation.ensures)
