use Rattle.multibody.proofs.records.motor_at.Goals as goal

pub returns : goal.returns
returns c = rw (c.motor_model_of.ensures, c.six_at-a.ensures)
