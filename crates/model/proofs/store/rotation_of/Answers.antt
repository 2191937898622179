use Rattle.model.proofs.store.rotation_of.Goals as goal

pub returns-in-CosineSine : goal.returns-in-CosineSine
returns-in-CosineSine c = cc

pub returns-in-Angle : goal.returns-in-Angle
returns-in-Angle c = cc
