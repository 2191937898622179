use Rattle.spatial_model.proofs.store.dofs_at.Goals as goal

pub returns : goal.returns
returns c = rw c.six_at-a.ensures
