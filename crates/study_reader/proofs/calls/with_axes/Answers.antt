use Rattle.study_reader.proofs.calls.with_axes.Goals as goal

pub returns : goal.returns
returns c = rw c.masks_with.ensures
