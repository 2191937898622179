use Rattle.study_reader.proofs.draft.called.Goals as goal

pub returns : goal.returns
returns c = rw (c.first_call.ensures, c.repeat_after.ensures)
