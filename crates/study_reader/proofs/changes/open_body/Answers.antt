use Rattle.study_reader.proofs.changes.open_body.Goals as goal

pub returns : goal.returns
returns c =
    (c.opened.ensures, c.default_body.ensures, c.put_name.ensures)
