use Rattle.study_reader.specs.Study.{numbers_with, origins_with}
use Rattle.study_reader.proofs.changes.put_numbers.Goals as goal

pub returns : goal.returns
unfolding numbers_with origins_with
returns c =
    let pc = c.before.before in
    let ps = pc.before.before.before.before.before.before in
    let pn = ps.before.before.before.before.before.before.before in
    let ib = pn in
    (rw (ps.put_second.ensures.0, pn.put_number.ensures.0, ib.item_base.ensures.0), rw (ps.put_second.ensures.1, pn.put_number.ensures.1, ib.item_base.ensures.0), pc.put_center.ensures)
