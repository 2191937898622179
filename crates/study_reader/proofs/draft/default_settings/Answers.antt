use Rattle.study_reader.specs.Draft.{puts}
use Rattle.study_reader.proofs.draft.default_settings.Goals as goal

pub returns : goal.returns
unfolding puts
returns c =
    let set3 = c.before.before in
    let set2 = set3.before.before.before.before in
    let at_set = set2.before.before.before.before in
    let fb = at_set in
    rw (set3.set-3.ensures, set2.set-2.ensures, at_set.set.ensures, fb.from_bits.ensures)
