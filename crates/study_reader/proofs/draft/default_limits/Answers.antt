use Rattle.study_reader.specs.Draft.{puts}
use Rattle.study_reader.proofs.draft.default_limits.Goals as goal

pub returns : goal.returns
unfolding puts
returns c =
    let set6 = c.before.before in
    let set5 = set6.before.before.before.before in
    let set4 = set5.before.before.before.before in
    let set3 = set4.before.before.before.before in
    let set2 = set3.before.before.before.before in
    let at_set = set2.before.before.before.before in
    let fb2 = at_set.before.before in
    let fb = fb2 in
    rw (set6.set-6.ensures, set5.set-5.ensures, set4.set-4.ensures, set3.set-3.ensures, set2.set-2.ensures, at_set.set.ensures, fb.from_bits-most.ensures, fb2.from_bits-least.ensures)
