use Rattle.study_reader.specs.Items.{mask_line}
use Rattle.study_reader.proofs.items.read_mask.Goals as goal

pub returns-in-Some : goal.returns-in-Some
unfolding mask_line
returns-in-Some c =
    let at-mask = c.before in
    let wn = at-mask in
    let nw = wn in
    rw (c.whole.ensures, ← nw.next_word-w.ensures, ← wn.whole_number.ensures, at-mask.in-Some.is)

pub returns-in-None : goal.returns-in-None
unfolding mask_line
returns-in-None c =
    let et = c.before in
    let wn = et.before.before in
    let nw = wn in
    rw (c.read_named.ensures, ← nw.next_word-w.ensures, ← wn.whole_number.ensures, et.in-None.is)
