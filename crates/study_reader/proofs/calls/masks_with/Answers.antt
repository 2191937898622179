use Rattle.study_reader.proofs.calls.masks_with.Goals as goal

pub returns : goal.returns
returns c =
    let wb3 = c.before in
    let wb2 = wb3.before in
    let wb = wb2 in
    rw (c.with_bits-4.ensures, wb3.with_bits-3.ensures, wb2.with_bits-2.ensures, wb.with_bits.ensures)
