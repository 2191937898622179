-- `put_counts` meets its contract: the slice's first 128 places are as many as the counts.
use Rattle.std.proofs.Common.{◌≡◌, length, length-take-le, sym, ◌∙◌, rules}
use Rattle.capi.proofs.calls.put_counts.Goals as goal

pub copy_from_slice-requires : goal.copy_from_slice-requires
copy_from_slice-requires c =
    let e : length c.args.counts ≡ 128 = search rules in
    length-take-le 128 c.args.out.now c.requires ∙ sym e
