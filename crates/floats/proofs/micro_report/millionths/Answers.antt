-- `micro_report::millionths` meets its contract. `proofs/MicroReportLaws.antt` has the two cases: nothing is left after rounding, or the fraction is one of numbers that fit a `u64`. Assumes nothing.
use Rattle.std.proofs.Common.{◌-◌, ◌≤◌, sym, ◌∙◌, arith}
use Rattle.floats.proofs.MicroReportLaws.{one-pos, one-small, tiny, scaled}
use Rattle.floats.proofs.micro_report.millionths.Goals as goal

pub returns-then-s-ge48 : goal.returns-then-s-ge48
returns-then-s-ge48 c =
    let k : c.args.k ≤ 101 = omega arith in
    sym (tiny c.args.d c.args.k c.requires.0 k)

pub half_even-requires : goal.half_even-requires
half_even-requires c = (omega arith, omega (arith, one-small (149 - c.args.k) c.if-s-ge48.false), one-pos (149 - c.args.k) c.if-s-ge48.false)

pub returns : goal.returns
returns c = c.half_even.ensures ∙ scaled c.args.d c.args.k c.if-s-ge48.false c.requires.1
