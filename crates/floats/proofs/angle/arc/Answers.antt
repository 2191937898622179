-- `arc` meets its contract: each answer is the case that the test left.
use Rattle.std.proofs.Common.{◌-◌, ap, arith, le-ltb, lt-ltb}
use Rattle.floats.specs.Angle.{eighth_turn, series_sum, arc}
use Rattle.floats.specs.declared.angle.SeriesSum.{SeriesSum}
use Rattle.floats.proofs.Arc.{rest_le, arc-whole}
use Rattle.floats.proofs.angle.arc.Goals as goal

pub series-requires-else-t : goal.series-requires-else-t
series-requires-else-t c = omega (arith, rest_le c.args.t c.if-t.false)

pub overflow_sub-result : goal.overflow_sub-result
unfolding series_sum
overflow_sub-result c =
    let s = c in
    omega (arith, ap (λ (r : SeriesSum). r.sum) c.series-else-t.ensures, arc-whole s.args.t s.if-t.false)

pub returns-then-t : goal.returns-then-t
unfolding arc series_sum
returns-then-t c = simp (lt-ltb _ _ c.if-t.true) (ap (λ (r : SeriesSum). r.sum) c.series.ensures)

pub returns-else-t : goal.returns-else-t
unfolding arc series_sum
returns-else-t c =
    simp (le-ltb _ _ c.if-t.false) (ap (λ (r : SeriesSum). eighth_turn - r.sum) c.series-else-t.ensures)
