-- `series_sum` meets its contract: the case that the test left.
use Rattle.std.proofs.Common.{le-leb}
use borrow.Author.Tests.{lt-leb}
use Rattle.floats.specs.Angle.{series_sum_up_to}
use Rattle.floats.proofs.angle.series_sum.Goals as goal

pub returns-then-w-gt-UNIT : goal.returns-then-w-gt-UNIT
unfolding series_sum_up_to
returns-then-w-gt-UNIT c = simp (lt-leb _ _ c.if-w-gt-UNIT.true)

pub returns-else-w-gt-UNIT : goal.returns-else-w-gt-UNIT
unfolding series_sum_up_to
returns-else-w-gt-UNIT c = simp (le-leb _ _ c.if-w-gt-UNIT.false) c.series.ensures
