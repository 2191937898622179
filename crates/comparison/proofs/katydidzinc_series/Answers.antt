-- `katydidzinc_series` meets its contract: the field of what `series_sum` promises.
use mathlib.Core.Path.{ap}
use Rattle.floats.specs.declared.angle.SeriesSum.{SeriesSum}
use Rattle.comparison.proofs.katydidzinc_series.Goals as goal

pub returns : goal.returns
returns c = ap (λ (r : SeriesSum). r.sum) c.series_sum-s.ensures
