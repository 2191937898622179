-- `katydidzinc_clamp` meets its contract: the value of what `clamp` answers.
use mathlib.Core.Path.{ap}
use Rattle.floats.specs.Scalar.{clamped_of}
use Rattle.floats.specs.declared.scalar.Clamped.{Clamped}
use Rattle.comparison.proofs.katydidzinc_clamp.Goals as goal

pub returns : goal.returns
unfolding clamped_of
returns c = ap (λ (r : Clamped). r.value) c.clamp-clamped.ensures
