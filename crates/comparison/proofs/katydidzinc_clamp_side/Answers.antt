-- `katydidzinc_clamp_side` meets its contract: the side of what `clamp` answers.
use mathlib.Core.Path.{ap, ◌∙◌}
use Rattle.floats.specs.Scalar.{clamped_of}
use Rattle.floats.specs.declared.scalar.Clamped.{Clamped}
use Rattle.comparison.specs.Exports.{side_number}
use Rattle.comparison.proofs.katydidzinc_clamp_side.Goals as goal

pub returns : goal.returns
unfolding clamped_of
returns c = c.side_number.ensures ∙ ap (λ (r : Clamped). side_number r.side) c.clamp-clamped.ensures
