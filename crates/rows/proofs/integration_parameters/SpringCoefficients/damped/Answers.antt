-- `damped` computes what its definition says.
use mathlib.Core.Path.{refl}
use Rattle.rows.specs.IntegrationParameters.{damped_of}
use Rattle.rows.proofs.integration_parameters.SpringCoefficients.damped.Goals as goal

pub returns : goal.returns
unfolding damped_of
returns c = refl
