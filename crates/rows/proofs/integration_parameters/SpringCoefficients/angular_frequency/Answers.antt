-- `angular_frequency` computes what its definition says.
use mathlib.Core.Path.{refl}
use Rattle.rows.specs.IntegrationParameters.{angular_frequency_of}
use Rattle.rows.proofs.integration_parameters.SpringCoefficients.angular_frequency.Goals as goal

pub returns : goal.returns
unfolding angular_frequency_of
returns c = refl
