-- `undamped` is put together from what its callee promises.
use Rattle.rows.specs.IntegrationParameters.{undamped_of}
use Rattle.rows.proofs.integration_parameters.SpringCoefficients.undamped.Goals as goal

pub returns : goal.returns
unfolding undamped_of
returns c = cc
