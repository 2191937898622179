-- `erp` is put together from what its callee promises.
use Rattle.rows.specs.IntegrationParameters.{erp_of}
use Rattle.rows.proofs.integration_parameters.SpringCoefficients.erp.Goals as goal

pub returns : goal.returns
unfolding erp_of
returns c = cc
