-- `erp_inv_dt` is put together from what its callee promises.
use Rattle.rows.specs.IntegrationParameters.{erp_inv_dt_of}
use Rattle.rows.proofs.integration_parameters.SpringCoefficients.erp_inv_dt.Goals as goal

pub returns : goal.returns
unfolding erp_inv_dt_of
returns c = cc
