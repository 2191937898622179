-- `inv_dt` meets its contract: each answer is the case that the test left.
use Rattle.rows.specs.IntegrationParameters.{inv_dt_of}
use Rattle.rows.proofs.integration_parameters.IntegrationParameters.inv_dt.Goals as goal

pub returns-then-self : goal.returns-then-self
unfolding inv_dt_of
returns-then-self c = simp c.if-self.true

pub returns-else-self : goal.returns-else-self
unfolding inv_dt_of
returns-else-self c = simp c.if-self.false
