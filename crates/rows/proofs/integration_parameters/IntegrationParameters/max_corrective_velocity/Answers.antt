-- `max_corrective_velocity` meets its contract: each answer is the case that the test left.
use Rattle.rows.specs.IntegrationParameters.{max_corrective_velocity_of}
use Rattle.rows.proofs.integration_parameters.IntegrationParameters.max_corrective_velocity.Goals as goal

pub returns-then-self : goal.returns-then-self
unfolding max_corrective_velocity_of
returns-then-self c = simp c.if-self.true

pub returns-else-self : goal.returns-else-self
unfolding max_corrective_velocity_of
returns-else-self c = simp c.if-self.false
