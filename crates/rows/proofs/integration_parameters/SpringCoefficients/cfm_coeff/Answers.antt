-- `cfm_coeff` meets its contract: each answer is the case that the tests left, by what the callees promise.
use Rattle.rows.specs.IntegrationParameters.{cfm_coeff_of}
use Rattle.rows.proofs.integration_parameters.SpringCoefficients.cfm_coeff.Goals as goal

pub returns-then-self : goal.returns-then-self
unfolding cfm_coeff_of
returns-then-self c =
    simp (← c.erp-erp.ensures, c.if-erp.true, c.if-self.true, c.undamped.ensures)

pub returns-else-self : goal.returns-else-self
unfolding cfm_coeff_of
returns-else-self c =
    simp (← c.erp-erp.ensures, c.if-erp.true, c.if-self.false, c.damped.ensures)

pub returns-else-erp : goal.returns-else-erp
unfolding cfm_coeff_of
returns-else-erp c = simp (← c.erp-erp.ensures, c.if-erp.false)
