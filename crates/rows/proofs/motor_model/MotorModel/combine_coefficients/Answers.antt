-- `combine_coefficients` meets its contract, at each model by what `inv` promises.
use Rattle.rows.specs.MotorModel.{combine_coefficients_of}
use Rattle.rows.proofs.motor_model.MotorModel.combine_coefficients.Goals as goal

pub returns-in-AccelerationBased : goal.returns-in-AccelerationBased
unfolding combine_coefficients_of
returns-in-AccelerationBased c = simp (c.in-AccelerationBased.is, c.inv.ensures, c.inv-cfm.ensures)

pub returns-in-ForceBased : goal.returns-in-ForceBased
unfolding combine_coefficients_of
returns-in-ForceBased c = simp (c.in-ForceBased.is, c.inv.ensures, c.inv-cfm.ensures)
