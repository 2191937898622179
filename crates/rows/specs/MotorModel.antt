-- The Rust's motor_model.rs: what a motor's stiffness and damping give its row.
use Rattle.std.specs.Prelude.{Float}
use Rattle.floats.specs.Operators.{bits, ◌⊕◌, ◌⊗◌}
use Rattle.floats.specs.Utils.{inv_of}
use Rattle.rows.specs.declared.motor_model.MotorModel.{MotorModel}
use Rattle.rows.specs.declared.motor_model.MotorModel.TheVariants.{AccelerationBased, ForceBased}
use Rattle.rows.specs.declared.motor_model.MotorCoefficients.{MotorCoefficients}

-- `combine_coefficients`, with document 01's record of floats for the Rust's tuple: erp / dt, and the softness cfm, as a part of J M⁻¹ Jᵀ where stiffness and damping
-- are accelerations (per unit of mass), and as an inverse mass where they are forces
unfoldable pub combine_coefficients_of : MotorModel → Float → Float → Float → MotorCoefficients
combine_coefficients_of AccelerationBased dt stiffness damping = record {
  erp_inv_dt = stiffness ⊗ inv_of (dt ⊗ stiffness ⊕ damping);
  cfm_coeff = inv_of (dt ⊗ dt ⊗ stiffness ⊕ dt ⊗ damping);
  cfm_gain = bits 0;
}
combine_coefficients_of ForceBased dt stiffness damping = record {
  erp_inv_dt = stiffness ⊗ inv_of (dt ⊗ stiffness ⊕ damping);
  cfm_coeff = bits 0;
  cfm_gain = inv_of (dt ⊗ dt ⊗ stiffness ⊕ dt ⊗ damping);
}
