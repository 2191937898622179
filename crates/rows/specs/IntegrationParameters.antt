-- The Rust's integration_parameters.rs: softness, and what a row reads of the settings.
-- A joint's softness is a spring and a damper, by natural frequency (1/s) and damping ratio. For a timestep dt they are the row's erp, the "error reduction
-- parameter", the part of a position's error that one step corrects, and its cfm, "constraint force mixing", the part by which J M⁻¹ Jᵀ is softened. dt is in seconds.
use Rattle.std.specs.Prelude.{cond, Float}
use Rattle.std.specs.Float.Ieee.{eq, ne}
use Rattle.floats.specs.Operators.{bits, ◌⊕◌, ◌⊖◌, ◌⊗◌, ◌⊘◌}
use Rattle.floats.specs.Constants.{one, two, four, two_pi, max_float}
use Rattle.rows.specs.declared.integration_parameters.SpringCoefficients.{SpringCoefficients}
use Rattle.rows.specs.declared.integration_parameters.IntegrationParameters.{IntegrationParameters}

-- `angular_frequency`, in rad/s
unfoldable pub angular_frequency_of : SpringCoefficients → Float
angular_frequency_of s = s.natural_frequency ⊗ two_pi

-- `erp_inv_dt`: erp / dt, in 1/s
unfoldable pub erp_inv_dt_of : SpringCoefficients → Float → Float
erp_inv_dt_of s dt = angular_frequency_of s ⊘ (dt ⊗ angular_frequency_of s ⊕ two ⊗ s.damping_ratio)

-- `erp`
unfoldable pub erp_of : SpringCoefficients → Float → Float
erp_of s dt = dt ⊗ erp_inv_dt_of s dt

-- `cfm_coeff`'s value where the damping ratio is not zero
unfoldable pub damped_of : SpringCoefficients → Float → Float
damped_of s erp =
    let less = one ⊘ erp ⊖ one in
    less ⊗ less ⊘ ((one ⊕ less) ⊗ four ⊗ s.damping_ratio ⊗ s.damping_ratio)

-- `cfm_coeff`'s value where it is zero
unfoldable pub undamped_of : SpringCoefficients → Float → Float
undamped_of s dt =
    let dt_omega = dt ⊗ angular_frequency_of s in
    one ⊘ (dt_omega ⊗ (dt_omega ⊕ two ⊗ s.damping_ratio))

-- `cfm_coeff`: zero where the erp is zero
unfoldable pub cfm_coeff_of : SpringCoefficients → Float → Float
cfm_coeff_of s dt =
    cond (ne (erp_of s dt) (bits 0)) (cond (eq s.damping_ratio (bits 0)) (undamped_of s dt) (damped_of s (erp_of s dt))) (bits 0)

-- `inv_dt`: zero where dt is zero
unfoldable pub inv_dt_of : IntegrationParameters → Float
inv_dt_of p = cond (eq p.dt (bits 0)) (bits 0) (one ⊘ p.dt)

-- `max_corrective_velocity`: the most that a limit's bias asks for, in m/s and, of an angular limit, in rad/s
unfoldable pub max_corrective_velocity_of : IntegrationParameters → Float
max_corrective_velocity_of p =
    cond (ne p.normalized_max_corrective_velocity max_float) (p.normalized_max_corrective_velocity ⊗ p.length_unit) max_float
