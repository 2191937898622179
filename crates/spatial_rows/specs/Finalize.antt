-- Orthogonalising a group of rows in space: the Rust's `finalize_constraints`, by the loops of the crate rows, which are over any kind of row.
use Rattle.std.specs.Prelude.{ℕ, Bool, ◌&&◌, List, Float}
use Rattle.std.specs.Float.Ieee.{neg, eq}
use Rattle.floats.specs.Operators.{◌⊕◌, ◌⊖◌, ◌⊗◌}
use Rattle.floats.specs.Constants.{max_float}
use Rattle.floats.specs.Utils.{simd_inv_of}
use Rattle.spatial_floats.specs.Vector.{add_of, sub_of, mul_of, gdot_of, component_mul_of}
use Rattle.spatial_floats.specs.declared.vector.Vector.{Vector}
use Rattle.rows.specs.Groups as Groups
use Rattle.rows.specs.Groups.{Group}
use Rattle.spatial_rows.specs.Row.{with_inv_lhs, with_cfm_gain}
use Rattle.spatial_rows.specs.declared.joint_velocity_constraint.JointConstraint.{JointConstraint}

-- both bodies' inverse masses, which a group takes from its first row
unfoldable pub im_sum_of : JointConstraint → Vector
im_sum_of c = add_of c.im1 c.im2

-- J_i M⁻¹ J_jᵀ of two rows of one joint, c_i and c_j: their product under the inverse masses and inertias. Of a row with itself it is the inverse of its effective mass.
unfoldable pub row_dot_of : Vector → JointConstraint → JointConstraint → Float
row_dot_of imsum ci cj =
    gdot_of ci.lin_jac (component_mul_of imsum cj.lin_jac) ⊕ gdot_of ci.ii_ang_jac1 cj.ang_jac1 ⊕ gdot_of ci.ii_ang_jac2 cj.ang_jac2

-- the head step: the row's inverse left-hand side, the effective mass softened by cfm
unfoldable pub head_of : Vector → JointConstraint → JointConstraint
head_of imsum c =
    let dot = row_dot_of imsum c c in
    let gain = dot ⊗ c.cfm_coeff ⊕ c.cfm_gain in
    with_cfm_gain (with_inv_lhs c (simd_inv_of (dot ⊕ gain))) gain

-- the lock test: the bounds are [−MAX, MAX]. A motor can have them too; both bounds infinite is no lock.
unfoldable pub is_lock : JointConstraint → Bool
is_lock c = eq c.impulse_min (neg max_float) && eq c.impulse_max max_float

-- a vector less a number times another
unfoldable pub without_of : Vector → Vector → Float → Vector
without_of v w coeff = sub_of v (mul_of w coeff)

-- row c_i less coeff times row c_j
unfoldable pub less_of : JointConstraint → JointConstraint → Float → JointConstraint
less_of ci cj coeff = record {
  impulse = ci.impulse;
  impulse_min = ci.impulse_min;
  impulse_max = ci.impulse_max;
  lin_jac = without_of ci.lin_jac cj.lin_jac coeff;
  ang_jac1 = without_of ci.ang_jac1 cj.ang_jac1 coeff;
  ang_jac2 = without_of ci.ang_jac2 cj.ang_jac2 coeff;
  ii_ang_jac1 = without_of ci.ii_ang_jac1 cj.ii_ang_jac1 coeff;
  ii_ang_jac2 = without_of ci.ii_ang_jac2 cj.ii_ang_jac2 coeff;
  inv_lhs = ci.inv_lhs;
  rhs = ci.rhs ⊖ cj.rhs ⊗ coeff;
  rhs_wo_bias = ci.rhs_wo_bias ⊖ cj.rhs_wo_bias ⊗ coeff;
  cfm_gain = ci.cfm_gain;
  cfm_coeff = ci.cfm_coeff;
  im1 = ci.im1;
  im2 = ci.im2;
}

-- the Rust's inv_dot_jj: the effective mass of row c_j, without softness
abbrev pub inv_dot_of : Vector → JointConstraint → Float
inv_dot_of imsum cj = simd_inv_of (row_dot_of imsum cj cj)

-- the step of a pair of rows: row c_i less its part along row c_j, with inv_dot_jj at hand
abbrev pub pair_of : Vector → Float → JointConstraint → JointConstraint → JointConstraint
pair_of imsum inv_dot_jj cj ci = less_of ci cj (row_dot_of imsum ci cj ⊗ inv_dot_jj)

-- the rows of a joint in space
abbrev pub row_group : Group
row_group = record { Row = JointConstraint; Masses = Vector; im_sum_of = im_sum_of; head_of = head_of; is_lock = is_lock; inv_dot_of = inv_dot_of; pair_of = pair_of }

abbrev pub finalize_of : List JointConstraint → List JointConstraint
finalize_of = Groups.finalize_of row_group

abbrev pub finalize_groups : ℕ → ℕ → List JointConstraint → List JointConstraint
finalize_groups = Groups.finalize_groups row_group
