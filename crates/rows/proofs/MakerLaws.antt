-- Document 01 on a row's bounds. Strictly inside its limits an uncoupled limit, linear or angular, has [0, 0]; touching or passing one end opens that side, and
-- both ends, as where the limits are equal to the distance, give [−infinity, infinity]. A coupled limit always has [0, infinity] and does not read its lower end.
-- At dt ±0 a motor's largest impulse is 0, whatever its force. A motor of force MAX has the bounds [−MAX, MAX] at dt 1, and counts as a lock (`max-force-lock`);
-- with an infinite largest impulse it is no lock. Assumes nothing.
use Prim.Native.Nat.{ℕ, ◌+◌, ◌*◌}
use mathlib.Core.Path.{◌≡◌, refl, ◌∙◌}
use mathlib.Core.Bool.{Bool, true, false, ◌&&◌, ◌||◌}
use native.Mathlib.Omega.{arith}
use borrow.Author.Tests.{ltb-true, eqb-true, le-ltb, ne_eqb}
use lib.Dec.{eqb}
use lib.Ieee.{Float, nan, inf, fin, of_bits, neg, mul, round, up, down, lt, eq, le, below, level}
use Rattle.floats.specs.Operators.{bits}
use Rattle.floats.specs.Constants.{one, max_float}
use Rattle.rows.specs.GenericJoint.{max_impulse_of, motor_params_of}
use Rattle.rows.specs.Helper.{linear_axis_of}
use Rattle.rows.specs.Makers.{TwoBodies, ErpCfm, RowTerms, assemble_of, limit_bounds_of, limit_linear_of, limit_linear_coupled_of, recentered_angle_of, limit_angular_of, motor_bounds_of, motor_row_of}
use Rattle.rows.proofs.MakerShapes.{limit-linear-is}
use Rattle.rows.specs.Finalize.{is_lock}
use Rattle.rows.specs.declared.integration_parameters.IntegrationParameters.{IntegrationParameters}
use Rattle.rows.specs.declared.generic_joint.JointMotor.{JointMotor}
use Rattle.rows.specs.declared.joint_velocity_constraint.MotorParameters.{MotorParameters}
use Rattle.rows.specs.declared.joint_constraint_helper.AngularLimitParams.{AngularLimitParams}
use Rattle.rows.specs.declared.joint_constraint_helper.JointConstraintHelper.{JointConstraintHelper}
use Rattle.rows.specs.declared.joint_constraint_helper.RowAxis.{RowAxis}
use Rattle.rows.specs.declared.joint_constraint_helper.LimitEnds.{LimitEnds}
use Rattle.rows.specs.declared.joint_constraint_helper.ImpulseBounds.{ImpulseBounds}
use Rattle.rows.specs.declared.joint_velocity_constraint.JointConstraint.{JointConstraint}

-- ---- comparisons

not-over : (s t : Bool) (a b : ℕ) → below s a t b ≡ true → (below t b s a || level t b s a) ≡ false
not-over false false a b h = rw (le-ltb b a (omega (arith, ltb-true a b h)), ne_eqb b a (λ e. omega (arith, ltb-true a b h)))
not-over false true a b h = cc
not-over true false a b h = go (eqb b a) refl
  where
    go : (c : Bool) → eqb b a ≡ c → (c && eqb b 0) ≡ false
    go false e = refl
    go true e = ne_eqb b 0 (λ z. omega (arith, eqb-true b a e, ltb-true 0 (a + b) h))
not-over true true a b h = rw (le-ltb a b (omega (arith, ltb-true b a h)), ne_eqb b a (λ e. omega (arith, ltb-true b a h)))

pub lt_not_le : (x y : Float) → lt x y ≡ true → le y x ≡ false
unfolding lt eq le
lt_not_le nan y h = cc
lt_not_le (inf s) nan h = cc
lt_not_le (inf true) (inf true) h = cc
lt_not_le (inf true) (inf false) h = refl
lt_not_le (inf false) (inf t) h = cc
lt_not_le (inf true) (fin t n d) h = refl
lt_not_le (inf false) (fin t n d) h = cc
lt_not_le (fin s m e) nan h = cc
lt_not_le (fin s m e) (inf true) h = cc
lt_not_le (fin s m e) (inf false) h = refl
lt_not_le (fin s m e) (fin t n d) h = not-over s t (m * up e * down d) (n * up d * down e) h

pub eq-le : (x y : Float) → eq x y ≡ true → le x y ≡ true
unfolding le
eq-le x y h = or (lt x y) h
  where
    or : (a : Bool) {b : Bool} → b ≡ true → (a || b) ≡ true
    or true h = refl
    or false h = h

-- ---- limits

-- the bounds of a limit at a distance: an end is touched or passed where ≤ holds
module _ (dist low high : Float) where
  pub inside : lt low dist ≡ true → lt dist high ≡ true → limit_bounds_of dist low high ≡ record { min = bits 0; max = bits 0 }
  unfolding limit_bounds_of
  inside l h = rw (lt_not_le low dist l, lt_not_le dist high h)

  pub at-low-end : le dist low ≡ true → lt dist high ≡ true → limit_bounds_of dist low high ≡ record { min = inf true; max = bits 0 }
  unfolding limit_bounds_of
  at-low-end l h = rw (l, lt_not_le dist high h)

  pub at-high-end : lt low dist ≡ true → le high dist ≡ true → limit_bounds_of dist low high ≡ record { min = bits 0; max = inf false }
  unfolding limit_bounds_of
  at-high-end l h = rw (lt_not_le low dist l, h)

  pub at-both-ends : le dist low ≡ true → le high dist ≡ true → limit_bounds_of dist low high ≡ record { min = inf true; max = inf false }
  unfolding limit_bounds_of
  at-both-ends l h = rw (l, h)

-- a row's bounds
abbrev pub bounds_of : JointConstraint → ImpulseBounds
bounds_of c = record { min = c.impulse_min; max = c.impulse_max }

assembled-bounds : (bodies : TwoBodies) (axis : RowAxis) (bounds : ImpulseBounds) (terms : RowTerms) → bounds_of (assemble_of bodies axis bounds terms) ≡ bounds
unfolding assemble_of
assembled-bounds bodies axis bounds terms = refl

module _ (h : JointConstraintHelper) (p : IntegrationParameters) (bodies : TwoBodies) (soft : ErpCfm) where
  module _ (i : ℕ) (limits : LimitEnds) where
    abbrev dist : Float
    dist = (linear_axis_of h i).dist

    abbrev linear : JointConstraint
    linear = limit_linear_of h p bodies i limits soft

    linear-bounds : bounds_of linear ≡ limit_bounds_of dist limits.min limits.max
    linear-bounds = rw limit-linear-is (assembled-bounds bodies (linear_axis_of h i) _ _)

    pub limit-linear-inside : lt limits.min dist ≡ true → lt dist limits.max ≡ true → bounds_of linear ≡ record { min = bits 0; max = bits 0 }
    limit-linear-inside l u = linear-bounds ∙ inside _ _ _ l u

    pub limit-linear-low-end : le dist limits.min ≡ true → lt dist limits.max ≡ true → bounds_of linear ≡ record { min = inf true; max = bits 0 }
    limit-linear-low-end l u = linear-bounds ∙ at-low-end _ _ _ l u

    pub limit-linear-high-end : lt limits.min dist ≡ true → le limits.max dist ≡ true → bounds_of linear ≡ record { min = bits 0; max = inf false }
    limit-linear-high-end l u = linear-bounds ∙ at-high-end _ _ _ l u

    pub limit-linear-both-ends : le dist limits.min ≡ true → le limits.max dist ≡ true → bounds_of linear ≡ record { min = inf true; max = inf false }
    limit-linear-both-ends l u = linear-bounds ∙ at-both-ends _ _ _ l u

  module _ (limit : AngularLimitParams) where
    abbrev ang : Float
    ang = recentered_angle_of h limit

    abbrev low : Float
    low = neg limit.half_range

    abbrev high : Float
    high = limit.half_range

    abbrev angular : JointConstraint
    angular = limit_angular_of h p bodies limit soft

    angular-bounds : bounds_of angular ≡ limit_bounds_of ang low high
    unfolding limit_angular_of assemble_of
    angular-bounds = refl

    pub limit-angular-inside : lt low ang ≡ true → lt ang high ≡ true → bounds_of angular ≡ record { min = bits 0; max = bits 0 }
    limit-angular-inside l u = angular-bounds ∙ inside _ _ _ l u

    pub limit-angular-low-end : le ang low ≡ true → lt ang high ≡ true → bounds_of angular ≡ record { min = inf true; max = bits 0 }
    limit-angular-low-end l u = angular-bounds ∙ at-low-end _ _ _ l u

    pub limit-angular-high-end : lt low ang ≡ true → le high ang ≡ true → bounds_of angular ≡ record { min = bits 0; max = inf false }
    limit-angular-high-end l u = angular-bounds ∙ at-high-end _ _ _ l u

    pub limit-angular-both-ends : le ang low ≡ true → le high ang ≡ true → bounds_of angular ≡ record { min = inf true; max = inf false }
    limit-angular-both-ends l u = angular-bounds ∙ at-both-ends _ _ _ l u

  module _ (coupled : ℕ) where
    abbrev row : LimitEnds → JointConstraint
    row limits = limit_linear_coupled_of h p bodies coupled limits soft

    pub limit-coupled-bounds : (limits : LimitEnds) → bounds_of (row limits) ≡ record { min = bits 0; max = inf false }
    unfolding limit_linear_coupled_of assemble_of
    limit-coupled-bounds limits = refl

    pub limit-coupled-upper-end : (a b : LimitEnds) → a.max ≡ b.max → row a ≡ row b
    unfolding limit_linear_coupled_of
    limit-coupled-upper-end a b e = rw e

-- ---- motors

-- at dt +0 and −0 the largest impulse is 0
pub max-impulse-at-zero : (force : Float) → (max_impulse_of force (bits 0) ≡ bits 0) × (max_impulse_of force (bits 0x8000_0000) ≡ bits 0)
unfolding max_impulse_of of_bits eq
max-impulse-at-zero force = (refl, refl)

module _ (bodies : TwoBodies) (axis : RowAxis) (m : MotorParameters) (rhs : Float) where
  abbrev motor : JointConstraint
  motor = motor_row_of bodies axis m rhs

  pub motor-bounds : bounds_of motor ≡ record { min = neg m.max_impulse; max = m.max_impulse }
  unfolding motor_row_of motor_bounds_of assemble_of
  motor-bounds = refl

  pub motor-as-lock : m.max_impulse ≡ max_float → is_lock motor ≡ true
  unfolding motor_row_of motor_bounds_of assemble_of is_lock of_bits neg eq
  motor-as-lock e = rw e

  pub motor-no-lock : m.max_impulse ≡ inf false → is_lock motor ≡ false
  unfolding motor_row_of motor_bounds_of assemble_of is_lock of_bits neg eq
  motor-no-lock e = rw e

-- document 01's trap: force MAX and dt 1
max-times-one : max_impulse_of max_float one ≡ max_float
unfolding max_impulse_of of_bits eq mul round
max-times-one = refl

module _ (bodies : TwoBodies) (axis : RowAxis) (m : JointMotor) (rhs : Float) (e : m.max_force ≡ max_float) where
  max-impulse : (motor_params_of m one).max_impulse ≡ max_float
  unfolding motor_params_of
  max-impulse = rw e max-times-one

  pub max-force-bounds : bounds_of (motor_row_of bodies axis (motor_params_of m one) rhs) ≡ record { min = neg max_float; max = max_float }
  max-force-bounds = motor-bounds bodies axis (motor_params_of m one) rhs ∙ rw max-impulse

  pub max-force-lock : is_lock (motor_row_of bodies axis (motor_params_of m one) rhs) ≡ true
  max-force-lock = motor-as-lock bodies axis (motor_params_of m one) rhs max-impulse
