-- R-13 for one row: an impulse that acts along a row changes the exact momentum sum of the two bodies on each linear axis by at most half the spacing at each new velocity,
-- each half over that body's inverse mass (`applied-drifts`). So do a row's step and its warm start (`step-drifts`, `warmstart-drifts`). Assumes nothing.
use mathlib.Core.Path.{◌≡◌, sym, ap, ◌∙◌, subst}
use mathlib.Core.Bool.{Bool, true}
use Prim.Native.Nat.{ℕ, ◌+◌, ◌*◌, ◌^◌, ◌≤◌}
use native.Mathlib.Nat.{mul-le-mul_right}
use native.Mathlib.Omega.{arith}
use lib.Dec.{T}
use lib.IntN.{ℤ, pos, neg_ℤ, nat_abs, ◌+ℤ◌, ◌-ℤ◌, ◌*ℤ◌}
use lib.Ieee.{Float, binary32, fits}
use lib.Ieee.Bits.{is_true}
use lib.Ieee.Fits.{add-fits, sub-fits, mul-fits}
use Rattle.floats.specs.Operators.{◌⊕◌, ◌⊖◌, ◌⊗◌}
use Rattle.floats.specs.Scalar.{is_finite}
use Rattle.floats.specs.Value.{exact_value_of, spacing_of, ZeroOrNormal}
use Rattle.floats.specs.Vector.{Axis, component, mul_of, component_mul_of}
use Rattle.floats.proofs.VectorLaws.{add-component, sub-component, mul-component, component-mul-component}
use Rattle.floats.proofs.IntegerParts.{plus, less, Is, neg-plus, neg-less, sum_is, diff_is, times-plus, times-less, twice-abs-le, abs-above, abs-below}
use Rattle.floats.proofs.SumError.{add-near, sub-near, add-finite, sub-finite}
use Rattle.floats.proofs.ProductExact.{product-exact}
use Rattle.rows.specs.Step.{applied_of, step_of, warmstart_of}
use Rattle.rows.specs.Momentum.{inverse_mass, momentum_of, momentum_spacing, momentum_sum, PowersOfTwo, Binary32, InRange, DriftBound, impulse_change_of, StepDrift}
use Rattle.rows.specs.declared.joint_velocity_constraint.JointConstraint.{JointConstraint}
use Rattle.rows.specs.declared.joint_velocity_constraint.SolverVel.{SolverVel}

-- ---- whole numbers: n1 is v1 + q1 but for s1 / 2, n2 is v2 - q2 but for s2 / 2, and q1 · k1 = q2 · k2

total-is : (n1 n2 v1 v2 : ℤ) → Is (n1 +ℤ n2 -ℤ (v1 +ℤ v2)) (plus n1 + plus n2 + (less v1 + less v2)) (less n1 + less n2 + (plus v1 + plus v2))
total-is n1 n2 v1 v2 = record { is = omega (arith, (diff_is (n1 +ℤ n2) (v1 +ℤ v2)).is, (sum_is n1 n2).is, (sum_is v1 v2).is) }

-- the bound on one body's momentum: its change is q · k but for s · k / 2
record Moved (n v q : ℤ) (k r : ℕ) : Type 0 where
  above : 2 * (plus (n *ℤ pos k) + less (v *ℤ pos k) + less (q *ℤ pos k)) ≤ 2 * (less (n *ℤ pos k) + plus (v *ℤ pos k) + plus (q *ℤ pos k)) + r
  below : 2 * (less (n *ℤ pos k) + plus (v *ℤ pos k) + plus (q *ℤ pos k)) ≤ 2 * (plus (n *ℤ pos k) + less (v *ℤ pos k) + less (q *ℤ pos k)) + r

moved : (n v q : ℤ) (k s : ℕ) → 2 * nat_abs (n -ℤ (v +ℤ q)) ≤ s → Moved n v q k (s * k)
moved n v q k s h =
    let y = (sum_is v q).is in
    let d = (diff_is n (v +ℤ q)).is in
    let a = abs-above (n -ℤ (v +ℤ q)) in
    let b = abs-below (n -ℤ (v +ℤ q)) in
    let u : 2 * (plus n + less v + less q) ≤ 2 * (less n + plus v + plus q) + s = omega arith in
    let l : 2 * (less n + plus v + plus q) ≤ 2 * (plus n + less v + less q) + s = omega arith in
    spread (mul-le-mul_right k u) (mul-le-mul_right k l)
  where
    spread : 2 * (plus n + less v + less q) * k ≤ (2 * (less n + plus v + plus q) + s) * k → 2 * (less n + plus v + plus q) * k ≤ (2 * (plus n + less v + less q) + s) * k → Moved n v q k (s * k)
    spread x y = record {
      above = rw (times-plus n k, times-less v k, times-less q k, times-less n k, times-plus v k, times-plus q k) (omega arith);
      below = rw (times-plus n k, times-less v k, times-less q k, times-less n k, times-plus v k, times-plus q k) (omega arith);
    }

neg-times : (q : ℤ) (k : ℕ) → (plus (neg_ℤ q *ℤ pos k) ≡ less (q *ℤ pos k)) × (less (neg_ℤ q *ℤ pos k) ≡ plus (q *ℤ pos k))
neg-times q k = (
  times-plus (neg_ℤ q) k ∙ ap (λ (x : ℕ). x * k) (neg-plus q) ∙ sym (times-less q k),
  times-less (neg_ℤ q) k ∙ ap (λ (x : ℕ). x * k) (neg-less q) ∙ sym (times-plus q k),
)

drift : (n1 v1 q1 n2 v2 q2 : ℤ) (k1 k2 s1 s2 : ℕ) → 2 * nat_abs (n1 -ℤ (v1 +ℤ q1)) ≤ s1 → 2 * nat_abs (n2 -ℤ (v2 -ℤ q2)) ≤ s2 → q1 *ℤ pos k1 ≡ q2 *ℤ pos k2
    → 2 * nat_abs (n1 *ℤ pos k1 +ℤ n2 *ℤ pos k2 -ℤ (v1 *ℤ pos k1 +ℤ v2 *ℤ pos k2)) ≤ s1 * k1 + s2 * k2
drift n1 v1 q1 n2 v2 q2 k1 k2 s1 s2 h1 h2 e =
    let m1 = moved n1 v1 q1 k1 s1 h1 in
    let m2 = moved n2 v2 (neg_ℤ q2) k2 s2 h2 in
    let o = neg-times q2 k2 in
    let p : plus (q1 *ℤ pos k1) ≡ plus (q2 *ℤ pos k2) = ap plus e in
    let l : less (q1 *ℤ pos k1) ≡ less (q2 *ℤ pos k2) = ap less e in
    let N1 = n1 *ℤ pos k1 in
    let N2 = n2 *ℤ pos k2 in
    let V1 = v1 *ℤ pos k1 in
    let V2 = v2 *ℤ pos k2 in
    twice-abs-le (N1 +ℤ N2 -ℤ (V1 +ℤ V2)) (plus N1 + plus N2 + (less V1 + less V2)) (less N1 + less N2 + (plus V1 + plus V2)) (s1 * k1 + s2 * k2) (total-is N1 N2 V1 V2)
    (omega (arith, m1.above, m2.above, o.0, o.1))
    (omega (arith, m1.below, m2.below, o.0, o.1))

-- ---- one axis: the impulse component q

axis-drift : (v1 v2 q m1 m2 : Float) (w1 w2 : ℕ) → w1 ≤ 40 → w2 ≤ 40 → m1 ≡ inverse_mass w1 → m2 ≡ inverse_mass w2
    → T (fits binary32 v1) → T (fits binary32 v2) → T (fits binary32 q) → T (is_finite (v1 ⊕ q ⊗ m1)) → T (is_finite (v2 ⊖ q ⊗ m2)) → ZeroOrNormal q m1 → ZeroOrNormal q m2
    → 2 * nat_abs (momentum_of w1 (v1 ⊕ q ⊗ m1) +ℤ momentum_of w2 (v2 ⊖ q ⊗ m2) -ℤ (momentum_of w1 v1 +ℤ momentum_of w2 v2)) ≤ momentum_spacing w1 (v1 ⊕ q ⊗ m1) + momentum_spacing w2 (v2 ⊖ q ⊗ m2)
axis-drift v1 v2 q m1 m2 w1 w2 r1 r2 e1 e2 t1 t2 t f1 f2 z1 z2 =
    drift (exact_value_of (v1 ⊕ q ⊗ m1)) (exact_value_of v1) (exact_value_of (q ⊗ m1)) (exact_value_of (v2 ⊖ q ⊗ m2)) (exact_value_of v2) (exact_value_of (q ⊗ m2)) (2 ^ w1) (2 ^ w2) (spacing_of (v1 ⊕ q ⊗ m1)) (spacing_of (v2 ⊖ q ⊗ m2))
    (add-near v1 (q ⊗ m1) t1 (mul-fits binary32 q m1) f1)
    (sub-near v2 (q ⊗ m2) t2 (mul-fits binary32 q m2) f2)
    (exact m1 w1 r1 e1 z1 (add-finite v1 (q ⊗ m1) f1) ∙ sym (exact m2 w2 r2 e2 z2 (sub-finite v2 (q ⊗ m2) f2)))
  where
    exact : (m : Float) (w : ℕ) → w ≤ 40 → m ≡ inverse_mass w → ZeroOrNormal q m → T (is_finite (q ⊗ m)) → exact_value_of (q ⊗ m) *ℤ pos (2 ^ w) ≡ exact_value_of q *ℤ pos (2 ^ 20)
    exact m w r e z f =
        ap (λ (x : Float). exact_value_of (q ⊗ x) *ℤ pos (2 ^ w)) e
        ∙ product-exact q w r t (subst (λ (x : Float). ZeroOrNormal q x) e z) (subst (λ (x : Float). T (is_finite (q ⊗ x))) e f)

-- ---- the row

holds : {b : Bool} → b ≡ true → T b
holds e = subst T (sym e) tt

module _ (c : JointConstraint) (v1 v2 : SolverVel) (p : Float) (i : Axis) where
  -- a component of the rounded impulse
  abbrev impulse : Float
  impulse = component i (mul_of c.lin_jac p)

  impulse-fits : T (fits binary32 impulse)
  impulse-fits = subst (λ (x : Float). T (fits binary32 x)) (sym (mul-component i c.lin_jac p)) (mul-fits binary32 (component i c.lin_jac) p)

  -- the same component of the new velocities
  new1-is : component i (applied_of c v1 v2 p).vel1.linear ≡ component i v1.linear ⊕ impulse ⊗ component i c.im1
  unfolding applied_of
  new1-is =
      add-component i v1.linear (component_mul_of (mul_of c.lin_jac p) c.im1)
      ∙ ap (λ (x : Float). component i v1.linear ⊕ x) (component-mul-component i (mul_of c.lin_jac p) c.im1)

  new2-is : component i (applied_of c v1 v2 p).vel2.linear ≡ component i v2.linear ⊖ impulse ⊗ component i c.im2
  unfolding applied_of
  new2-is =
      sub-component i v2.linear (component_mul_of (mul_of c.lin_jac p) c.im2)
      ∙ ap (λ (x : Float). component i v2.linear ⊖ x) (component-mul-component i (mul_of c.lin_jac p) c.im2)

pub applied-drifts : (c : JointConstraint) (v1 v2 : SolverVel) (p : Float) (w1 w2 : ℕ) → PowersOfTwo c w1 w2 → Binary32 v1 → Binary32 v2 → InRange c v1 v2 p
    → DriftBound w1 w2 v1 v2 (applied_of c v1 v2 p)
applied-drifts c v1 v2 p w1 w2 m h1 h2 t i =
    let e1 = new1-is c v1 v2 p i in
    let e2 = new2-is c v1 v2 p i in
    subst (λ (x : Float). Bound x (component i (applied_of c v1 v2 p).vel2.linear)) (sym e1)
    (subst (λ (x : Float). Bound (component i v1.linear ⊕ impulse c v1 v2 p i ⊗ component i c.im1) x) (sym e2)
    (axis-drift (component i v1.linear) (component i v2.linear) (impulse c v1 v2 p i) (component i c.im1) (component i c.im2) w1 w2
    m.range1 m.range2 (m.mass1 i) (m.mass2 i) (holds (h1 i)) (holds (h2 i)) (impulse-fits c v1 v2 p i)
    (subst (λ (x : Float). T (is_finite x)) e1 (holds (t.finite1 i))) (subst (λ (x : Float). T (is_finite x)) e2 (holds (t.finite2 i))) (t.normal1 i) (t.normal2 i)))
  where
    -- the claim, of any two new velocities
    Bound : Float → Float → Type 0
    Bound n1 n2 =
        2 * nat_abs (momentum_of w1 n1 +ℤ momentum_of w2 n2 -ℤ momentum_sum w1 w2 i v1 v2) ≤ momentum_spacing w1 n1 + momentum_spacing w2 n2

pub step-drifts : StepDrift
unfolding step_of
step-drifts c v1 v2 w1 w2 m h1 h2 t = applied-drifts c v1 v2 (impulse_change_of c v1 v2) w1 w2 m h1 h2 t

pub warmstart-drifts : (c : JointConstraint) (v1 v2 : SolverVel) (w1 w2 : ℕ) → PowersOfTwo c w1 w2 → Binary32 v1 → Binary32 v2 → InRange c v1 v2 c.impulse
    → DriftBound w1 w2 v1 v2 (warmstart_of c v1 v2)
unfolding warmstart_of
warmstart-drifts c v1 v2 w1 w2 m h1 h2 t = applied-drifts c v1 v2 c.impulse w1 w2 m h1 h2 t

-- the new velocities are binary32 numbers, whatever the old ones are
pub step-binary32-1 : (c : JointConstraint) (v1 v2 : SolverVel) → Binary32 (step_of c v1 v2).vels.vel1
unfolding step_of
step-binary32-1 c v1 v2 i = ap (fits binary32) (new1-is c v1 v2 (impulse_change_of c v1 v2) i) ∙ is_true _ (add-fits binary32 _ _)

pub step-binary32-2 : (c : JointConstraint) (v1 v2 : SolverVel) → Binary32 (step_of c v1 v2).vels.vel2
unfolding step_of
step-binary32-2 c v1 v2 i = ap (fits binary32) (new2-is c v1 v2 (impulse_change_of c v1 v2) i) ∙ is_true _ (sub-fits binary32 _ _)
