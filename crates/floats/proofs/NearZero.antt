-- Near zero the recipe and the tangent agree to within one unit of the recipe's grid. For a T below 2 ^ 20 the power p1 is zero, so S(T) is T (`arc-near`).
-- So where the angle is t itself, the recipe's A is the whole part of t · 2 ^ 30: in units t lies from A to below A + 1 (`within-a-unit`).
-- At the border, t = 2 ^ -12, the recipe takes over with A / 2 ^ 30 = t (`border`).
use Rattle.std.proofs.Common.{◌≡◌, ℕ, ◌+◌, ◌-◌, ◌*◌, ◌/◌, ◌^◌, ◌<◌, ◌≤◌, Bool, true, false, not, ◌&&◌, T, ℤ, refl, ap, ◌∙◌, mul_comm, div-lt_iff_lt-mul, mul-le-mul, zero-add, div-mul-le_self, div-one, arith, ltb-true, le-ltb, lt-ltb}
use native.Mathlib.Nat.{div-eq_of_lt, lt-mul-div-succ}
use lib.Ieee.{Float, nan, inf, fin, up, down, lt, of_bits}
use lib.Ieee.Fits.{down_pos}
use Rattle.floats.specs.Operators.{bits}
use Rattle.floats.specs.Scalar.{is_finite}
use Rattle.floats.specs.Sign.{sign_bit, abs_of}
use Rattle.floats.specs.Angle.{series_from, series, arc, tangent_units, tangent_of, near_zero, angle_units}
use Rattle.floats.proofs.UnitInterval.{InUnit, unit-cases, ratio-in-unit}
use Rattle.floats.proofs.Series.{rest-zero}

-- ---- the recipe for a small T

-- p1 is zero
first-power : (w : ℕ) → w < 2 ^ 20 → w * (w * w / 2 ^ 30) / 2 ^ 30 ≡ 0
first-power w h =
    let l : w ≤ 2 ^ 20 - 1 = omega arith in
    let u : w * w / 2 ^ 30 ≤ 2 ^ 10 - 1 = omega (arith, div-mul-le_self (w * w) (2 ^ 30), mul-le-mul l l) in
    div-eq_of_lt (omega (arith, mul-le-mul l u))

series-near : (w : ℕ) → w < 2 ^ 20 → series w ≡ w
unfolding series series_from
series-near w h =
    ap (λ (p : ℕ). series_from 14 1 (w * w / 2 ^ 30) p (0 + w / 1)) (first-power w h)
    ∙ rest-zero 14 1 (w * w / 2 ^ 30) (0 + w / 1)
    ∙ simp (zero-add, div-one)

pub arc-near : (w : ℕ) → w < 2 ^ 20 → arc w ≡ w
unfolding arc
arc-near w h = let l : w < 2 ^ 29 = omega arith in simp (lt-ltb w (2 ^ 29) l) (series-near w h)

pub border : arc (2 ^ 18) ≡ 2 ^ 18
border = arc-near (2 ^ 18) (omega arith)

-- ---- the tests of the branch

both : (a b : Bool) → (a && b) ≡ true → (a ≡ true) × (b ≡ true)
both true b h = (refl, h)
both false b h = (h, cc)

clear : (b : Bool) → not b ≡ true → b ≡ false
clear true h = cc
clear false h = refl

-- |im| < |re|, so not the other way round
not-steep : (re im : Float) → T (is_finite re) → T (is_finite im) → lt (abs_of im) (abs_of re) ≡ true → lt (abs_of re) (abs_of im) ≡ false
unfolding is_finite abs_of lt
not-steep nan im p q h = absurd p
not-steep (inf s) im p q h = absurd p
not-steep (fin s m e) nan p q h = absurd q
not-steep (fin s m e) (inf t) p q h = absurd q
not-steep (fin s m e) (fin t n d) p q h =
    let l = ltb-true (n * up d * down e) (m * up e * down d) h in
    le-ltb (m * up e * down d) (n * up d * down e) (omega arith)

small : (t : Float) → InUnit t → lt t (bits 0x3980_0000) ≡ true → tangent_units t < 2 ^ 18
unfolding tangent_units lt of_bits
small = unit-cases (λ (t : Float). lt t (bits 0x3980_0000) ≡ true → tangent_units t < 2 ^ 18) (λ m e _ h. below m e (ltb-true (m * up e * 2 ^ 12) (1 * down e) h))
  where
    below : (m : ℕ) (e : ℤ) → m * up e * 2 ^ 12 < 1 * down e → m * up e * 2 ^ 30 / down e < 2 ^ 18
    below m e l = (div-lt_iff_lt-mul (down_pos e)).1 (omega arith)

-- ---- where the angle is t itself

module _ (re im : Float) (p : T (is_finite re)) (q : T (is_finite im)) (h : near_zero re im ≡ true) where
  -- the recipe's A is T
  pub recipe-near : angle_units re im ≡ tangent_units (tangent_of re im)
  unfolding near_zero angle_units
  recipe-near =
      let a = both (not (sign_bit re)) _ h in
      let b = both (lt (abs_of im) (abs_of re)) _ a.1 in
      let l = small (tangent_of re im) (ratio-in-unit re im p q) b.1 in
      simp (clear (sign_bit re) a.0, not-steep re im p q b.0) (arc-near (tangent_units (tangent_of re im)) (omega arith))

  pub within-a-unit : (m : ℕ) (e : ℤ) → tangent_of re im ≡ fin false m e
      → (angle_units re im * down e ≤ m * up e * 2 ^ 30) × (m * up e * 2 ^ 30 < (angle_units re im + 1) * down e)
  unfolding tangent_units
  within-a-unit m e t =
      let n = m * up e * 2 ^ 30 in
      let a : angle_units re im ≡ n / down e = recipe-near ∙ ap tangent_units t in
      rw a (div-mul-le_self n (down e), rw (mul_comm (n / down e + 1) (down e)) (lt-mul-div-succ n (down_pos e)))
