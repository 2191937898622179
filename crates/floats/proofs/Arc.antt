-- The sizes of an angle in units: `arc` is at most an eighth of a turn, for a tangent up to 1, and the folds stay below 2 ^ 32. So A is below 2 ^ 32 (`angle-units-lt`).
use Rattle.std.proofs.Common.{ℕ, ◌+◌, ◌-◌, ◌*◌, ◌/◌, ◌^◌, ◌<◌, ◌≤◌, Bool, true, false, cond, T, ltb, sub-le, arith, ltb→lt}
use native.Mathlib.Nat.{div-le_of_le-mul}
use lib.Ieee.{Float, lt}
use Rattle.floats.specs.Scalar.{is_finite}
use Rattle.floats.specs.Sign.{sign_bit, abs_of}
use Rattle.floats.specs.Angle.{eighth_turn, series, arc, folded, ratio, tangent_units, angle_units}
use Rattle.floats.proofs.UnitInterval.{ratio-in-unit}
use Rattle.floats.proofs.WholeUnits.{units-le}
use Rattle.floats.proofs.Series.{series-le}

-- for a tangent T of a half or more, the tangent of what is missing to an eighth of a turn
pub rest_le : (T : ℕ) → 2 ^ 29 ≤ T → (2 ^ 30 - T) * 2 ^ 30 / (2 ^ 30 + T) ≤ 2 ^ 29
rest_le T h = div-le_of_le-mul (2 ^ 30 + T) (omega arith)

within : (t : ℕ) → t < 2 ^ 29 → series t ≤ eighth_turn
within t l = let h : t ≤ 2 ^ 30 = omega arith in omega (arith, series-le t h)

pub arc-le : (t : ℕ) → t ≤ 2 ^ 30 → arc t ≤ eighth_turn
unfolding arc
arc-le t h = go (ltb t (2 ^ 29)) (ltb→lt t (2 ^ 29))
  where
    go : (b : Bool) → (T b → t < 2 ^ 29) → cond b (series t) (eighth_turn - series ((2 ^ 30 - t) * 2 ^ 30 / (2 ^ 30 + t))) ≤ eighth_turn
    go true l = within t (l tt)
    go false l = sub-le eighth_turn (series ((2 ^ 30 - t) * 2 ^ 30 / (2 ^ 30 + t)))

-- what `arc` takes off an eighth of a turn is at most a half radian, so the difference is not cut off at 0
pub arc-whole : (t : ℕ) → 2 ^ 29 ≤ t → series ((2 ^ 30 - t) * 2 ^ 30 / (2 ^ 30 + t)) ≤ 2 ^ 29
arc-whole t h = let l = rest_le t h in omega (arith, series-le ((2 ^ 30 - t) * 2 ^ 30 / (2 ^ 30 + t)) (omega arith))

pub folded-lt : (steep obtuse : Bool) (a : ℕ) → a ≤ eighth_turn → folded steep obtuse a < 2 ^ 32
folded-lt true true a h = omega arith
folded-lt true false a h = omega arith
folded-lt false true a h = omega arith
folded-lt false false a h = omega arith

pub angle-units-lt : (re im : Float) → T (is_finite re) → T (is_finite im) → angle_units re im < 2 ^ 32
unfolding angle_units
angle-units-lt re im p q =
    let t = ratio (abs_of re) (abs_of im) in
    folded-lt (lt (abs_of re) (abs_of im)) (sign_bit re) (arc (tangent_units t)) (arc-le (tangent_units t) (units-le t (ratio-in-unit re im p q)))
