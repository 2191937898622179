-- Document 01's angle of (re, im): integer work, with one rounding at the end; and near zero the tangent itself (request R-7).
use Rattle.std.specs.Prelude.{ℕ, zero, suc, ◌+◌, ◌-◌, ◌*◌, ◌/◌, ◌%◌, ◌^◌, Bool, false, cond, not, ◌&&◌, pos, ◌==◌, nat_le, nat_lt, Float}
use Rattle.std.specs.Float.{nan, inf, fin, binary32}
use Rattle.std.specs.Float.Ieee.{up, down, round, neg, lt, eq}
use Rattle.floats.specs.Operators.{◌⊘◌}
use Rattle.floats.specs.Constants.{small_tangent}
use Rattle.floats.specs.Scalar.{min_of, max_of, is_finite}
use Rattle.floats.specs.Sign.{sign_bit, abs_of}
use Rattle.floats.specs.declared.angle.SeriesSum.{SeriesSum}

-- ---- S(w): u = floor(w² / 2 ^ 30), p0 = w, next p = floor(p·u / 2 ^ 30), and the sum of (-1) ^ k · floor(pk / (2k + 1))

-- the sum once term k is counted in: added at an even k, taken off at an odd one
abbrev pub with_term : ℕ → ℕ → ℕ → ℕ
with_term k p sum = cond (k % 2 == 0) (sum + p / (2 * k + 1)) (sum - p / (2 * k + 1))

-- the sum after `left` more terms, from term k on, whose power is p
unfoldable pub series_from : ℕ → ℕ → ℕ → ℕ → ℕ → ℕ
series_from zero k u p sum = sum
series_from (suc left) k u p sum = series_from left (k + 1) u (p * u / 2 ^ 30) (with_term k p sum)

-- the number of terms: k = 0 to 14
abbrev pub term_count : ℕ
term_count = 15

unfoldable pub series : ℕ → ℕ
series w = series_from term_count 0 (w * w / 2 ^ 30) w 0

-- ---- how many terms a loop has to add (request R-5): a power that is zero adds nothing, and no later one does

-- pk
unfoldable pub power : ℕ → ℕ → ℕ
power w zero = w
power w (suc k) = power w k * (w * w / 2 ^ 30) / 2 ^ 30

-- how many of the first n powers, p0 to p(n - 1), are not zero
unfoldable pub nonzero_powers : ℕ → ℕ → ℕ
nonzero_powers w zero = 0
nonzero_powers w (suc k) = nonzero_powers w k + cond (power w k == 0) 0 1

-- S(w), and the number of nonzero powers among p0 to p14
unfoldable pub series_sum : ℕ → SeriesSum
series_sum w = record { sum = series w; terms = nonzero_powers w term_count }

-- the same for any w: there is no sum above 2 ^ 30
unfoldable pub series_sum_up_to : ℕ → SeriesSum
series_sum_up_to w = cond (nat_le w (2 ^ 30)) (series_sum w) (record { sum = 0; terms = 0 })

-- ---- A, in units of 2 ^ -30 radian

-- an eighth, a quarter and a half of a turn
abbrev pub eighth_turn : ℕ
eighth_turn = 843314857

abbrev pub quarter_turn : ℕ
quarter_turn = 1686629713

abbrev pub half_turn : ℕ
half_turn = 3373259426

-- the angle whose tangent is T units, for a T up to 2 ^ 30: from a half on, by the tangent of what is missing to an eighth of a turn
unfoldable pub arc : ℕ → ℕ
arc T = cond (nat_lt T (2 ^ 29)) (series T) (eighth_turn - series ((2 ^ 30 - T) * 2 ^ 30 / (2 ^ 30 + T)))

-- taken from a quarter turn where |im| > |re| (`steep`), then from a half turn where re's sign bit is set (`obtuse`)
abbrev pub folded : Bool → Bool → ℕ → ℕ
folded steep obtuse A = let B = cond steep (quarter_turn - A) A in cond obtuse (half_turn - B) B

-- ---- t and T

-- +0
abbrev pub plus_zero : Float
plus_zero = fin false 0 (pos 0)

-- t of the magnitudes a and b: the smaller over the larger, rounded; 0 if both are zero
unfoldable pub ratio : Float → Float → Float
ratio a b = cond (eq a plus_zero && eq b plus_zero) plus_zero (min_of a b ⊘ max_of a b)

-- T: floor(t · 2 ^ 30)
unfoldable pub tangent_units : Float → ℕ
tangent_units nan = 0
tangent_units (inf s) = 0
tangent_units (fin s m e) = m * up e * 2 ^ 30 / down e

-- t of (re, im)
abbrev pub tangent_of : Float → Float → Float
tangent_of re im = ratio (abs_of re) (abs_of im)

-- ---- the answer

-- A of (re, im)
unfoldable pub angle_units : Float → Float → ℕ
angle_units re im = folded (lt (abs_of re) (abs_of im)) (sign_bit re) (arc (tangent_units (tangent_of re im)))

-- near zero (request R-7): re's sign bit is clear, |im| < |re|, and t is below 2 ^ -12
unfoldable pub near_zero : Float → Float → Bool
near_zero re im = not (sign_bit re) && (lt (abs_of im) (abs_of re) && lt (tangent_of re im) small_tangent)

-- a magnitude with a sign
abbrev pub signed : Bool → Float → Float
signed negative x = cond negative (neg x) x

-- t itself with im's sign where it is near zero, and else A / 2 ^ 30 to the nearest f32 with im's sign bit; NaN if either is NaN or infinite
unfoldable pub angle_of : Float → Float → Float
angle_of re im =
    cond (is_finite re && is_finite im)
    (cond (near_zero re im) (signed (sign_bit im) (tangent_of re im)) (round binary32 (sign_bit im) (angle_units re im) (2 ^ 30)))
    nan
