-- The two ways of `target_velocity`, by the number's sign. The target of a number up to 8000000 is finite (`target-finite`).
use Rattle.std.proofs.Common.{◌≡◌, ℕ, ◌*◌, ◌^◌, ◌<◌, ◌≤◌, Bool, true, false, cond, not, T, pos, sym, refl, ap, ◌∙◌, subst, lt_of_lt_of_le, le_of_lt, mul-le-mul_right, mul-lt-mul_of_pos_right, mul-one, arith, lit≤, pow_pos}
use mathlib.Core.Bool.{false≢true}
use lib.Ieee.{Float, nan, inf, fin, binary32, up, down, unlike, round, neg, div, of_int, of_bits, lt, le, eq}
use lib.Ieee.Exact.{HasValue, units_val, round_exact}
use lib.Ieee.Fits.{down_pos, round_is}
use lib.Ieee.Order.{drop, kept, round_mono}
use lib.Ieee.Scale.{finite, round_under}
use Rattle.floats.specs.Operators.{◌⊘◌}
use Rattle.floats.specs.Scalar.{is_finite}
use Rattle.floats.specs.Sign.{sign_bit}
use Rattle.floats.proofs.Values.{round-sign}
use Rattle.motor_table.specs.WholeNumber.{largest_size}
use Rattle.motor_table.specs.Targets.{thousand, number_float, target_of}
use Rattle.motor_table.specs.declared.whole_number.Number.{Number}

signed : (n : Number) (t : Bool) → n.negative ≡ t
    → cond t (neg (of_int binary32 (pos n.size))) (of_int binary32 (pos n.size)) ⊘ thousand ≡ target_of n
unfolding target_of
signed n t h = ap (λ (b : Bool). cond b (neg (of_int binary32 (pos n.size))) (of_int binary32 (pos n.size)) ⊘ thousand) (sym h)

pub target_below : (n : Number) (x : Float) → x ≡ of_int binary32 (pos n.size) → n.negative ≡ true → neg x ⊘ thousand ≡ target_of n
target_below n x e h = ap (λ (y : Float). neg y ⊘ thousand) e ∙ signed n true h

pub target-above : (n : Number) (x : Float) → x ≡ of_int binary32 (pos n.size) → n.negative ≡ false → x ⊘ thousand ≡ target_of n
target-above n x e h = ap (λ (y : Float). y ⊘ thousand) e ∙ signed n false h

-- ---- the target of a number in a table is finite

-- a fraction up to 2 ^ 14, rounded with either sign
at-most-finite : (x : Float) → sign_bit x ≡ false → T (le x (fin false 1 (pos 14))) → T (finite x)
unfolding sign_bit le lt eq
at-most-finite nan h l = absurd l
at-most-finite (inf true) h l = absurd (false≢true (sym h))
at-most-finite (inf false) h l = absurd l
at-most-finite (fin s m e) h l = tt

largest : round binary32 false (2 ^ 14) 1 ≡ fin false 1 (pos 14)
unfolding round
largest = refl

has-finite : (x : Float) (s : Bool) (a c : ℕ) → HasValue x s a c → is_finite x ≡ true
unfolding is_finite
has-finite nan s a c v = absurd v
has-finite (inf t) s a c v = absurd v
has-finite (fin t m e) s a c v = refl

round-finite : (s : Bool) (a b : ℕ) → 0 < b → a ≤ 2 ^ 14 * b → is_finite (round binary32 s a b) ≡ true
round-finite s a b p h =
    let l : T (le (round binary32 false a b) (fin false 1 (pos 14))) =
    subst (λ (x : Float). T (le (round binary32 false a b) x)) largest (round_mono binary32 a b (2 ^ 14) 1 p (pow_pos 0) (omega arith)) in
    let under = round_under binary32 a b (at-most-finite (round binary32 false a b) (round-sign binary32 false a b) l) in
    let q = kept 24 (a * 2 ^ 149) b in
    let k = drop 24 (a * 2 ^ 149) b in
    has-finite (round binary32 s a b) s (q * 2 ^ k) (2 ^ 149)
    (subst (λ (z : Float). HasValue z s (q * 2 ^ k) (2 ^ 149)) (sym (round_is binary32 s a b)) (units_val binary32 s q k under))

thousand-is : thousand ≡ fin false 125 (pos 3)
unfolding of_bits
thousand-is = refl

-- a whole number up to 2 ^ 23, with either sign, over 1000
quotient-finite : (x : Float) (s : Bool) (n : ℕ) → n < 2 ^ 23 → HasValue x s n 1 → is_finite (x ⊘ fin false 125 (pos 3)) ≡ true
unfolding div
quotient-finite nan s n h v = absurd v
quotient-finite (inf t) s n h v = absurd v
quotient-finite (fin t m e) s n h v =
    let p = down_pos e in
    let d : 0 < 125 * up (pos 3) * down e = omega arith in
    let bound : n * down e ≤ 2 ^ 23 * down e = mul-le-mul_right (down e) (le_of_lt h) in
    round-finite (unlike t false) (m * up e * 1) (125 * up (pos 3) * down e) d (omega (arith, v.1, bound))

whole-value : (n : ℕ) → n < 2 ^ 23 → HasValue (of_int binary32 (pos n)) false n 1
unfolding of_int
whole-value n h =
    round_exact binary32 false n 1 n 149 (pow_pos 0) (omega arith)
    (lt_of_lt_of_le (mul-lt-mul_of_pos_right h (pow_pos 149)) (lit≤ tt)) (sym (mul-one (n * 2 ^ 149)))

neg_value : (x : Float) (n : ℕ) → HasValue x false n 1 → HasValue (neg x) true n 1
unfolding neg
neg_value nan n v = v
neg_value (inf t) n v = v
neg_value (fin t m e) n v = (ap not v.0, v.1)

pub target-finite : (n : Number) → n.size ≤ largest_size → is_finite (target_of n) ≡ true
unfolding target_of
target-finite n h =
    let v = whole-value n.size (omega arith) in
    ap (λ (y : Float). is_finite (number_float n ⊘ y)) thousand-is ∙ go n.negative v
  where
    go : (t : Bool) → HasValue (of_int binary32 (pos n.size)) false n.size 1
        → is_finite (cond t (neg (of_int binary32 (pos n.size))) (of_int binary32 (pos n.size)) ⊘ fin false 125 (pos 3)) ≡ true
    go true v = quotient-finite (neg (of_int binary32 (pos n.size))) true n.size (omega arith) (neg_value (of_int binary32 (pos n.size)) n.size v)
    go false v = quotient-finite (of_int binary32 (pos n.size)) false n.size (omega arith) v
