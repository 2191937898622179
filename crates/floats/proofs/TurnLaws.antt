-- The size of an angle within its turn. A finite number of d · 2 ^ k times 2 ^ -149 is d · 2 ^ k / 2 ^ 119 units, rounded down (`finite-angle`). For a k of 119 or more that is d · 2 ^ (k - 119)
-- (`shifted_up`), which is doubled with whole turns off (`once_more`), and for a smaller one it is d / 2 ^ (119 - k), below a turn (`shifted_down`), and 0 up to k = 95 (`below_one`). Assumes nothing.
use Rattle.std.proofs.Common.{◌≡◌, ℕ, ◌+◌, ◌-◌, ◌*◌, ◌/◌, ◌%◌, ◌^◌, ◌<◌, ◌≤◌, Bool, sym, refl, ap, ◌∙◌, lt_of_lt_of_le, lt_of_le_of_lt, mod-eq_of_lt, mul_assoc, mul-one, div-le_self, mul-div_cancel, arith, pow_pos, pow_mono, pow-add, shl_lt}
use native.Mathlib.Nat.{mul-div-mul_right, add-mod, div-eq_of_lt, zero-mod}
use lib.Ieee.{Float, nan, inf, fin, up, down}
use lib.Ieee.Digits.{back}
use lib.Ieee.Fits.{down_pos}
use lib.Ieee.Nearest.{div_same}
use Rattle.floats.specs.Bits.{parts_of}
use Rattle.floats.specs.SinCos.{turn, place_pair, rotation_from_angle_of}
use Rattle.floats.specs.declared.bits.Parts.TheVariants as parts
use Rattle.floats.proofs.BitsLaws.{Finite-parts, differ}

-- ---- doubling

double-mod : (x m : ℕ) → x % m * 2 % m ≡ x * 2 % m
double-mod x m = ap (λ (y : ℕ). y % m) (twice (x % m)) ∙ sym (add-mod x x m) ∙ ap (λ (y : ℕ). y % m) (sym (twice x))
  where
    twice : (y : ℕ) → y * 2 ≡ y + y
    twice y = omega arith

pub once_more : (d i w : ℕ) → w ≡ d * 2 ^ i % turn → w * 2 % turn ≡ d * 2 ^ (i + 1) % turn
once_more d i w h =
    ap (λ (y : ℕ). y * 2 % turn) h ∙ double-mod (d * 2 ^ i) turn ∙ ap (λ (y : ℕ). y % turn) (mul_assoc d (2 ^ i) 2 ∙ ap (λ (y : ℕ). d * y) (sym (pow-add 2 i 1)))

pub not_yet : (d : ℕ) → d < 2 ^ 24 → d ≡ d * 2 ^ 0 % turn
not_yet d h = sym (ap (λ (y : ℕ). y % turn) (mul-one d) ∙ mod-eq_of_lt (lt_of_lt_of_le h (omega arith)))

-- ---- the shift

pub shifted_up : (d k : ℕ) → 119 ≤ k → d * 2 ^ (k - 119) % turn ≡ d * 2 ^ k / 2 ^ 119 % turn
shifted_up d k h =
    ap (λ (y : ℕ). y % turn)
    (sym (ap (λ (y : ℕ). y / 2 ^ 119) (ap (λ (j : ℕ). d * 2 ^ j) (sym (back k 119 h)) ∙ ap (λ (y : ℕ). d * y) (pow-add 2 (k - 119) 119) ∙ sym (mul_assoc d (2 ^ (k - 119)) (2 ^ 119)))
    ∙ mul-div_cancel (d * 2 ^ (k - 119)) (pow_pos 119)))

pub below_one : (d k : ℕ) → d < 2 ^ 24 → k ≤ 95 → 0 ≡ d * 2 ^ k / 2 ^ 119 % turn
below_one d k D K =
    sym (ap (λ (y : ℕ). y % turn) (div-eq_of_lt (lt_of_lt_of_le (shl_lt 24 k D) (pow_mono {i = 24 + k} {j = 119} (omega arith)))) ∙ zero-mod turn)

pub shifted_down : (d k : ℕ) → d < 2 ^ 24 → k < 119 → d / 2 ^ (119 - k) ≡ d * 2 ^ k / 2 ^ 119 % turn
shifted_down d k D K =
    let s = 119 - k in
    let e : d * 2 ^ k / 2 ^ 119 ≡ d / 2 ^ s =
    ap (λ (y : ℕ). d * 2 ^ k / y) (ap (λ (j : ℕ). 2 ^ j) (sym (back 119 k (omega arith))) ∙ pow-add 2 s k) ∙ mul-div-mul_right d (2 ^ s) (pow_pos k) in
    sym (ap (λ (y : ℕ). y % turn) e ∙ mod-eq_of_lt (lt_of_le_of_lt (div-le_self d (2 ^ s)) (lt_of_lt_of_le D (omega arith))))

-- ---- the pair of a number, from its parts

pub finite-angle : {x : Float} {s : Bool} {d k : ℕ} → Finite-parts x s d k → rotation_from_angle_of x ≡ place_pair s (d * 2 ^ k / 2 ^ 119 % turn)
unfolding rotation_from_angle_of
finite-angle {x} {s} {d} {k} p =
    let m = p.significand in
    let e = p.exponent in
    ap rotation_from_angle_of p.is
    ∙ ap (λ (y : ℕ). place_pair s (y % turn))
    (div_same (m * up e * 2 ^ 30) (down e) (d * 2 ^ k) (2 ^ 119) (down_pos e) (pow_pos 119)
    (mul_assoc (m * up e) (2 ^ 30) (2 ^ 119) ∙ sym p.exact ∙ ap (λ (y : ℕ). y * down e) p.size))

pub nan-angle : (x : Float) → parts_of x ≡ parts.Nan → rotation_from_angle_of nan ≡ rotation_from_angle_of x
unfolding parts_of
nan-angle nan h = refl
nan-angle (inf s) h = absurd (differ (cc))
nan-angle (fin s m e) h = absurd (differ (cc))

pub infinite-angle : (x : Float) (s : Bool) → parts_of x ≡ parts.Infinite s → rotation_from_angle_of nan ≡ rotation_from_angle_of x
unfolding parts_of rotation_from_angle_of
infinite-angle nan s h = absurd (differ (cc))
infinite-angle (inf t) s h = refl
infinite-angle (fin t m e) s h = absurd (differ (cc))
