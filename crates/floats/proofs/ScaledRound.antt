-- To round n / 2 ^ t once, a program may round n and divide by 2 ^ t, as long as n / 2 ^ t is in the normal range and n does not round to an infinity (`scaled`):
-- the division is then exact. It holds for each n below 2 ^ 32 at t = 30 (`from-units`).
use Rattle.std.proofs.Common.{◌≡◌, ℕ, zero, suc, ◌*◌, ◌/◌, ◌^◌, ◌<◌, ◌≤◌, Bool, false, T, pos, sym, refl, ap, ◌∙◌, subst, le_trans, lt_of_le_of_lt, mul-le-mul_right, zero-lt-suc, mul_assoc, mul-pos, one-mul, mul-one, le-mul_of_pos_right, arith, lit≤, pow_pos}
use lib.Ieee.{Float, nan, inf, fin, Format, binary32, prec, low, up, down, unlike, size, round, div}
use lib.Ieee.Exact.{HasValue}
use lib.Ieee.Fits.{down_pos}
use lib.Ieee.Order.{round_mono}
use lib.Ieee.Positive.{positive-finite, between}
use lib.Ieee.Scale.{grid, overflow, finite, round_same, round_val, round_under, grid_scale, normal_of_fraction}
use Rattle.floats.proofs.Values.{round-again}

-- G * 2 ^ t units over 2 ^ t
quotient : (f : Format) (x : Float) (G t : ℕ) → HasValue x false (G * 2 ^ t) (2 ^ low f) → div f x (fin false 1 (pos t)) ≡ round f false G (2 ^ low f)
unfolding div
quotient f nan G t v = absurd v
quotient f (inf s) G t v = absurd v
quotient f (fin s m e) G t v =
    ap (λ (b : Bool). round f (unlike b false) (m * up e * 1) (1 * 2 ^ t * down e)) v.0
    ∙ round_same f false (m * up e * 1) (1 * 2 ^ t * down e) G (2 ^ low f) (mul-pos (mul-pos (pow_pos 0) (pow_pos t)) (down_pos e)) (pow_pos (low f))
    (rw (mul-one, one-mul) (v.1 ∙ mul_assoc G (2 ^ t) (down e)))

pub scaled : (f : Format) (n t : ℕ) → prec f ≤ size (n * 2 ^ low f / 2 ^ t) → T (finite (round f false n 1)) → div f (round f false n 1) (fin false 1 (pos t)) ≡ round f false n (2 ^ t)
scaled f n t N F =
    let G = grid f n (2 ^ t) in
    let whole : round f false n 1 ≡ round f false (n * 2 ^ t) (2 ^ t) = round_same f false n 1 (n * 2 ^ t) (2 ^ t) (pow_pos 0) (pow_pos t) (sym (mul-one (n * 2 ^ t))) in
    let g : grid f (n * 2 ^ t) (2 ^ t) ≡ G * 2 ^ t = grid_scale f n (2 ^ t) t (pow_pos t) N in
    let o : grid f (n * 2 ^ t) (2 ^ t) < overflow f = round_under f (n * 2 ^ t) (2 ^ t) (subst (λ (x : Float). T (finite x)) whole F) in
    let v : HasValue (round f false n 1) false (G * 2 ^ t) (2 ^ low f) =
    subst (λ (x : Float). HasValue x false (G * 2 ^ t) (2 ^ low f)) (sym whole)
    (subst (λ (z : ℕ). HasValue (round f false (n * 2 ^ t) (2 ^ t)) false z (2 ^ low f)) g (round_val f (n * 2 ^ t) (2 ^ t) o)) in
    quotient f (round f false n 1) G t v
    ∙ round-again f n (2 ^ t) (lt_of_le_of_lt (le-mul_of_pos_right G (pow_pos t)) (subst (λ (z : ℕ). z < overflow f) g o))

-- a number from 1 to 2 ^ 32 rounds to a value from 1 to 2 ^ 32
finite-below : (n : ℕ) → 0 < n → n < 2 ^ 32 → T (finite (round binary32 false n 1))
unfolding round
finite-below n p h =
    positive-finite (round binary32 false n 1)
    (between (round binary32 false 1 1) (round binary32 false n 1) (round binary32 false (2 ^ 32) 1) tt tt
    (round_mono binary32 1 1 n 1 (pow_pos 0) (pow_pos 0) (omega arith))
    (round_mono binary32 n 1 (2 ^ 32) 1 (pow_pos 0) (pow_pos 0) (omega arith)))

pub from-units : (n : ℕ) → n < 2 ^ 32 → div binary32 (round binary32 false n 1) (fin false 1 (pos 30)) ≡ round binary32 false n (2 ^ 30)
from-units zero h = unfold div round in refl
from-units (suc n) h =
    scaled binary32 (suc n) 30
    (normal_of_fraction binary32 (suc n) (2 ^ 30) (pow_pos 30) (le_trans (lit≤ tt) (mul-le-mul_right (2 ^ 149) (zero-lt-suc n))))
    (finite-below (suc n) (omega arith) h)
