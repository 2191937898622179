-- A format writes a number in one way: two values that it holds, of one sign and equal to one fraction, are the same (`same-value`).
-- So a value that has been rounded stays as it is when rounded again (`round-again`). The sign goes through `round` untouched (`round-sign`, `neg-round`).
use Rattle.std.proofs.Common.{◌≡◌, ℕ, zero, suc, ◌+◌, ◌-◌, ◌*◌, ◌/◌, ◌%◌, ◌^◌, ◌<◌, ◌≤◌, Bool, true, false, cond, T, ltb, sym, refl, ap, ◌∙◌, subst, inl, inr, le_trans, eq-or-lt_of_le, one-mul, mul_right_comm, arith, pow_pos, pow-add}
use Prim.Native.Nat.{compare}
use native.Mathlib.Nat.{div-div-eq-div-mul}
use lib.Ieee.{Float, nan, inf, fin, Format, binary32, binary64, prec, low, hid, top, up, down, size, odd, units, round, neg, fits, to_bits, of_bits}
use lib.Ieee.Bits.{of_bits-to_bits}
use lib.Ieee.Exact.{HasValue, round_exact}
use lib.Ieee.Fits.{down_pos, kept-lt, nearest-le, round_is, round-fits}
use lib.Ieee.Nearest.{div_same}
use lib.Ieee.Order.{drop, kept}
use lib.Ieee.Scale.{grid, overflow, round_val}
use Rattle.floats.specs.Sign.{sign_bit}

-- ---- one value, one pattern

-- the pattern of n units with the sign s
pattern : Format → Bool → ℕ → ℕ
pattern f s n = let k = size n - prec f in cond s (top f) 0 + k * hid f + n / 2 ^ k

value-bits : (f : Format) (x : Float) (s : Bool) (a c : ℕ) → 0 < c → HasValue x s a c → to_bits f x ≡ pattern f s (a * 2 ^ low f / c)
unfolding to_bits pattern
value-bits f nan s a c C v = absurd v
value-bits f (inf t) s a c C v = absurd v
value-bits f (fin t m e) s a c C v =
    let l = 2 ^ low f in
    ap (λ (b : Bool). pattern f b (m * up e * l / down e)) v.0
    ∙ ap (pattern f s)
    (div_same (m * up e * l) (down e) (a * l) c (down_pos e) C
    (mul_right_comm (m * up e) l c ∙ ap (λ (z : ℕ). z * l) v.1 ∙ mul_right_comm a (down e) l))

pub same-value : (f : Format) (x y : Float) (s : Bool) (a c : ℕ) → T (fits f x) → T (fits f y) → 0 < c → HasValue x s a c → HasValue y s a c → x ≡ y
same-value f x y s a c p q C v w =
    sym (of_bits-to_bits f x p)
    ∙ ap (of_bits f) (value-bits f x s a c C v ∙ sym (value-bits f y s a c C w))
    ∙ of_bits-to_bits f y q

-- ---- a rounded value, rounded again

kept-le : (p n den : ℕ) → kept p n den ≤ 2 ^ p
kept-le p n den =
    let k = drop p n den in
    let u = den * 2 ^ k in
    le_trans (nearest-le (n / u) (compare (n % u * 2) u)) (subst (λ (x : ℕ). x < 2 ^ p) (div-div-eq-div-mul n den (2 ^ k)) (kept-lt p (n / den)))

-- q * 2 ^ k units, for a q of at most prec digits or just past them, are a value of the format
held : (f : Format) (q k : ℕ) → q ≤ 2 ^ prec f → q * 2 ^ k < overflow f → HasValue (round f false (q * 2 ^ k) (2 ^ low f)) false (q * 2 ^ k) (2 ^ low f)
held f q k h o =
    elim (eq-or-lt_of_le h) [
      | inl e ↦
          let i : q * 2 ^ k ≡ 1 * 2 ^ (prec f + k) = ap (λ (x : ℕ). x * 2 ^ k) e ∙ sym (pow-add 2 (prec f) k) ∙ sym (one-mul (2 ^ (prec f + k))) in
          round_exact f false (q * 2 ^ k) (2 ^ low f) 1 (prec f + k) (pow_pos (low f)) (one-lt f) (subst (λ (x : ℕ). x < overflow f) i o) (ap (λ (x : ℕ). x * 2 ^ low f) i)
      | inr l ↦ round_exact f false (q * 2 ^ k) (2 ^ low f) q k (pow_pos (low f)) l o refl
    ]
  where
    one-lt : (f : Format) → 1 < 2 ^ prec f
    one-lt binary32 = omega arith
    one-lt binary64 = omega arith

pub round-again : (f : Format) (a c : ℕ) → grid f a c < overflow f → round f false (grid f a c) (2 ^ low f) ≡ round f false a c
round-again f a c o =
    let G = grid f a c in
    same-value f (round f false G (2 ^ low f)) (round f false a c) false G (2 ^ low f)
    (round-fits f false G (2 ^ low f)) (round-fits f false a c) (pow_pos (low f))
    (held f (kept (prec f) (a * 2 ^ low f) c) (drop (prec f) (a * 2 ^ low f) c) (kept-le (prec f) (a * 2 ^ low f) c) o)
    (round_val f a c o)

-- ---- signs

units-sign : (f : Format) (s : Bool) (q k : ℕ) → sign_bit (units f s q k) ≡ s
unfolding units odd sign_bit
units-sign f s q k = go (ltb (q * 2 ^ k) (overflow f)) q
  where
    go : (b : Bool) (q : ℕ) → sign_bit (cond b (odd (suc (prec f)) s q k (low f)) (inf s)) ≡ s
    go true zero = refl
    go true (suc q) = refl
    go false q = refl

pub round-sign : (f : Format) (s : Bool) (a b : ℕ) → sign_bit (round f s a b) ≡ s
round-sign f s a b = rw (round_is f s a b) (units-sign f s _ _)

units-neg : (f : Format) (q k : ℕ) → neg (units f false q k) ≡ units f true q k
unfolding units odd neg
units-neg f q k = go (ltb (q * 2 ^ k) (overflow f)) q
  where
    go : (b : Bool) (q : ℕ) → neg (cond b (odd (suc (prec f)) false q k (low f)) (inf false)) ≡ cond b (odd (suc (prec f)) true q k (low f)) (inf true)
    go true zero = refl
    go true (suc q) = refl
    go false q = refl

pub neg-round : (f : Format) (a b : ℕ) → neg (round f false a b) ≡ round f true a b
neg-round f a b = rw (round_is f false a b, round_is f true a b) (units-neg f _ _)
