-- The substep of a frame is a timestep: of a binary32 dt that is finite and not below zero, dt/n is finite and not below zero too, for n from 1 to 16 (`step_of`). So the test of dt/n in a frame's last rule refuses no frame
-- that a program can be handed. dt/n is at most dt, and dt is its own rounding.
use Rattle.std.proofs.Common.{◌≡◌, ℕ, zero, suc, ◌+◌, ◌-◌, ◌*◌, ◌%◌, ◌^◌, ◌<◌, ◌≤◌, Bool, true, false, cond, not, ◌&&◌, T, eqb, ltb, leb, ◌≢◌, ℤ, pos, negsuc, sym, refl, ap, ◌∙◌, subst, true≢false, le_trans, le_of_eq, lt_of_lt_of_le, le-add_right, lt_of_le_of_lt, lt_irrefl, mul-le-mul_right, mul_assoc, mul-le-mul_left, mul-pos, one-mul, zero-mul, mul-one, arith, lit≤, ltb→lt, leb→le, pow_pos, pow_mono, pow-add, shl_lt, ltb-false, ltb-true, le-ltb, lt-ltb, ne_eqb}
use mathlib.Core.Bool.{false≢true}
use native.Mathlib.Nat.{eq_of_mul-eq-mul_right}
use lib.Pow.{pow-lt}
use lib.Ieee.{Float, nan, inf, fin, Format, binary32, prec, emax, low, up, down, odd, units, round, div, of_int, of_bits, lt, eq, le, fits}
use lib.Ieee.Exact.{HasValue, round_exact}
use lib.Ieee.Order.{round_mono}
use lib.Ieee.Fits.{up_pos, down_pos, and_l, and_r}
use Rattle.floats.specs.Operators.{◌⊘◌, bits}
use Rattle.floats.specs.Scalar.{is_finite}
use Rattle.multibody.proofs.Tests.{by_cases}
use Rattle.frames.specs.Frames.{most_substeps, substep_of, is_step}

-- ---- a rounding keeps its sign

abbrev Signed : Bool → Float → Type 0
Signed s nan = ⊥
Signed s (inf t) = t ≡ s
Signed s (fin t m e) = t ≡ s

units-signed : (f : Format) (s : Bool) (q k : ℕ) → Signed s (units f s q k)
unfolding units odd
units-signed f s q k = go (ltb (q * 2 ^ k) (2 ^ (low f + suc (emax f)))) q
  where
    go : (b : Bool) (q : ℕ) → Signed s (cond b (odd (suc (prec f)) s q k (low f)) (inf s))
    go true zero = refl
    go true (suc q) = refl
    go false q = refl

round-signed : (f : Format) (s : Bool) (a b : ℕ) → Signed s (round f s a b)
unfolding round
round-signed f s a b = units-signed f s _ _

-- ---- what is a timestep

zero_bits : bits 0 ≡ fin false 0 (pos 0)
unfolding of_bits
zero_bits = refl

-- nothing of positive sign is below zero
not-below : (m : ℕ) (e : ℤ) → is_step (fin false m e) ≡ true
unfolding is_step is_finite lt
not-below m e =
    let z : ltb (m * up e * 1) (0 * down e) ≡ false = le-ltb (m * up e * 1) (0 * down e) (rw zero-mul (omega arith)) in
    rw (zero_bits, z)

-- a number of positive sign that is at most one of finite size
below-finite : (x y : Float) (a c : ℕ) → Signed false x → HasValue y false a c → T (le x y) → is_step x ≡ true
unfolding le lt eq
below-finite nan y a c s v l = absurd s
below-finite (inf true) y a c s v l = absurd (true≢false s)
below-finite (inf false) nan a c s v l = absurd v
below-finite (inf false) (inf t) a c s v l = absurd v
below-finite (inf false) (fin t n d) a c s v l = absurd l
below-finite (fin true m e) y a c s v l = absurd (true≢false s)
below-finite (fin false m e) y a c s v l = not-below m e

-- a zero of either sign
zero-step : (x : Float) (s : Bool) (c : ℕ) → 0 < c → HasValue x s 0 c → is_step x ≡ true
unfolding is_step is_finite lt
zero-step nan s c p v = absurd v
zero-step (inf t) s c p v = absurd v
zero-step (fin false m e) s c p v = not-below m e
zero-step (fin true m e) s c p v =
    let z : m * up e ≡ 0 = eq_of_mul-eq-mul_right c p (m * up e) 0 (v.1 ∙ zero-mul (down e) ∙ sym (zero-mul c)) in
    let w : m * up e * 1 + 0 * down e ≡ 0 = rw (z, zero-mul (down e)) in
    rw (zero_bits, w)

-- ---- dt and n

-- so many substeps, as a float
whole : (n : ℕ) → n ≤ 16 → HasValue (of_int binary32 (pos n)) false n 1
unfolding of_int
whole n h =
    let small : n < 2 ^ 24 = lt_of_le_of_lt h (lit≤ tt) in
    round_exact binary32 false n 1 n 149 (lit≤ tt) small (lt_of_lt_of_le (shl_lt 24 149 small) (lit≤ tt)) (sym (mul-one (n * 2 ^ 149)))

-- a number that fits is its own rounding
module _ (m : ℕ) (e : ℤ) (t : T (fits binary32 (fin false (suc m) e))) where
  parts : (suc m < 2 ^ 24) × (down e ≤ 2 ^ 149) × (suc m * up e < 2 ^ 128 * down e)
  unfolding fits
  parts =
      let a : Bool = eqb (suc m % 2) 1 in
      let b : Bool = ltb (suc m) (2 ^ 24) in
      let c : Bool = leb (down e) (2 ^ 149) in
      let d : Bool = ltb (suc m * up e) (2 ^ 128 * down e) in
      (ltb→lt _ _ (and_r a b (and_l (a && b) c (and_l (a && b && c) d t))), leb→le _ _ (and_r (a && b) c (and_l (a && b && c) d t)), ltb→lt _ _ (and_r (a && b && c) d t))

  exact-whole : (k : ℕ) → suc m < 2 ^ 24 → suc m * 2 ^ k < 2 ^ 128 → HasValue (round binary32 false (suc m * 2 ^ k) 1) false (suc m * 2 ^ k) 1
  exact-whole k small fine =
      let shift : suc m * 2 ^ k * 2 ^ 149 ≡ suc m * 2 ^ (k + 149) = mul_assoc (suc m) (2 ^ k) (2 ^ 149) ∙ ap (λ (x : ℕ). suc m * x) (sym (pow-add 2 k 149)) in
      round_exact binary32 false (suc m * 2 ^ k) 1 (suc m) (k + 149) (lit≤ tt) small
      (subst (λ (x : ℕ). x < 2 ^ 277) shift (lt_of_lt_of_le (shl_lt 128 149 fine) (lit≤ tt)))
      (shift ∙ sym (mul-one (suc m * 2 ^ (k + 149))))

  exact-part : (k : ℕ) → suc m < 2 ^ 24 → suc k ≤ 149 → HasValue (round binary32 false (suc m * 1) (2 ^ suc k)) false (suc m * 1) (2 ^ suc k)
  exact-part k small room =
      let j = 149 - suc k in
      let z : j + suc k ≡ 149 = omega (arith, room) in
      let shift : suc m * 1 * 2 ^ 149 ≡ suc m * 2 ^ j * 2 ^ suc k = ap (λ (x : ℕ). x * 2 ^ 149) (mul-one (suc m)) ∙ ap (λ (x : ℕ). suc m * 2 ^ x) (sym z) ∙ ap (λ (x : ℕ). suc m * x) (pow-add 2 j (suc k)) ∙ sym (mul_assoc (suc m) (2 ^ j) (2 ^ suc k)) in
      let le : 24 + j ≤ 277 = omega (arith, z) in
      round_exact binary32 false (suc m * 1) (2 ^ suc k) (suc m) j (pow_pos (suc k)) small (lt_of_lt_of_le (shl_lt 24 j small) (pow_mono le)) shift

  few-halves : (k : ℕ) → 2 ^ suc k ≤ 2 ^ 149 → suc k ≤ 149
  few-halves k h = by_cases (ltb 149 (suc k))
      (λ g. absurd (lt_irrefl (2 ^ 149) (lt_of_lt_of_le (pow-lt (ltb-true 149 (suc k) g)) h)))
      (λ g. ltb-false 149 (suc k) g)

-- so that one of positive sign has the value of its own fraction
own : (m : ℕ) (e : ℤ) → T (fits binary32 (fin false (suc m) e)) → HasValue (round binary32 false (suc m * up e) (down e)) false (suc m * up e) (down e)
own m (pos k) t =
    let p = parts m (pos k) t in
    exact-whole m (pos k) t k p.0 (subst (λ (x : ℕ). suc m * 2 ^ k < x) (mul-one (2 ^ 128)) p.2)
own m (negsuc k) t =
    let p = parts m (negsuc k) t in
    exact-part m (negsuc k) t k p.0 (few-halves m (negsuc k) t k p.1)

-- ---- the quotient

module _ (n q : ℕ) (d : ℤ) (some : n ≢ 0) (v : q * up d * 1 ≡ n * down d) where
  same : q * up d ≡ n * down d
  same = sym (mul-one (q * up d)) ∙ v

  bottom : (e : ℤ) → 0 < q * up d * down e
  bottom e = subst (λ (x : ℕ). 0 < x * down e) (sym same) (mul-pos (mul-pos (omega (arith, some)) (down_pos d)) (down_pos e))

  not_none : eqb q 0 ≡ false
  not_none = ne_eqb q 0 (λ z. lt_irrefl 0 (subst (λ (x : ℕ). 0 < x) (ap (λ (x : ℕ). x * up d * down (pos 0)) z ∙ ap (λ (x : ℕ). x * 1) (zero-mul (up d))) (bottom (pos 0))))

  quotient : (s : Bool) (m : ℕ) (e : ℤ) → fin s m e ⊘ fin false q d ≡ round binary32 s (m * up e * down d) (q * up d * down e)
  unfolding div
  quotient true m e = rw not_none
  quotient false m e = rw not_none

  -- it is no more than the dividend
  less : (m : ℕ) (e : ℤ) → m * up e * down d * down e ≤ m * up e * (q * up d * down e)
  less m e =
      let one : down d ≤ n * down d = le_trans (le_of_eq (sym (one-mul (down d)))) (mul-le-mul_right (down d) (omega (arith, some))) in
      let two : down d ≤ q * up d = subst (λ (x : ℕ). down d ≤ x) (sym same) one in
      le_trans (le_of_eq (mul_assoc (m * up e) (down d) (down e))) (mul-le-mul_left (m * up e) (mul-le-mul_right (down e) two))

  -- so it is a timestep where the dividend is finite and not below zero
  quotient-step : (dt : Float) → T (fits binary32 dt) → is_finite dt ≡ true → not (lt dt (bits 0)) ≡ true → is_step (dt ⊘ fin false q d) ≡ true
  unfolding is_finite lt
  quotient-step nan t f g = absurd (false≢true f)
  quotient-step (inf s) t f g = absurd (false≢true f)
  quotient-step (fin s zero e) t f g =
      let none : 0 * up e * down d ≡ 0 = rw (zero-mul (up e), zero-mul (down d)) in
      rw (quotient s 0 e, none)
      (zero-step (round binary32 s 0 (q * up d * down e)) s (q * up d * down e) (bottom e)
      (round_exact binary32 s 0 (q * up d * down e) 0 0 (bottom e) (lit≤ tt) (lit≤ tt) (zero-mul (2 ^ 149) ∙ sym (zero-mul (q * up d * down e)))))
  quotient-step (fin false (suc m) e) t f g =
      rw (quotient false (suc m) e)
      (below-finite (round binary32 false (suc m * up e * down d) (q * up d * down e)) (round binary32 false (suc m * up e) (down e)) (suc m * up e) (down e)
      (round-signed binary32 false _ _) (own m e t) (round_mono binary32 (suc m * up e * down d) (q * up d * down e) (suc m * up e) (down e) (bottom e) (down_pos e) (less (suc m) e)))
  quotient-step (fin true (suc m) e) t f g =
      let big : 0 < suc m * up e * 1 + 0 * down e = lt_of_lt_of_le (mul-pos (mul-pos (omega arith) (up_pos e)) (lit≤ tt)) (le-add_right (suc m * up e * 1) (0 * down e)) in
      absurd (false≢true (rw (zero_bits, lt-ltb 0 (suc m * up e * 1 + 0 * down e) big) at g))

pub step_of : (dt : Float) (n : ℕ) → T (fits binary32 dt) → is_finite dt ≡ true → not (lt dt (bits 0)) ≡ true → n ≢ 0 → n ≤ most_substeps → is_step (substep_of dt n) ≡ true
step_of dt n t f g some few = go (of_int binary32 (pos n)) (whole n few)
  where
    go : (x : Float) → HasValue x false n 1 → is_step (dt ⊘ x) ≡ true
    go nan v = absurd v
    go (inf s) v = absurd v
    go (fin true q d) v = absurd (true≢false v.0)
    go (fin false q d) v = quotient-step n q d some v.1 dt t f g
