-- The micro report from the parts of a number. Rounding half to even gives equal fractions one result (`half-same`). So a finite number's report is that of the millionths of its
-- d · 2 ^ k units of 2 ^ -149 (`report-finite`). From k = 138 on, that is from 4096 on, it is Over (`report-large`); up to k = 101 it is 0 millionths (`tiny`), and between them the rounding
-- of a fraction of two small numbers (`scaled`). Assumes nothing.
use Rattle.std.proofs.Common.{◌≡◌, ℕ, zero, suc, ◌-◌, ◌*◌, ◌/◌, ◌%◌, ◌^◌, ◌<◌, ◌≤◌, Bool, cond, leb, pos, ◌-ℤ◌, neg_ℤ, sym, refl, ap, ◌∙◌, subst, le_trans, le_refl, lt_of_le_of_lt, le_of_lt, mod-eq_of_lt, mul_assoc, mul_comm, mul-le-mul, one-mul, le-div_iff_mul-le, mul_right_comm, arith, lit<, lit≤, le→leb, pow_pos, pow_mono, pow-add, w32, SFits}
use Prim.Native.Nat.{compare}
use native.Mathlib.Nat.{div-eq_of_lt}
use lib.IntN.{+ℤ_idl}
use lib.Ieee.{Float, nan, inf, fin, up, down}
use lib.Ieee.Digits.{back}
use lib.Ieee.Fits.{down_pos}
use lib.Ieee.Bits.{is_true}
use lib.Ieee.Nearest.{nearest-ge, closest_same}
use Rattle.floats.specs.Bits.{parts_of}
use Rattle.floats.specs.MicroReport.{half_even, whole_or_over, micro_report_of}
use Rattle.floats.specs.declared.bits.Parts.TheVariants as parts
use Rattle.floats.specs.declared.micro_report.MicroReport.TheVariants.{Whole, Over, Nan}
use Rattle.floats.proofs.BitsLaws.{Finite-parts, differ}
use Rattle.floats.proofs.HalfEven.{below_half}

-- ---- rounding half to even

pub half-same : (a b c d : ℕ) → 0 < b → 0 < d → a * d ≡ c * b → half_even a b ≡ half_even c d
unfolding half_even
half-same = closest_same

half-zero : (num den : ℕ) → num * 2 < den → half_even num den ≡ 0
half-zero num den h =
    let l : num < den = omega arith in
    below_half num den (rw (mod-eq_of_lt l) h) ∙ div-eq_of_lt l

half-reaches : (num den q : ℕ) → 0 < den → q * den ≤ num → q ≤ half_even num den
unfolding half_even
half-reaches num den q D h = le_trans ((le-div_iff_mul-le D).1 h) (nearest-ge (num / den) (compare (num % den * 2) den))

-- ---- the millionths of d · 2 ^ k units

-- the shift of 1 to the left, as the machine has it
pub one_shifted : (s : ℕ) → s < 48 → 1 * 2 ^ s % 2 ^ 64 ≡ 2 ^ s
one_shifted s h = mod-eq_of_lt (subst (λ (x : ℕ). x < 2 ^ 64) (sym (one-mul (2 ^ s))) (lt_of_le_of_lt (pow_mono (le_of_lt h)) (lit< tt))) ∙ one-mul (2 ^ s)

pub one-pos : (s : ℕ) → s < 48 → 0 < 1 * 2 ^ s % 2 ^ 64
one-pos s h = subst (λ (x : ℕ). 0 < x) (sym (one_shifted s h)) (pow_pos s)

pub one-small : (s : ℕ) → s < 48 → 1 * 2 ^ s % 2 ^ 64 ≤ 2 ^ 48
one-small s h = subst (λ (x : ℕ). x ≤ 2 ^ 48) (sym (one_shifted s h)) (pow_mono (le_of_lt h))

pub tiny : (d k : ℕ) → d < 2 ^ 24 → k ≤ 101 → half_even (d * 2 ^ k * 10 ^ 6) (2 ^ 149) ≡ 0
tiny d k D K = half-zero (d * 2 ^ k * 10 ^ 6) (2 ^ 149) (lt_of_le_of_lt (mul-le-mul (mul-le-mul (mul-le-mul (le_of_lt D) (pow_mono K)) (le_refl (10 ^ 6))) (le_refl 2)) (lit< tt))

pub scaled : (d k : ℕ) → 149 - k < 48 → k < 138 → half_even (d * 10 ^ 6) (1 * 2 ^ (149 - k) % 2 ^ 64) ≡ half_even (d * 2 ^ k * 10 ^ 6) (2 ^ 149)
scaled d k L U =
    let s = 149 - k in
    ap (λ (x : ℕ). half_even (d * 10 ^ 6) x) (one_shifted s L)
    ∙ half-same (d * 10 ^ 6) (2 ^ s) (d * 2 ^ k * 10 ^ 6) (2 ^ 149) (pow_pos s) (pow_pos 149)
    (ap (λ (x : ℕ). d * 10 ^ 6 * x) (ap (λ (x : ℕ). 2 ^ x) (sym (back 149 k (under k U))) ∙ pow-add 2 s k) ∙ simp (mul_assoc, mul_comm))
  where
    under : (j : ℕ) → j < 138 → j ≤ 149
    under j h = omega arith

large : (d k : ℕ) → 2 ^ 23 ≤ d → 138 ≤ k → 2 ^ 31 ≤ half_even (d * 2 ^ k * 10 ^ 6) (2 ^ 149)
large d k D K = half-reaches (d * 2 ^ k * 10 ^ 6) (2 ^ 149) (2 ^ 31) (pow_pos 149) (le_trans (lit≤ tt) (mul-le-mul (mul-le-mul D (pow_mono K)) (le_refl (10 ^ 6))))

-- ---- the report

pub report-finite : {x : Float} {s : Bool} {d k : ℕ} → Finite-parts x s d k → micro_report_of x ≡ whole_or_over s (half_even (d * 2 ^ k * 10 ^ 6) (2 ^ 149))
unfolding micro_report_of
report-finite {x} {s} {d} {k} p =
    let m = p.significand in
    let e = p.exponent in
    ap micro_report_of p.is
    ∙ ap (whole_or_over s)
    (half-same (m * up e * 10 ^ 6) (down e) (d * 2 ^ k * 10 ^ 6) (2 ^ 149) (down_pos e) (pow_pos 149)
    (mul_right_comm (m * up e) (10 ^ 6) (2 ^ 149)
    ∙ ap (λ (a : ℕ). a * 10 ^ 6) (sym p.exact ∙ ap (λ (a : ℕ). a * down e) p.size)
    ∙ mul_right_comm (d * 2 ^ k) (down e) (10 ^ 6)))

over : (s : Bool) (q : ℕ) → 2 ^ 31 ≤ q → whole_or_over s q ≡ Over
unfolding whole_or_over
over s q h = ap (λ (b : Bool). cond b Over (Whole (cond s (neg_ℤ (pos q)) (pos q)))) (is_true (leb (2 ^ 31) q) (le→leb (2 ^ 31) q h))

pub report-large : {x : Float} {s : Bool} {d k : ℕ} → Finite-parts x s d k → 138 ≤ k → Over ≡ micro_report_of x
report-large {x} {s} {d} {k} p h = sym (report-finite p ∙ over s (half_even (d * 2 ^ k * 10 ^ 6) (2 ^ 149)) (large d k (p.normal (some k h)) h))
  where
    some : (j : ℕ) → 138 ≤ j → 0 < j
    some j l = omega arith

pub report-nan : (x : Float) → parts_of x ≡ parts.Nan → Nan ≡ micro_report_of x
unfolding parts_of micro_report_of
report-nan nan h = refl
report-nan (inf s) h = absurd (differ (cc))
report-nan (fin s m e) h = absurd (differ (cc))

pub report-infinite : (x : Float) (s : Bool) → parts_of x ≡ parts.Infinite s → Over ≡ micro_report_of x
unfolding parts_of micro_report_of
report-infinite nan s h = absurd (differ (cc))
report-infinite (inf t) s h = refl
report-infinite (fin t m e) s h = absurd (differ (cc))

-- ---- a size with a sign

pub negated : (n : ℕ) → pos 0 -ℤ pos n ≡ neg_ℤ (pos n)
negated n = +ℤ_idl (neg_ℤ (pos n))

pub negated_fits : (n : ℕ) → n < 2 ^ 31 → SFits w32 (neg_ℤ (pos n))
negated_fits zero h = record { sfits = lit< tt }
negated_fits (suc n) h = record { sfits = omega arith }
