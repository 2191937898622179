-- The sign bit is the top bit of the pattern of every value that is no NaN (`top_bit`), a value compared with itself tells a NaN (`no_nan`),
-- and clearing the sign bit is negation where it is set (`abs-set`) and nothing where it is clear (`abs-clear`).
use Rattle.std.proofs.Common.{◌≡◌, ℕ, ◌^◌, ◌<◌, ◌≤◌, Bool, true, false, not, T, leb, ℤ, pos, sym, refl, ap, subst, arith, le-leb}
use borrow.Author.Tests.{lt-leb}
use lib.Ieee.{Float, nan, inf, fin, binary32, fits, is_nan, to_bits, neg, ne}
use lib.Ieee.Bits.{to_bits-lt}
use lib.Ieee.Compare.{differs_from_itself}
use lib.Ieee.Fits.{neg-fits}
use Rattle.floats.specs.Sign.{sign_bit, abs_of, signum_of}

pub no_nan : (x : Float) → ne x x ≡ false → T (not (is_nan x))
unfolding ne is_nan
no_nan nan h = subst T h tt
no_nan (inf s) h = tt
no_nan (fin s m e) h = tt

pub is-nan : (x : Float) → ne x x ≡ true → x ≡ nan
is-nan x h = differs_from_itself x (subst T (sym h) tt)

-- a pattern with the sign bit set is 2 ^ 31 and the pattern without it, which is below 2 ^ 31
set-ge : (m : ℕ) (e : ℤ) → 2 ^ 31 ≤ to_bits binary32 (fin true m e)
unfolding to_bits
set-ge m e = omega arith

clear-lt : (m : ℕ) (e : ℤ) → T (fits binary32 (fin true m e)) → to_bits binary32 (fin false m e) < 2 ^ 31
unfolding to_bits
clear-lt m e h = let l = to_bits-lt binary32 (fin true m e) h in omega arith

pub top_bit : (x : Float) → T (fits binary32 x) → T (not (is_nan x)) → leb (2 ^ 31) (to_bits binary32 x) ≡ sign_bit x
unfolding sign_bit is_nan neg
top_bit nan h n = absurd n
top_bit (inf true) h n = unfold to_bits in refl
top_bit (inf false) h n = unfold to_bits in refl
top_bit (fin true m e) h n = le-leb (2 ^ 31) (to_bits binary32 (fin true m e)) (set-ge m e)
top_bit (fin false m e) h n = lt-leb (2 ^ 31) (to_bits binary32 (fin false m e)) (clear-lt m e (neg-fits binary32 (fin false m e) h))

pub abs-set : (x : Float) → sign_bit x ≡ true → neg x ≡ abs_of x
unfolding sign_bit neg abs_of
abs-set nan h = refl
abs-set (inf s) h = ap (λ (b : Bool). inf (not b)) h
abs-set (fin s m e) h = ap (λ (b : Bool). fin (not b) m e) h

pub abs-clear : (x : Float) → sign_bit x ≡ false → x ≡ abs_of x
unfolding sign_bit abs_of
abs-clear nan h = refl
abs-clear (inf s) h = ap inf h
abs-clear (fin s m e) h = ap (λ (b : Bool). fin b m e) h

pub signum-is : (x : Float) → T (not (is_nan x)) → signum_of x ≡ fin (sign_bit x) 1 (pos 0)
unfolding sign_bit signum_of is_nan
signum-is nan n = absurd n
signum-is (inf s) n = refl
signum-is (fin s m e) n = refl
