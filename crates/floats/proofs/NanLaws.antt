-- How the code tells a NaN: a number is a NaN exactly where it differs from itself, and a bit pattern is a NaN's exactly where, with its
-- sign's bit taken off, it is above the infinity's.
use Rattle.std.proofs.Common.{◌≡◌, ℕ, ◌%◌, ◌<◌, ◌≤◌, true, false, not, T, sym, refl, ◌∙◌, subst, le-ltb, lt-ltb}
use lib.Ieee.{Float, nan, inf, fin, binary32, of_bits, nan_bits, is_nan, ne}
use lib.Ieee.Bits.{nan_bits_is, nan_bits_above}
use lib.Ieee.Compare.{differs_from_itself, nan_differs}

pub nan-if-differs : (x : Float) → ne x x ≡ true → x ≡ nan
nan-if-differs x h = differs_from_itself x (subst T (sym h) tt)

pub no-nan-if-same : (x : Float) → ne x x ≡ false → T (not (is_nan x))
unfolding is_nan
no-nan-if-same nan h = subst T (sym nan_differs ∙ h) tt
no-nan-if-same (inf s) h = tt
no-nan-if-same (fin s m e) h = tt

is-nan : (x : Float) → is_nan x ≡ true → x ≡ nan
unfolding is_nan
is-nan nan h = refl
is-nan (inf s) h = cc
is-nan (fin s m e) h = cc

pub nan_pattern : (b : ℕ) → 0x7f80_0000 < b % 0x8000_0000 → of_bits binary32 b ≡ nan
nan_pattern b h = is-nan (of_bits binary32 b) (sym (nan_bits_is binary32 b) ∙ nan_bits_above binary32 b ∙ lt-ltb 0x7f80_0000 (b % 0x8000_0000) h)

pub no-nan-pattern : (b : ℕ) → b % 0x8000_0000 ≤ 0x7f80_0000 → T (not (nan_bits binary32 b))
no-nan-pattern b h = rw (nan_bits_above binary32 b, le-ltb 0x7f80_0000 (b % 0x8000_0000) h) tt
