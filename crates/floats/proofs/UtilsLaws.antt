-- Document 01's trap: the two inverses differ at exactly ±1e-20, where `inv` gives 0 and `simd_inv` the quotient. A NaN goes on as NaN in both.
use Rattle.std.proofs.Common.{◌≡◌, refl}
use lib.Ieee.{nan, of_bits, neg, lt, le, eq, div, round}
use Rattle.floats.specs.Operators.{bits}
use Rattle.floats.specs.Constants.{inv_epsilon}
use Rattle.floats.specs.Utils.{inv_of, simd_inv_of}

pub inv-at-epsilon : (inv_of inv_epsilon ≡ bits 0) × (inv_of (neg inv_epsilon) ≡ bits 0)
unfolding inv_of of_bits neg lt le eq
inv-at-epsilon = (refl, refl)

pub simd-inv-at-epsilon : (simd_inv_of inv_epsilon ≡ bits 0x60AD_78EC) × (simd_inv_of (neg inv_epsilon) ≡ bits 0xE0AD_78EC)
unfolding simd_inv_of of_bits neg lt eq div round
simd-inv-at-epsilon = (refl, refl)

pub inverses-of-nan : (inv_of nan ≡ nan) × (simd_inv_of nan ≡ nan)
unfolding inv_of simd_inv_of of_bits neg lt le eq div
inverses-of-nan = (refl, refl)
