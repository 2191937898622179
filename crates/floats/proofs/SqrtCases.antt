-- Roots by their bits: of 2, of 4, of the smallest and the largest finite value, of the zeros, of -1 and of the infinities. Assumes nothing.
use Rattle.std.proofs.Common.{◌≡◌, refl}
use lib.Ieee.{nan, binary32, of_bits}
use Rattle.floats.specs.Bits.{units_of}
use Rattle.floats.specs.Sqrt.{sqrt_of}

root-of-two : sqrt_of (of_bits binary32 0x4000_0000) ≡ of_bits binary32 0x3FB5_04F3
unfolding sqrt_of units_of of_bits
root-of-two = refl

root-of-four : sqrt_of (of_bits binary32 0x4080_0000) ≡ of_bits binary32 0x4000_0000
unfolding sqrt_of units_of of_bits
root-of-four = refl

-- of 2 ^ -149, and of the largest value below 2 ^ 128
root-of-smallest : sqrt_of (of_bits binary32 0x0000_0001) ≡ of_bits binary32 0x1A35_04F3
unfolding sqrt_of units_of of_bits
root-of-smallest = refl

root-of-largest : sqrt_of (of_bits binary32 0x7F7F_FFFF) ≡ of_bits binary32 0x5F7F_FFFF
unfolding sqrt_of units_of of_bits
root-of-largest = refl

root-of-zero : sqrt_of (of_bits binary32 0x0000_0000) ≡ of_bits binary32 0x0000_0000
unfolding sqrt_of of_bits
root-of-zero = refl

root-of-negative-zero : sqrt_of (of_bits binary32 0x8000_0000) ≡ of_bits binary32 0x8000_0000
unfolding sqrt_of of_bits
root-of-negative-zero = refl

root-of-minus-one : sqrt_of (of_bits binary32 0xBF80_0000) ≡ nan
unfolding sqrt_of units_of of_bits
root-of-minus-one = refl

root-of-infinity : sqrt_of (of_bits binary32 0x7F80_0000) ≡ of_bits binary32 0x7F80_0000
unfolding sqrt_of of_bits
root-of-infinity = refl

root-of-minus-infinity : sqrt_of (of_bits binary32 0xFF80_0000) ≡ nan
unfolding sqrt_of of_bits
root-of-minus-infinity = refl

root-of-nan : sqrt_of nan ≡ nan
unfolding sqrt_of
root-of-nan = refl
