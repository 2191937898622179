-- Values and spacings of single numbers, in units of 2^-149; and a sum whose error is half the spacing at it.
use Rattle.std.proofs.Common.{◌≡◌, ◌*◌, ◌^◌, pos, ◌+ℤ◌, ◌-ℤ◌, neg_ℤ, nat_abs, refl}
use lib.Ieee.{size, of_bits, add}
use Rattle.floats.specs.Operators.{bits, ◌⊕◌}
use Rattle.floats.specs.Bits.{units_of}
use Rattle.floats.specs.Value.{exact_value_of, magnitude_of, spacing_of}

value-one : exact_value_of (bits 0x3F80_0000) ≡ pos (2 ^ 149)
unfolding exact_value_of units_of of_bits
value-one = refl

value-smallest : exact_value_of (bits 0x8000_0001) ≡ neg_ℤ (pos 1)
unfolding exact_value_of units_of of_bits
value-smallest = refl

-- at 1 the spacing is 2^-23, and just below it is half of that
spacing-one : (spacing_of (bits 0x3F80_0000) ≡ 2 ^ 126) × (spacing_of (bits 0x3F7F_FFFF) ≡ 2 ^ 125)
unfolding spacing_of magnitude_of units_of of_bits size
spacing-one = (refl, refl)

-- at 0, at the least normal number and just below twice it, one unit; at twice it, two; at the largest number, 2^104
spacing-small : (spacing_of (bits 0) ≡ 1) × (spacing_of (bits 0x0080_0000) ≡ 1) × (spacing_of (bits 0x00FF_FFFF) ≡ 1) × (spacing_of (bits 0x0100_0000) ≡ 2)
unfolding spacing_of magnitude_of units_of of_bits size
spacing-small = (refl, refl, refl, refl)

spacing-largest : spacing_of (bits 0x7F7F_FFFF) ≡ 2 ^ 253
unfolding spacing_of magnitude_of units_of of_bits size
spacing-largest = refl

-- 1 + 2^-24 is 1: the error is half of the wider spacing at 1
half-reached : 2 * nat_abs (exact_value_of (bits 0x3F80_0000 ⊕ bits 0x3380_0000) -ℤ (exact_value_of (bits 0x3F80_0000) +ℤ exact_value_of (bits 0x3380_0000))) ≡ spacing_of (bits 0x3F80_0000 ⊕ bits 0x3380_0000)
unfolding exact_value_of spacing_of magnitude_of units_of of_bits size add
half-reached = refl
