-- Document 01's proved cases of the angle, and the cases at the zeros, computed over the definition.
use Rattle.std.proofs.Common.{◌≡◌, refl}
use lib.Ieee.{of_bits, round, div, neg, lt, le, eq}
use Rattle.floats.specs.Operators.{bits}
use Rattle.floats.specs.Scalar.{min_of, max_of, is_finite}
use Rattle.floats.specs.Sign.{sign_bit, abs_of}
use Rattle.floats.specs.Angle.{series_from, series, arc, ratio, tangent_units, near_zero, angle_units, angle_of}

-- (0, 1), (1, 1) and (-1, +0)
pub quarter-turn : angle_of (bits 0) (bits 0x3F80_0000) ≡ bits 0x3FC9_0FDB
unfolding angle_of near_zero angle_units tangent_units ratio arc series series_from sign_bit abs_of is_finite min_of max_of neg lt le eq div round of_bits
quarter-turn = refl

pub eighth-turn : angle_of (bits 0x3F80_0000) (bits 0x3F80_0000) ≡ bits 0x3F49_0FDB
unfolding angle_of near_zero angle_units tangent_units ratio arc series series_from sign_bit abs_of is_finite min_of max_of neg lt le eq div round of_bits
eighth-turn = refl

pub half-turn : angle_of (bits 0xBF80_0000) (bits 0) ≡ bits 0x4049_0FDB
unfolding angle_of near_zero angle_units tangent_units ratio arc series series_from sign_bit abs_of is_finite min_of max_of neg lt le eq div round of_bits
half-turn = refl

-- (+0, +0), (-0, +0), (-0, -0), (1, -0) and (-1, -0)
pub zero-cases : (angle_of (bits 0) (bits 0) ≡ bits 0) × (angle_of (bits 0x8000_0000) (bits 0) ≡ bits 0x4049_0FDB) × (angle_of (bits 0x8000_0000) (bits 0x8000_0000) ≡ bits 0xC049_0FDB)
    × (angle_of (bits 0x3F80_0000) (bits 0x8000_0000) ≡ bits 0x8000_0000) × (angle_of (bits 0xBF80_0000) (bits 0x8000_0000) ≡ bits 0xC049_0FDB)
unfolding angle_of near_zero angle_units tangent_units ratio arc series series_from sign_bit abs_of is_finite min_of max_of neg lt le eq div round of_bits
zero-cases = (refl, refl, refl, refl, refl)

-- just below 2 ^ -12 the angle is the tangent, of either sign, and so is the least number; at 2 ^ -12, and with re's sign bit set, it is the recipe's
pub near-cases : (angle_of (bits 0x3F80_0000) (bits 0x397F_FFFF) ≡ bits 0x397F_FFFF) × (angle_of (bits 0x3F80_0000) (bits 0xB97F_FFFF) ≡ bits 0xB97F_FFFF) × (angle_of (bits 0x3F80_0000) (bits 1) ≡ bits 1)
    × (angle_of (bits 0x3F80_0000) (bits 0x3980_0000) ≡ bits 0x3980_0000) × (angle_of (bits 0xBF80_0000) (bits 0x397F_FFFF) ≡ bits 0x4049_0BDB)
unfolding angle_of near_zero angle_units tangent_units ratio arc series series_from sign_bit abs_of is_finite min_of max_of neg lt le eq div round of_bits
near-cases = (refl, refl, refl, refl, refl)
