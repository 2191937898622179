-- Angles and their pairs, in bits, computed over the definition: the zeros and the smallest negative number, eighths and quarters of a turn, the largest typed angles, the largest number, infinity and NaN.
use Rattle.std.proofs.Common.{◌≡◌, ℕ, refl}
use lib.Ieee.{binary32, to_bits, of_bits, round}
use Rattle.floats.specs.Sines.{sum_from, sine_of, sine_entry}
use Rattle.floats.specs.SinCos.{sine_at, cosine_at, nearest_of, quarter_pair, place_pair, rotation_from_angle_of}

-- the bit patterns of an angle's cosine and sine, from the angle's
abbrev Pair : ℕ → ℕ → ℕ → Type 0
Pair angle cosine sine = let r = rotation_from_angle_of (of_bits binary32 angle) in (to_bits binary32 r.re ≡ cosine) × (to_bits binary32 r.im ≡ sine)

pub zeros : Pair 0 0x3F80_0000 0 × Pair 0x8000_0000 0x3F80_0000 0 × Pair 0x8000_0001 0x3F80_0000 0
unfolding rotation_from_angle_of place_pair quarter_pair nearest_of cosine_at sine_at sine_entry sine_of sum_from round of_bits to_bits
zeros = ((refl, refl), (refl, refl), (refl, refl))

-- 3F490FDB, 3FC90FDB, 40490FDB and 4096CBE4 are the numbers nearest to π/4, π/2, π and 3π/2
pub turns : Pair 0x3F49_0FDB 0x3F35_04F3 0x3F35_04F3 × Pair 0xBF49_0FDB 0x3F35_04F3 0xBF35_04F3 × Pair 0x3FC9_0FDB 0xB338_0000 0x3F80_0000 × Pair 0xBFC9_0FDB 0xB338_0000 0xBF80_0000
    × Pair 0x4049_0FDB 0xBF80_0000 0xB3BA_0000 × Pair 0xC049_0FDB 0xBF80_0000 0x33BA_0000 × Pair 0x4096_CBE4 0x3240_0000 0xBF80_0000
unfolding rotation_from_angle_of place_pair quarter_pair nearest_of cosine_at sine_at sine_entry sine_of sum_from round of_bits to_bits
turns = ((refl, refl), (refl, refl), (refl, refl), (refl, refl), (refl, refl), (refl, refl), (refl, refl))

-- 1024 and −1024, the largest number, infinity and NaN
pub far : Pair 0x4480_0000 0x3F7C_C335 0xBE22_5690 × Pair 0xC480_0000 0x3F7C_C335 0x3E22_5690 × Pair 0x7F7F_FFFF 0xBE97_F51B 0xBF74_7717 × Pair 0x7F80_0000 0x7FC0_0000 0x7FC0_0000 × Pair 0x7FC0_0000 0x7FC0_0000 0x7FC0_0000
unfolding rotation_from_angle_of place_pair quarter_pair nearest_of cosine_at sine_at sine_entry sine_of sum_from round of_bits to_bits
far = ((refl, refl), (refl, refl), (refl, refl), (refl, refl), (refl, refl))
