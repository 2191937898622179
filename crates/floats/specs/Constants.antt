-- The constants that the definitions name, by their bit patterns. Document 01 gives e, π, 2π and MAX, and document 02 the small tangent and the largest angle; the others are the Rust's, and exact. +0 is `bits 0`.
use Rattle.std.specs.Prelude.{Float}
use Rattle.floats.specs.Operators.{bits}

-- f32 1e-20: document 01's e, where the two inverses differ
abbrev pub inv_epsilon : Float
inv_epsilon = bits 0x1E3C_E508

abbrev pub half : Float
half = bits 0x3F00_0000

abbrev pub one : Float
one = bits 0x3F80_0000

abbrev pub two : Float
two = bits 0x4000_0000

abbrev pub four : Float
four = bits 0x4080_0000

abbrev pub ten : Float
ten = bits 0x4120_0000

-- π and 2π, rounded
abbrev pub pi : Float
pi = bits 0x4049_0FDB

abbrev pub two_pi : Float
two_pi = bits 0x40C9_0FDB

-- the largest finite value, f32::MAX
abbrev pub max_float : Float
max_float = bits 0x7F7F_FFFF

-- 2 ^ -12: an angle of a smaller tangent is its tangent (R-7)
abbrev pub small_tangent : Float
small_tangent = bits 0x3980_0000

-- 1024: the largest size of a typed angle (R-4)
abbrev pub largest_angle : Float
largest_angle = bits 0x4480_0000
