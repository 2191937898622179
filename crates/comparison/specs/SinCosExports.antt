-- What the exported functions about sines and typed angles answer, and leave in the slice that they are lent.
use Rattle.std.specs.Prelude.{ℕ, cond, List, leb, length, set, Float}
use Rattle.floats.specs.Sines.{sine_entry}
use Rattle.floats.specs.SinCos.{rotation_from_angle_of}

-- entry k of the table, and 0 past the last one
abbrev pub sine_number : ℕ → ℕ
sine_number k = cond (leb k 4096) (sine_entry k) 0

-- the cosine and the sine, where there is room for both
abbrev pub rotation_out : Float → List Float → List Float
rotation_out angle out = cond (leb 2 (length out)) (set (set out 0 (rotation_from_angle_of angle).re) 1 (rotation_from_angle_of angle).im) out
