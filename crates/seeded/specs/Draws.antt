-- Document 02, R-11: what a seed draws.
use Rattle.std.specs.Prelude.{ℕ, zero, suc, ◌+◌, ◌-◌, ◌*◌, ◌/◌, ◌%◌, ◌^◌, cond, pos, bit_xor, nat_lt, Float}
use Rattle.std.specs.Float.{binary32}
use Rattle.std.specs.Float.Ieee.{neg, of_int}
use Rattle.floats.specs.Operators.{◌⊘◌, bits}

-- each draw adds 2654435769 with wrap,
abbrev pub next_of : ℕ → ℕ
next_of s = (s + 2654435769) % 2 ^ 32

-- then mixes z = s xor (s shifted right 15), then z xor (z shifted left 7, top bits lost); the mix is the draw, and no part of the next state
unfoldable pub mixed_of : ℕ → ℕ
mixed_of s =
    let z = bit_xor s (s / 2 ^ 15) in
    bit_xor z (z * 2 ^ 7 % 2 ^ 32)

-- the state after k draws
unfoldable pub state_after : ℕ → ℕ → ℕ
state_after seed zero = seed
state_after seed (suc k) = next_of (state_after seed k)

-- draw k, counted from 0
unfoldable pub draw : ℕ → ℕ → ℕ
draw seed k = mixed_of (next_of (state_after seed k))

-- (k − 1000)/8, exactly; 0 is +0
unfoldable pub eighths : ℕ → Float
eighths k = cond (nat_lt k 1000) (neg (of_int binary32 (pos (1000 - k))) ⊘ bits 0x41000000) (of_int binary32 (pos (k - 1000)) ⊘ bits 0x41000000)

-- a number of the model: (draw mod 2001 − 1000)/8
unfoldable pub number_of : ℕ → Float
number_of d = eighths (d % 2001)
