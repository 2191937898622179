-- Document 01, "Float leaves": the two inverses and the angle difference of the Rust's utils/mod.rs.
use Rattle.std.specs.Prelude.{cond, ◌&&◌, Float}
use Rattle.std.specs.Float.Ieee.{neg, lt, le}
use Rattle.floats.specs.Operators.{bits, ◌⊖◌, ◌⊗◌, ◌⊘◌}
use Rattle.floats.specs.Constants.{inv_epsilon, one, two_pi}
use Rattle.floats.specs.Sign.{abs_of, signum_of}

-- 0 on [−e, e], e = 1e-20, and else 1 / v; a NaN goes on as NaN
unfoldable pub inv_of : Float → Float
inv_of v = cond (le (neg inv_epsilon) v && le v inv_epsilon) (bits 0) (one ⊘ v)

-- 0 only strictly between −e and e
unfoldable pub simd_inv_of : Float → Float
simd_inv_of v = cond (lt (neg inv_epsilon) v && lt v inv_epsilon) (bits 0) (one ⊘ v)

-- s less a whole turn, towards zero and past it
abbrev pub complement_of : Float → Float
complement_of s = s ⊖ signum_of s ⊗ two_pi

-- angle difference: of s = a − b and its complement the one of smaller size, the complement where they are equal
unfoldable pub smallest_abs_diff_between_angles_of : Float → Float → Float
smallest_abs_diff_between_angles_of a b =
    let s = a ⊖ b in
    cond (lt (abs_of s) (abs_of (complement_of s))) s (complement_of s)
