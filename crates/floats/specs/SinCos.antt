-- The rotation of a typed angle, its cosine and its sine, from the table of sines (document 02, R-4): integer work, with one rounding each at the end.
use Rattle.std.specs.Prelude.{ℕ, ◌+◌, ◌-◌, ◌*◌, ◌/◌, ◌%◌, ◌^◌, Bool, true, false, cond, not, ◌&&◌, ◌==◌, Float}
use Rattle.std.specs.Float.{nan, inf, fin, binary32}
use Rattle.std.specs.Float.Ieee.{up, down, round, lt}
use Rattle.floats.specs.Constants.{largest_angle}
use Rattle.floats.specs.Sign.{abs_of}
use Rattle.floats.specs.Angle.{quarter_turn}
use Rattle.floats.specs.Sines.{quarter_parts, sine_entry}
use Rattle.floats.specs.declared.rotation_ops.Rotation.{Rotation}

-- "turns of 6746518852 come off": four quarters
abbrev pub turn : ℕ
turn = 6746518852

-- "the remainder over 1686629713 is the fraction of the straight line from entry k to k + 1, rounded down": from one entry to the next
abbrev pub line_of : ℕ → ℕ → ℕ → ℕ
line_of from to remainder = from + (to - from) * remainder / quarter_turn

-- "At place p in a quarter, k = floor(4096·p / 1686629713)"; "entry 4096 needs no line". No entry is above the next (proofs/SinesLaws.antt), so that no difference is cut off.
unfoldable pub sine_at : ℕ → ℕ
sine_at p =
    let k = quarter_parts * p / quarter_turn in
    cond (k == quarter_parts) (sine_entry k) (line_of (sine_entry k) (sine_entry (k + 1)) (quarter_parts * p % quarter_turn))

-- "The cosine is the sine at 1686629713 − p."
unfoldable pub cosine_at : ℕ → ℕ
cosine_at p = sine_at (quarter_turn - p)

-- "a zero is +0, and both go to the nearest f32": n units of 2 ^ -30 with a sign
unfoldable pub nearest_of : Bool → ℕ → Float
nearest_of negative n = round binary32 (negative && not (n == 0)) n (2 ^ 30)

-- "Over quarters 0 to 3 the pair (cosine, sine) is (c, s), (−s, c), (−c, −s), (s, −c). A negative angle negates its sine."
unfoldable pub quarter_pair : Bool → ℕ → ℕ → ℕ → Rotation
quarter_pair negative q c s =
    cond (q == 0) (record { re = nearest_of false c; im = nearest_of negative s })
    (cond (q == 1) (record { re = nearest_of true s; im = nearest_of negative c })
    (cond (q == 2) (record { re = nearest_of true c; im = nearest_of (not negative) s })
    (record { re = nearest_of false s; im = nearest_of (not negative) c })))

-- an angle of a place in its turn, which lies in quarter w / 1686629713 at the place w % 1686629713
unfoldable pub place_pair : Bool → ℕ → Rotation
place_pair negative w = quarter_pair negative (w / quarter_turn) (cosine_at (w % quarter_turn)) (sine_at (w % quarter_turn))

-- "An angle's size in units is rounded down, turns of 6746518852 come off". The sentence has a meaning for every finite number, however large; a NaN and the infinities have no angle, and give NaN twice.
unfoldable pub rotation_from_angle_of : Float → Rotation
rotation_from_angle_of nan = record { re = nan; im = nan }
rotation_from_angle_of (inf s) = record { re = nan; im = nan }
rotation_from_angle_of (fin s m e) = place_pair s (m * up e * 2 ^ 30 / down e % turn)

-- "12 when a typed angle is above 1024 in size"
unfoldable pub angle_too_large : Float → Bool
angle_too_large x = lt largest_angle (abs_of x)
