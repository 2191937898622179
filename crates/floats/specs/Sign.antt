-- Document 01, "Float leaves": the sign bit of a number, its magnitude, and signum.
use Rattle.std.specs.Prelude.{Bool, false, pos, Float}
use Rattle.std.specs.Float.{nan, inf, fin}

-- The sign bit: set for -0 and for minus infinity. The one NaN counts as clear.
unfoldable pub sign_bit : Float → Bool
sign_bit nan = false
sign_bit (inf s) = s
sign_bit (fin s m e) = s

-- the magnitude: the sign bit cleared
unfoldable pub abs_of : Float → Float
abs_of nan = nan
abs_of (inf s) = inf false
abs_of (fin s m e) = fin false m e

-- 1 or -1 by the sign bit, so signum(+0) is 1 and signum(-0) is -1; NaN of NaN
unfoldable pub signum_of : Float → Float
signum_of nan = nan
signum_of (inf s) = fin s 1 (pos 0)
signum_of (fin s m e) = fin s 1 (pos 0)
