-- The target velocity of a record: its number of thousandths as binary32, divided once by 1000.
use Rattle.std.specs.Prelude.{cond, pos, Float}
use Rattle.std.specs.Float.{binary32}
use Rattle.std.specs.Float.Ieee.{neg, of_int}
use Rattle.floats.specs.Operators.{◌⊘◌, bits}
use Rattle.motor_table.specs.declared.whole_number.Number.{Number}

-- 0 is +0
abbrev pub number_float : Number → Float
number_float n = cond n.negative (neg (of_int binary32 (pos n.size))) (of_int binary32 (pos n.size))

-- 1000
abbrev pub thousand : Float
thousand = bits 0x447a0000

unfoldable pub target_of : Number → Float
target_of n = number_float n ⊘ thousand
