-- What a binary32 number is made of: its sign, its leading digits and a power of two, counted from the smallest value.
use Rattle.std.specs.Prelude.{ℕ, ◌-◌, ◌*◌, ◌/◌, ◌^◌, ℤ, Float}
use Rattle.std.specs.Float.{nan, inf, fin}
use Rattle.std.specs.Float.Ieee.{up, down, size}
use Rattle.floats.specs.declared.bits.Parts.{Parts}
use Rattle.floats.specs.declared.bits.Parts.TheVariants.{Nan, Infinite, Finite}

-- the size of m · 2 ^ e in units of 2 ^ -149, the smallest binary32 value
unfoldable pub units_of : ℕ → ℤ → ℕ
units_of m e = m * up e * 2 ^ 149 / down e

-- A finite number of n units keeps its 24 leading digits, n / 2 ^ k, and k says how many more it has.
unfoldable pub parts_of : Float → Parts
unfolding size units_of
parts_of nan = Nan
parts_of (inf s) = Infinite s
parts_of (fin s m e) =
    let n = units_of m e in
    let k = size n - 24 in
    Finite s (n / 2 ^ k) k
