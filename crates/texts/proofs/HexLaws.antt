-- The hexadecimal digits of a number below 16.
use mathlib.Core.Path.{◌≡◌}
use mathlib.Core.Bool.{Bool, true, false}
use Prim.Native.Nat.{ℕ, ◌+◌, ◌≤◌, ◌<◌}
use borrow.Author.Tests.{lt-ltb, le-ltb}
use Rattle.texts.specs.Hex.{hex_digit}

pub digit_low : (capitals : Bool) (d : ℕ) → d < 10 → 0x30 + d ≡ hex_digit capitals d
unfolding hex_digit
digit_low capitals d h = simp (lt-ltb d 10 h)

pub digit-capital : (capitals : Bool) (d : ℕ) → 10 ≤ d → capitals ≡ true → 0x37 + d ≡ hex_digit capitals d
unfolding hex_digit
digit-capital capitals d h e = simp (le-ltb d 10 h, e)

pub digit-small : (capitals : Bool) (d : ℕ) → 10 ≤ d → capitals ≡ false → 0x57 + d ≡ hex_digit capitals d
unfolding hex_digit
digit-small capitals d h e = simp (le-ltb d 10 h, e)
