-- Every number that is drawn is finite, computed over all 2001 of them.
use Rattle.std.proofs.Common.{◌≡◌, ℕ, ◌%◌, true, refl, arith}
use lib.Ieee.{neg, div, of_int, of_bits, round, units, odd}
use Rattle.floats.specs.Scalar.{is_finite}
use Rattle.multibody.specs.Rules.{all}
use Rattle.multibody.proofs.RuleLaws.{all-below}
use Rattle.seeded.specs.Draws.{eighths, number_of}

all-eighths : all 0 2001 (λ k. is_finite (eighths k)) ≡ true
unfolding all is_finite eighths div of_int of_bits neg round units odd
all-eighths = refl

pub number-finite : (d : ℕ) → is_finite (number_of d) ≡ true
unfolding number_of
number-finite d = all-below (λ k. is_finite (eighths k)) 2001 all-eighths (d % 2001) (omega arith)
