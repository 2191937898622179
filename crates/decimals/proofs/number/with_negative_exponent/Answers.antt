-- `with_negative_exponent` meets its contract.
use mathlib.Core.Path.{sym, ◌∙◌}
use mathlib.Core.Bool.{false}
use native.Mathlib.Omega.{arith}
use Rattle.decimals.proofs.DecimalLaws.{too_small}
use Rattle.decimals.proofs.ReadLaws.{float_zero}
use Rattle.decimals.proofs.number.with_negative_exponent.Goals as goal

pub returns-then-e-gt64 : goal.returns-then-e-gt64
returns-then-e-gt64 c = float_zero ∙ sym (too_small false _ _ c.requires.0 (omega arith))
