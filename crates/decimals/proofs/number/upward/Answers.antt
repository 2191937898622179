-- `upward` meets its contract: from 10^39 on each number but 0 is past the largest.
use mathlib.Core.Path.{sym, ap, ◌∙◌}
use mathlib.Core.Bool.{false}
use Prim.Native.Nat.{ℕ}
use native.Mathlib.Omega.{arith}
use Rattle.decimals.specs.Rounding.{decimal_of}
use Rattle.decimals.proofs.DecimalLaws.{zero-digits, too_large}
use Rattle.decimals.proofs.ReadLaws.{float_zero, float-infinity}
use Rattle.decimals.proofs.number.upward.Goals as goal

pub returns-then-w-eq0 : goal.returns-then-w-eq0
returns-then-w-eq0 c = float_zero ∙ sym (ap (λ (x : ℕ). decimal_of false x c.args.n 0) c.if-w-eq0.true ∙ zero-digits false c.args.n 0)

pub returns-then-n-gt38 : goal.returns-then-n-gt38
returns-then-n-gt38 c = float-infinity ∙ sym (too_large false _ _ (omega arith) c.if-n-gt38.true)

pub returns : goal.returns
returns c = c.from_bits.ensures ∙ c.scaled_up.ensures
