-- `exponent_size` meets its contract.
use Prim.Native.Nat.{◌-◌}
use mathlib.Core.Path.{sym, ap}
use mathlib.Core.Bool.{Bool, cond}
use borrow.Author.Tests.{lt-ltb, le-ltb}
use Rattle.decimals.proofs.spelled.exponent_size.Goals as goal

pub returns-then-places-lt45 : goal.returns-then-places-lt45
returns-then-places-lt45 c = sym (ap (λ (t : Bool). cond t (45 - c.args.places) (c.args.places - 45)) (lt-ltb c.args.places 45 c.if-places-lt45.true))

pub returns-else-places-lt45 : goal.returns-else-places-lt45
returns-else-places-lt45 c = sym (ap (λ (t : Bool). cond t (45 - c.args.places) (c.args.places - 45)) (le-ltb c.args.places 45 c.if-places-lt45.false))
