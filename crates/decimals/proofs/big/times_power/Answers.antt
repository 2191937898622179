use mathlib.Core.Path.{ap, ◌∙◌}
use Prim.Native.Nat.{ℕ, ◌*◌, ◌^◌}
use native.Mathlib.Omega.{arith}
use Rattle.decimals.specs.Limbs.{value}
use Rattle.decimals.proofs.PowerLaws.{power-start, power-more, power-room}
use Rattle.decimals.proofs.big.times_power.Goals as goal

pub loop-init : goal.loop-init
loop-init c = power-start (value c.args.a) c.args.k

pub times-next-requires : goal.times-next-requires
times-next-requires c = power-room _ _ c.args.n _ _ _ c.requires.0 c.loop-test.true c.loop.invariant c.requires.1

pub loop-preserved : goal.loop-preserved
loop-preserved c =
    c.times-next.ensures ∙ ap (λ (x : ℕ). x * c.args.k) c.loop.invariant ∙ power-more (value c.args.a) c.args.k c.loop.counter

pub returns : goal.returns
returns c = c.loop.invariant ∙ ap (λ (x : ℕ). value c.args.a * c.args.k ^ x) (omega arith)
