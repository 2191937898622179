use Prim.Native.Nat.{ℕ, ◌≤◌, ◌*◌}
use native.Mathlib.Nat.{mul-le-mul_right}
use native.Mathlib.Omega.{arith}
use borrow.Author.Rules.{rules}
use mir.Syntax.{w32}
use mir.Val.{Fits}
use lib.ListN.{get_or}
use Rattle.decimals.specs.Limbs.{value}
use Rattle.decimals.proofs.LimbLaws.{product-limb, product_whole}
use Rattle.decimals.proofs.big.times.Goals as goal
use Rattle.decimals.proofs.big.times.Goals.{In-loop-i, Start}

limb : (c : Start) (j : ℕ) → Fits w32 (get_or c.args.a j 0)
limb c j = search rules

-- a limb's product with its carry
small : (c : In-loop-i) → get_or c.args.a c.loop-i.i 0 * c.args.k ≤ 4294967295 * c.args.k
small c = mul-le-mul_right _ (omega (arith, (limb c.before.before c.loop-i.i).fits))

pub loop-i-init : goal.loop-i-init
unfolding value
loop-i-init c = search rules

pub overflow_mul-t : goal.overflow_mul-t
overflow_mul-t c = record { fits = omega (arith, small c) }

pub overflow_add-t : goal.overflow_add-t
overflow_add-t c = record { fits = omega (arith, small c) }

pub loop-i-preserved : goal.loop-i-preserved
loop-i-preserved c =
    (search rules, search rules, omega (arith, small c), product-limb c.loop-i.r c.args.a c.loop-i.i c.args.k c.loop-i.carry (omega arith) (omega arith) c.loop-i.invariant.3)

pub returns : goal.returns
returns c =
    product_whole c.loop-i.r c.args.a c.loop-i.i c.args.k c.loop-i.carry (omega arith) c.loop-i.invariant.0 c.loop-i.invariant.1 c.loop-i.invariant.3 c.requires
