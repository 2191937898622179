-- `shifted` meets its contract: the power in two parts.
use mathlib.Core.Path.{◌≡◌, sym, ap, ◌∙◌, subst}
use Prim.Native.Nat.{ℕ, ◌*◌, ◌%◌, ◌^◌, ◌<◌}
use native.Mathlib.Omega.{arith}
use Rattle.decimals.specs.Limbs.{value}
use Rattle.decimals.proofs.PowerLaws.{parts-room, second-room, second-part, one_shifted}
use Rattle.decimals.proofs.big.shifted.Goals as goal

by-shift : (r n : ℕ) → r * (1 * 2 ^ (n % 16) % 2 ^ 32) ≡ r * 2 ^ (n % 16)
by-shift r n = ap (λ (x : ℕ). r * x) (one_shifted (n % 16) (omega arith))

pub times_power-requires : goal.times_power-requires
times_power-requires c = (omega arith, parts-room (value c.args.a) 2 16 c.args.n _ (omega arith) c.requires)

pub times-requires : goal.times-requires
times-requires c =
    subst (λ (x : ℕ). x < 2 ^ 448) (sym (by-shift _ c.args.n)) (second-room (value c.args.a) 2 16 c.args.n _ _ c.times_power.ensures c.requires)

pub returns : goal.returns
returns c =
    c.times.ensures
    ∙ by-shift _ c.args.n
    ∙ second-part (value c.args.a) 2 16 c.args.n _ c.times_power.ensures
