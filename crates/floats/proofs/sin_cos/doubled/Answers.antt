use Rattle.std.proofs.Common.{◌≡◌, ℕ, ◌*◌, ◌%◌, ◌^◌, ap, ◌∙◌, mod-lt, arith, lit<}
use Rattle.floats.specs.SinCos.{turn}
use Rattle.floats.proofs.TurnLaws.{once_more, not_yet}
use Rattle.floats.proofs.sin_cos.doubled.Goals as goal

pub loop-init : goal.loop-init
loop-init c = (omega arith, not_yet c.args.d c.requires)

pub overflow_mul-w : goal.overflow_mul-w
overflow_mul-w c = omega arith

pub loop-preserved : goal.loop-preserved
loop-preserved c =
    let l = c.loop in
    (mod-lt (l.w * 2) (lit< tt), once_more c.args.d l.counter l.w l.invariant.1)

pub returns : goal.returns
returns c =
    let l = c.loop in
    let e : l.counter ≡ c.args.j = omega arith in
    l.invariant.1 ∙ ap (λ (n : ℕ). c.args.d * 2 ^ n % turn) e
