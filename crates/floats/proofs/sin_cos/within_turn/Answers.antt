-- `within_turn` meets its contract, by the laws of proofs/TurnLaws.antt for the three ranges of k.
use Rattle.std.proofs.Common.{◌≤◌, ◌∙◌, arith}
use Rattle.floats.proofs.TurnLaws.{shifted_up, below_one, shifted_down}
use Rattle.floats.proofs.sin_cos.within_turn.Goals as goal

pub returns-then-k-ge119 : goal.returns-then-k-ge119
returns-then-k-ge119 c = c.doubled.ensures ∙ shifted_up c.args.d c.args.k c.if-k-ge119.true

pub returns-then-s-ge24 : goal.returns-then-s-ge24
returns-then-s-ge24 c =
    let k : c.args.k ≤ 95 = omega arith in
    below_one c.args.d c.args.k c.requires k

pub returns : goal.returns
returns c = shifted_down c.args.d c.args.k c.requires c.if-k-ge119.false
