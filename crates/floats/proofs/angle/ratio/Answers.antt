-- `ratio` meets its contract: the case that the tests left, with the quotient of what `min` and `max` promise.
use Rattle.std.proofs.Common.{◌≡◌}
use lib.Ieee.{of_bits, div, binary32}
use Rattle.floats.specs.Operators.{◌⊘◌}
use Rattle.floats.specs.Scalar.{min_of, max_of}
use Rattle.floats.specs.Angle.{ratio}
use Rattle.floats.proofs.angle.ratio.Goals as goal
use Rattle.floats.proofs.angle.ratio.Goals.{else-a-via-else-a, else-a-via-then-a+else-b}

pub returns-then-b : goal.returns-then-b
unfolding ratio of_bits
returns-then-b c = simp (c.if-a.true, c.if-b.true)

pub returns : goal.returns
unfolding ratio of_bits
returns c =
    let s = c in
    let q : div binary32 c.min.result c.max.result ≡ min_of s.args.a s.args.b ⊘ max_of s.args.a s.args.b = cc (c.min.ensures, c.max.ensures) in
    elim c.else-a.branch [ else-a-via-then-a+else-b v ↦ simp (v.if-a.true, v.if-b.false) q | else-a-via-else-a v ↦ simp v.if-a.false q ]
