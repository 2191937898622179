-- `nearest` meets its contract: the quotient is the fraction rounded once, and a number other than 0 takes the sign.
use Rattle.std.proofs.Common.{◌≡◌, ◌^◌, false, pos, sym, ap, ◌∙◌, arith}
use lib.Ieee.{Float, fin, binary32, round, div, neg, of_int, of_bits}
use Rattle.floats.specs.SinCos.{nearest_of}
use Rattle.floats.proofs.Values.{neg-round}
use Rattle.floats.proofs.ScaledRound.{from-units}
use Rattle.floats.proofs.sin_cos.nearest.Goals as goal
use Rattle.floats.proofs.sin_cos.nearest.Goals.{else-negative-via-then-negative+else-n-ne0, else-negative-via-else-negative}
use Rattle.floats.proofs.sin_cos.nearest.Goals.{After-nearest_u32_to_f32-x}

-- the number without a sign, once the quotient is taken
plain : (c : After-nearest_u32_to_f32-x) → div binary32 c.nearest_u32_to_f32-x.result (fin false 1 (pos 30)) ≡ round binary32 false c.args.n (2 ^ 30)
unfolding of_int
plain c = ap (λ (x : Float). div binary32 x (fin false 1 (pos 30))) c.nearest_u32_to_f32-x.ensures ∙ from-units c.args.n (omega arith)

pub returns-then-n-ne0 : goal.returns-then-n-ne0
unfolding of_bits nearest_of
returns-then-n-ne0 c =
    let s = c in
    ap neg (plain c.before.before) ∙ neg-round binary32 s.args.n (2 ^ 30) ∙ sym (simp (c.if-negative.true, c.if-n-ne0.true-raw))

pub returns-else-negative : goal.returns-else-negative
unfolding of_bits nearest_of
returns-else-negative c = plain c.before ∙ sym (elim c.else-negative.branch [ else-negative-via-then-negative+else-n-ne0 v ↦ simp (v.if-negative.true, v.if-n-ne0.false-raw) | else-negative-via-else-negative v ↦ simp v.if-negative.false ])
