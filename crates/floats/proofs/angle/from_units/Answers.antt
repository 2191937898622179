-- `from_units` meets its contract: the quotient is the fraction rounded once, and the sign goes through.
use Rattle.std.proofs.Common.{◌^◌, Bool, false, pos, sym, ap, ◌∙◌}
use lib.Ieee.{Float, fin, binary32, round, div, neg, of_int, of_bits}
use Rattle.floats.proofs.Values.{neg-round}
use Rattle.floats.proofs.ScaledRound.{from-units}
use Rattle.floats.proofs.angle.from_units.Goals as goal

pub returns-then-negative : goal.returns-then-negative
unfolding of_int of_bits
returns-then-negative c =
    let s = c in
    ap neg (ap (λ (x : Float). div binary32 x (fin false 1 (pos 30))) c.nearest_u32_to_f32-x.ensures ∙ from-units s.args.a s.requires)
    ∙ neg-round binary32 s.args.a (2 ^ 30)
    ∙ ap (λ (b : Bool). round binary32 b s.args.a (2 ^ 30)) (sym c.if-negative.true)

pub returns-else-negative : goal.returns-else-negative
unfolding of_int of_bits
returns-else-negative c =
    let s = c in
    ap (λ (x : Float). div binary32 x (fin false 1 (pos 30))) c.nearest_u32_to_f32-x.ensures
    ∙ from-units s.args.a s.requires
    ∙ ap (λ (b : Bool). round binary32 b s.args.a (2 ^ 30)) (sym c.if-negative.false)
