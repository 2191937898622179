-- `near_zero` meets its contract: each test of the definition in turn.
use Rattle.std.proofs.Common.{◌≡◌, true, false, sym, ap, ◌∙◌}
use lib.Ieee.{Float, lt}
use Rattle.floats.specs.Constants.{small_tangent}
use Rattle.floats.specs.Sign.{sign_bit, abs_of}
use Rattle.floats.specs.Angle.{near_zero}
use Rattle.floats.proofs.angle.near_zero.Goals as goal
use Rattle.floats.proofs.angle.near_zero.Goals.{then-not-sign_bit, else-not-sign_bit}

pub returns-then-abs : goal.returns-then-abs
unfolding near_zero
returns-then-abs c =
    elim c.if-not-sign_bit.branch [
      | then-not-sign_bit w ↦
          let plus : sign_bit c.args.re ≡ false = sym c.sign_bit.ensures ∙ w.if-not-sign_bit.true in
          let flat : lt (abs_of c.args.im) (abs_of c.args.re) ≡ true = cc (w.abs.ensures, w.abs-then-not-sign_bit.ensures, w.value-is, c.if-abs.true) in
          simp (plus, flat) (ap (λ (x : Float). lt x small_tangent) c.requires)
      | else-not-sign_bit w ↦ cc (w.value-is, c.if-abs.true)
    ]

pub returns-else-abs : goal.returns-else-abs
unfolding near_zero
returns-else-abs c =
    elim c.if-not-sign_bit.branch [
      | then-not-sign_bit w ↦
          let plus : sign_bit c.args.re ≡ false = sym c.sign_bit.ensures ∙ w.if-not-sign_bit.true in
          let steep : lt (abs_of c.args.im) (abs_of c.args.re) ≡ false = cc (w.abs.ensures, w.abs-then-not-sign_bit.ensures, w.value-is, c.if-abs.false) in
          simp (plus, steep) c.if-abs.false
      | else-not-sign_bit w ↦
          let minus : sign_bit c.args.re ≡ true = sym c.sign_bit.ensures ∙ w.if-not-sign_bit.false in
          simp minus c.if-abs.false
    ]
