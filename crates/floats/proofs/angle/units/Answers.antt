-- `units` meets its contract: each call's promise put into the next. The ratio lies from 0 to 1, so its units are at most 2 ^ 30, and the arc is at most an eighth of a turn.
use Rattle.std.proofs.Common.{ℕ, ◌^◌, ◌≤◌, sym, subst}
use Rattle.floats.specs.Angle.{eighth_turn, angle_units}
use Rattle.floats.proofs.Arc.{arc-le}
use Rattle.floats.proofs.UnitInterval.{InUnit, ratio-in-unit}
use Rattle.floats.proofs.WholeUnits.{units-le}
use Rattle.floats.proofs.angle.units.Goals as goal
use Rattle.floats.proofs.angle.units.Goals.{After-to_units-whole, Start}

in-unit : (c : Start) → InUnit c.args.t
in-unit c = subst InUnit (sym c.requires.2) (ratio-in-unit c.args.re c.args.im c.requires.0 c.requires.1)

-- T is at most 2 ^ 30
whole_le : (c : After-to_units-whole) → c.to_units-whole.result ≤ 2 ^ 30
whole_le c = subst (λ (n : ℕ). n ≤ 2 ^ 30) (sym c.to_units-whole.ensures) (units-le c.args.t (in-unit c.before))

pub to_units-whole-requires : goal.to_units-whole-requires
to_units-whole-requires c = in-unit c

pub arc-requires : goal.arc-requires
arc-requires c = whole_le c.before.before.before

pub fold-requires : goal.fold-requires
fold-requires c =
    let t = c.before.before.before.before in
    subst (λ (n : ℕ). n ≤ eighth_turn) (sym c.arc.ensures) (arc-le t.to_units-whole.result (whole_le t))

pub returns : goal.returns
unfolding angle_units
returns c =
    let b = c in
    let t = b in
    cc (c.fold.ensures, c.arc.ensures, c.sign_bit.ensures, b.abs-2.ensures, b.abs.ensures, t.to_units-whole.ensures, t.requires.2)
