-- `limit_bounds` meets its contract: each end is the case that its test left.
use mathlib.Core.Path.{◌≡◌, refl}
use mathlib.Core.Bool.{true, false}
use lib.Ieee.{inf, neg}
use Rattle.rows.specs.Makers.{limit_bounds_of}
use Rattle.rows.proofs.joint_constraint_helper.limit_bounds.Goals as goal
use Rattle.rows.proofs.joint_constraint_helper.limit_bounds.Goals.{then-dist-min, else-dist-min}

neg-infinity : neg (inf false) ≡ inf true
unfolding neg
neg-infinity = refl

pub returns-then-max-dist : goal.returns-then-max-dist
unfolding limit_bounds_of
returns-then-max-dist c =
    elim c.if-dist-min.branch [
      | then-dist-min w ↦ simp (w.if-dist-min.true, c.if-max-dist.true, c.infinity-then-max-dist.ensures, w.result-is, w.infinity.ensures, neg-infinity)
      | else-dist-min w ↦ simp (w.if-dist-min.false, c.if-max-dist.true, c.infinity-then-max-dist.ensures, w.result-is)
    ]

pub returns-else-max-dist : goal.returns-else-max-dist
unfolding limit_bounds_of
returns-else-max-dist c =
    elim c.if-dist-min.branch [
      | then-dist-min w ↦ simp (w.if-dist-min.true, c.if-max-dist.false, w.result-is, w.infinity.ensures, neg-infinity)
      | else-dist-min w ↦ simp (w.if-dist-min.false, c.if-max-dist.false, w.result-is)
    ]
