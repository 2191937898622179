-- `move_all` meets its contract: before each turn, the bodies that are left move to what all of them move to.
use Rattle.std.proofs.Common.{◌≡◌, ◌-◌, length}
use Rattle.multibody.specs.Counts.{body_count}
use Rattle.model.specs.Planar.{plane}
use Rattle.frames.specs.Moving.{move_from}
use Rattle.frames.proofs.moving.move_all.Given as goal

abbrev pub invariant-loop-i : goal.invariant-loop-i
invariant-loop-i l =
    (l.n ≡ body_count plane l.initial.b) × (length l.b ≡ length l.initial.b) × (move_from l.h l.i (l.n - l.i) l.b ≡ move_from l.h 0 (body_count plane l.initial.b) l.initial.b)
