-- `one_substep` meets its contract, by those of its parts.
use Rattle.std.proofs.Common.{refl}
use Rattle.frames.proofs.FrameLaws.{substep-stops, substep-goes, still-few}
use Rattle.frames.proofs.frame.one_substep.Goals as goal

pub move_all-requires : goal.move_all-requires
move_all-requires c = still-few _ _ c.before_move-h.auto.bodies c.requires

pub returns-then-not-move_all : goal.returns-then-not-move_all
returns-then-not-move_all c =
    let e = substep-stops _ _ _ _ c.before_move-h.ensures c.if-not-move_all.ensures in
    rw (← e) (refl, refl)

pub returns : goal.returns
returns c =
    (substep-goes _ _ _ _ c.before_move-h.ensures c.if-not-move_all.ensures c.after_move-last.ensures.result_after, c.after_move-last.ensures.filled)
