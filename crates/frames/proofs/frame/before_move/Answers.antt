-- `before_move` meets its contract, by those of its calls.
use Rattle.frames.proofs.FrameLaws.{before-move}
use Rattle.frames.proofs.frame.before_move.Goals as goal

pub returns : goal.returns
returns c =
    before-move _ _ _ _ (rw (← c.built_header-h.ensures) at c.build-made.ensures) c.warm_start.ensures c.sweep.ensures.rows_after
