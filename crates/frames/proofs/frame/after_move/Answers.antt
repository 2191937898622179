-- `after_move` meets its contract, by those of its calls.
use Rattle.frames.proofs.FrameLaws.{after-move}
use Rattle.frames.proofs.frame.after_move.Goals as goal

pub returns : goal.returns
returns c =
    record { result_after = after-move _ _ c.remove_bias.ensures c.sweep.ensures.rows_after; filled = c.sweep.ensures.filled }
