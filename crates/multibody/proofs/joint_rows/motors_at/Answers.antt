-- `motors_at` meets its contract, by those of `row_masks_at` and `motor_count`.
use Rattle.multibody.proofs.joint_rows.motors_at.Goals as goal

pub returns : goal.returns
returns g c = c.motor_count.ensures _ _ c.row_masks_at.ensures
