-- `warmstart_row` meets its contract, by those of its parts.
use native.Mathlib.Omega.{arith}
use Rattle.multibody.specs.JointRows.{warmstart_row}
use Rattle.model.proofs.plane.PlaneWork.warmstart_row.Goals as goal

pub put_vel-requires-2 : goal.put_vel-requires-2
put_vel-requires-2 c h =
    omega (arith, c.put_vel.auto.b, c.requires.present_2 h)

pub returns : goal.returns
unfolding warmstart_row
returns c =
    cc (c.put_vel-2.ensures, c.put_vel.ensures, c.warmstart_generic-vels.ensures, c.vel_at-2.ensures, c.vel_at.ensures, c.row_at-row.ensures)
