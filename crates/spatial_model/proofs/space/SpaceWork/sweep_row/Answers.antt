-- `sweep_row` meets its contract, by those of its parts.
use mathlib.Core.Path.{ap}
use native.Mathlib.Omega.{arith}
use Rattle.spatial_rows.specs.declared.joint_velocity_constraint.JointConstraint.{JointConstraint}
use Rattle.spatial_rows.specs.declared.joint_velocity_constraint.SolverVel.{SolverVel}
use Rattle.spatial_rows.specs.declared.joint_velocity_constraint.Solved.{Solved}
use Rattle.multibody.specs.Store.{Stepped}
use Rattle.multibody.proofs.JointRowsLaws.{sweep-steps, sweep-side}
use Rattle.spatial_model.specs.Spatial.{space}
use Rattle.spatial_model.proofs.space.SpaceWork.sweep_row.Goals as goal

-- the solver's answer as a step
abbrev stepped : Solved → Stepped JointConstraint SolverVel
stepped t = record { row = t.row; vel1 = t.vels.vel1; vel2 = t.vels.vel2; side = t.side }

pub put_row-requires : goal.put_row-requires
put_row-requires c = c.requires.row_width_in_bounds

pub put_vel-requires : goal.put_vel-requires
put_vel-requires c = c.requires.present

pub put_vel-requires-2 : goal.put_vel-requires-2
put_vel-requires-2 c h =
    omega (arith, c.put_vel.auto.b, c.requires.present_2 h)

pub returns : goal.returns
returns c =
    let t = ap stepped c.solve_row-solved.ensures in (
      sweep-side space _ _ c.args.k c.args.b1 c.args.b2 c.row_at-row.ensures c.vel_at.ensures c.vel_at-2.ensures t,
      sweep-steps space _ _ c.args.k c.args.b1 c.args.b2 c.row_at-row.ensures c.vel_at.ensures c.vel_at-2.ensures t c.put_row.ensures
          c.put_vel.ensures c.put_vel-2.ensures,
    )
