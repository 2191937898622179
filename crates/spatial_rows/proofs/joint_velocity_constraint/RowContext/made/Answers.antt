use mathlib.Core.Path.{◌≡◌}
use native.Mathlib.Omega.{arith}
use Rattle.rows.proofs.Filled.{push-mapped}
use Rattle.spatial_rows.specs.Update.{blank_row, row_of, made_rows}
use borrow.Author.Rules.{rules}
use Rattle.spatial_rows.proofs.joint_velocity_constraint.RowContext.made.Goals as goal

pub loop-k-init : goal.loop-k-init
loop-k-init c = (search rules, rw c.blank_row-rows.ensures)

pub loop-k-preserved : goal.loop-k-preserved
loop-k-preserved c =
    let nine = c.well_formed.1.0.1.1.0.1.0.1 in (
      search rules,
      push-mapped (λ i. row_of c.args.self i.id) blank_row 9 c.args.ids.ids c.loop-k.k _ c.loop-k.rows c.row.result (search rules) (omega (arith, nine)) c.loop-k.invariant.1 c.row.ensures,
    )

pub returns : goal.returns
unfolding made_rows
returns c =
    let e : c.loop-k.k ≡ c.args.count = omega arith in
    rw (c.loop-k.invariant.1, e)
