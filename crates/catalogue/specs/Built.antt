-- Request R-8: "The listed ids are shown to be those that a build gives an enabled joint for any numbers that pass the check."
use Rattle.std.specs.Prelude.{ℕ, ◌<◌, ◌≡◌, true, List, ◌++◌, map, length, Float, Option}
use Rattle.floats.specs.Operators.{bits}
use Rattle.rows.specs.GenericJoint.{is_enabled}
use Rattle.rows.specs.RowIds.{row_ids, filled}
use Rattle.rows.specs.Finalize.{finalize_of}
use Rattle.rows.specs.Update.{row_of}
use Rattle.rows.specs.Builder.{joint_context_of, warmed_all}
use Rattle.rows.specs.declared.joint_velocity_constraint.JointConstraint.{JointConstraint}
use Rattle.rows.specs.declared.joint_velocity_constraint.RowContext.{RowContext}
use Rattle.rows.specs.declared.joint_velocity_constraint.WritebackId.{WritebackId}
use Rattle.model.specs.Store.{solver_pose_at, joint_at, masks_at, enabled_at, body1_at, body2_at}
use Rattle.multibody.specs.JointRows.{impulses_at, row_count}
use Rattle.multibody.specs.Model.{Model}
use Rattle.multibody.specs.Counts.{joint_count, rows_before}
use Rattle.multibody.specs.Calls.{Outcome, outcome, refusal_of, run}
use Rattle.multibody.specs.Calls.Call.{build, read_rows}
use Rattle.multibody.specs.Calls.Answer.{rows_read}
use Rattle.model.specs.Planar.{plane, planar}
use Rattle.catalogue.specs.Choices.{choices, entry}

-- the ids on line n
abbrev pub listed_ids : ℕ → List WritebackId
listed_ids n = row_ids 2 1 (entry n)

-- joint j is there and enabled, and line n has its masks
pub record OnLine (m : Model) (j n : ℕ) : Type 0 where
  pub there : j < joint_count plane m.words m.numbers
  pub enabled : is_enabled (enabled_at m.words j) ≡ true
  pub masks : masks_at m.words j ≡ entry n

-- what joint j's rows are made from
abbrev pub context_at : Model → ℕ → RowContext
context_at m j =
    joint_context_of m.params (solver_pose_at m.bodies (body1_at m.words j)) (solver_pose_at m.bodies (body2_at m.words j)) (joint_at m.words m.numbers j)

-- the last impulses of its rows, as they stand in the row storage
abbrev pub last_at : Model → ℕ → List Float → List Float
last_at m j rows = filled 6 (bits 0) (impulses_at plane rows (rows_before plane m.words j) (row_count plane m.words j))

-- The build gives joint j these ids.
pub record Gives (m : Model) (warm : Option Float) (substep : ℕ) (rows : List Float) (j : ℕ) (ids : List WritebackId) : Type 0 where
  -- the ids of its two groups, one after the other
  pub one : List WritebackId
  pub two : List WritebackId
  pub groups : one ++ two ≡ ids
  -- its rows: each group made by its ids and orthogonalised, and each row started by its id
  pub made : List JointConstraint
  pub by_ids : made ≡ warmed_all warm substep (joint_at m.words m.numbers j) ids (last_at m j rows)
      (finalize_of (map (row_of (context_at m j)) one) ++ finalize_of (map (row_of (context_at m j)) two))
  -- as many as there are ids
  pub count : length made ≡ length ids
  -- a row read after the build answers these ids and these rows
  pub read : let o : Outcome plane = run planar (build warm substep) m rows in
      run planar (read_rows j) o.after o.rows ≡ outcome (rows_read ids made) o.after o.rows

-- joint j's line, and its ids are what the build gives the joint
pub record HasLine (m : Model) (warm : Option Float) (substep : ℕ) (rows : List Float) (j : ℕ) : Type 0 where
  pub line : ℕ
  pub inside : line < length choices
  pub on : OnLine m j line
  pub gives : Gives m warm substep rows j (listed_ids line)

-- Whatever a model and its numbers are: where a build is not refused, each enabled joint has its line.
abbrev pub Catalogued : Type 0
Catalogued =
    (m : Model) (warm : Option Float) (substep : ℕ) (rows : List Float) → refusal_of (run planar (build warm substep) m rows).answer ≡ 0
    → (j : ℕ) → j < joint_count plane m.words m.numbers → is_enabled (enabled_at m.words j) ≡ true → HasLine m warm substep rows j
