-- Sweeps, round by round, until the rows are settled: no row's residual, what one more step would change of its impulse, is above a tolerance in size.
use Rattle.std.specs.Prelude.{ℕ, zero, suc, ◌+◌, Bool, true, cond, ◌&&◌, List, [], ◌∷◌, Float, Ok}
use Rattle.std.specs.Float.Ieee.{lt, le, neg}
use Rattle.floats.specs.Operators.{bits}
use Rattle.rows.specs.declared.joint_velocity_constraint.JointConstraint.{JointConstraint}
use Rattle.multibody.specs.Model.{Model}
use Rattle.multibody.specs.Calls.{Answer, run}
use Rattle.multibody.specs.Calls.Call.{sweep, read_rows}
use Rattle.multibody.specs.Calls.Answer.{granted, total, rows_read, velocity_read, swept, refused}
use Rattle.model.specs.Planar.{plane, planar}
use Rattle.model.specs.Reactions.{residual_at}
use Rattle.frames.specs.Studies.{plain}
use Rattle.study_run.specs.Study.{Study, Ran, ran, is_refused}
use Rattle.study_run.specs.ModelCalls.{run_model_call}
use Rattle.study_run.specs.declared.runs.Reply.TheVariants.{Settled}

abbrev pub size_of : Float → Float
size_of x = cond (lt x (bits 0)) (neg x) x

-- a row of joint j. Of a NaN it is false.
abbrev pub row_settled : Float → List Float → List ℕ → ℕ → JointConstraint → Bool
row_settled tolerance bodies words j row = le (size_of (residual_at bodies words row j)) tolerance

unfoldable pub rows_settled : Float → List Float → List ℕ → ℕ → List JointConstraint → Bool
rows_settled tolerance bodies words j [] = true
rows_settled tolerance bodies words j (row ∷ rows) = row_settled tolerance bodies words j row && rows_settled tolerance bodies words j rows

-- the rows that a row read answers
unfoldable pub answer_settled : Float → List Float → List ℕ → ℕ → Answer plane → Bool
answer_settled tolerance bodies words j (rows_read ids rows) = rows_settled tolerance bodies words j rows
answer_settled tolerance bodies words j granted = true
answer_settled tolerance bodies words j (total n) = true
answer_settled tolerance bodies words j (velocity_read v) = true
answer_settled tolerance bodies words j (swept counts) = true
answer_settled tolerance bodies words j (refused k) = true

unfoldable pub joint_settled : Float → Model → List Float → ℕ → Bool
joint_settled tolerance m rows j = answer_settled tolerance m.bodies m.words j (run planar (read_rows j) m rows).answer

-- n joints from joint j on
unfoldable pub joints_settled : Float → Model → List Float → ℕ → ℕ → Bool
joints_settled tolerance m rows j zero = true
joints_settled tolerance m rows j (suc n) = joint_settled tolerance m rows j && joints_settled tolerance m rows (j + 1) n

-- how many rounds there were, and what they left
pub record Rounds : Type 0 where
  pub many : ℕ
  pub left : Study

abbrev pub rounds : ℕ → Study → Rounds
rounds many left = record { many = many; left = left }

-- at most n rounds more than so many, each where the rows are not settled
unfoldable pub rounds_from : ℕ → Float → ℕ → ℕ → Study → Rounds
rounds_from joints tolerance zero many s = rounds many s
rounds_from joints tolerance (suc n) many s =
    cond (joints_settled tolerance s.model s.rows 0 joints) (rounds many s) (rounds_from joints tolerance n (many + 1) (run_model_call (plain (sweep 1)) s).left)

-- what is said: whether the rows are settled now, and how many rounds there were
abbrev pub settled_after : ℕ → Float → Rounds → Ran
settled_after joints tolerance r = ran (Ok (Settled (joints_settled tolerance r.left.model r.left.rows 0 joints) r.many)) r.left

-- refused as a sweep of no round is
unfoldable pub settle_of : ℕ → Float → ℕ → Study → Ran
settle_of joints tolerance most s =
    let first = run_model_call (plain (sweep 0)) s in
    cond (is_refused first.reply) first (settled_after joints tolerance (rounds_from joints tolerance most 0 first.left))
