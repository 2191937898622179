-- Whether rows are settled, as the loops over rows, joints and rounds find it.
use Rattle.std.specs.Prelude.{Result, Ok, Err}
use Prim.Native.Nat.{ℕ, suc, ◌+◌, ◌-◌, ◌≤◌, ◌<◌}
use mathlib.Core.Path.{◌≡◌, ap}
use mathlib.Core.Bool.{Bool, true, false}
use mathlib.Core.List.{List}
use native.Mathlib.Numerals.{add-one}
use native.Mathlib.Omega.{arith}
use lib.Ieee.{Float}
use lib.ListN.{length, get_or, take, drop, length-take, drop_of_length-le}
use lib.Seq.{drop-cons, get_or-take}
use Rattle.rows.specs.Reaction.{rows_in}
use Rattle.rows.specs.declared.joint_velocity_constraint.JointConstraint.{JointConstraint}
use Rattle.multibody.specs.Model.{Model}
use Rattle.multibody.specs.Calls.{outcome, run}
use Rattle.multibody.specs.Calls.Call.{sweep, read_rows}
use Rattle.model.specs.Planar.{planar}
use Rattle.model.specs.Answers.{rows_answer}
use Rattle.rows.specs.declared.row_ids.RowIds.{RowIds}
use Rattle.rows.specs.declared.joint_velocity_constraint.Rows.{Rows}
use Rattle.multibody.specs.declared.refusal.Refusal.{Refusal}
use Rattle.frames.specs.Studies.{plain}
use Rattle.study_run.specs.Study.{Study}
use Rattle.study_run.specs.ModelCalls.{run_model_call}
use Rattle.study_run.specs.Settled.{row_settled, rows_settled, answer_settled, joint_settled, joints_settled, rounds, rounds_from}

-- ---- the rows of a joint

module _ (tolerance : Float) (bodies : List Float) (words : List ℕ) (j : ℕ) where
  module _ (n k : ℕ) (l : List JointConstraint) (d : JointConstraint) (h : k < length (take n l)) {b : Bool} (e : b ≡ row_settled tolerance bodies words j (get_or l k d)) where
    pub row_open : b ≡ false → rows_settled tolerance bodies words j (drop k (take n l)) ≡ false
    unfolding rows_settled
    row_open f = rw (drop-cons (take n l) k d h, get_or-take n l k d (omega (arith, h, length-take n l)), ← e, f)

    pub row_next : b ≡ true → rows_settled tolerance bodies words j (drop k (take n l)) ≡ rows_settled tolerance bodies words j (drop (k + 1) (take n l))
    unfolding rows_settled
    row_next f = rw (drop-cons (take n l) k d h, get_or-take n l k d (omega (arith, h, length-take n l)), ← e, f, add-one k)

  pub rows-done : (k : ℕ) (l : List JointConstraint) → length l ≤ k → rows_settled tolerance bodies words j (drop k l) ≡ true
  unfolding rows_settled
  rows-done k l h = rw (drop_of_length-le l {i = k} h)

-- ---- the joints

module _ (tolerance : Float) (m : Model) (rows : List Float) (j : ℕ) where
  module _ (r : Result (RowIds × Rows) Refusal) {m' : Model} {rs : List Float} (e : outcome (rows_answer r) m' rs ≡ run planar (read_rows j) m rows) where
    pub joint-granted : {a : RowIds × Rows} → r ≡ Ok a → rows_settled tolerance m.bodies m.words j (rows_in a.1) ≡ joint_settled tolerance m rows j
    unfolding joint_settled answer_settled
    joint-granted d = rw (← e, d)

    pub joint-refused : {x : Refusal} → r ≡ Err x → true ≡ joint_settled tolerance m rows j
    unfolding joint_settled answer_settled
    joint-refused d = rw (← e, d)

  module _ (n : ℕ) where
    pub joints-done : n ≤ j → joints_settled tolerance m rows j (n - j) ≡ true
    unfolding joints_settled
    joints-done g =
        let z : n - j ≡ 0 = omega arith in
        rw z

    module _ (g : j < n) {b : Bool} (e : b ≡ joint_settled tolerance m rows j) where
      pub joint-open : b ≡ false → joints_settled tolerance m rows j (n - j) ≡ false
      unfolding joints_settled
      joint-open f =
          let z : n - j ≡ suc (n - (j + 1)) = omega arith in
          rw (z, ← e, f)

      pub joint-next : b ≡ true → joints_settled tolerance m rows j (n - j) ≡ joints_settled tolerance m rows (j + 1) (n - (j + 1))
      unfolding joints_settled
      joint-next f =
          let z : n - j ≡ suc (n - (j + 1)) = omega arith in
          rw (z, ← e, f)

-- ---- the rounds

module _ (joints : ℕ) (tolerance : Float) (many most : ℕ) (s : Study) where
  pub rounds-done : many ≤ most → most ≤ many → rounds_from joints tolerance (most - many) many s ≡ rounds most s
  unfolding rounds_from
  rounds-done l g =
      let z : most - many ≡ 0 = omega arith in
      let e : many ≡ most = omega arith in
      rw z (ap (λ (n : ℕ). rounds n s) e)

  module _ (g : many < most) {b : Bool} (e : b ≡ joints_settled tolerance s.model s.rows 0 joints) where
    pub rounds-settled : b ≡ true → rounds_from joints tolerance (most - many) many s ≡ rounds many s
    unfolding rounds_from
    rounds-settled f =
        let z : most - many ≡ suc (most - (many + 1)) = omega arith in
        rw (z, ← e, f)

    pub rounds-next : b ≡ false → {t : Study} → t ≡ (run_model_call (plain (sweep 1)) s).left
        → rounds_from joints tolerance (most - many) many s ≡ rounds_from joints tolerance (most - (many + 1)) (many + 1) t
    unfolding rounds_from
    rounds-next f d =
        let z : most - many ≡ suc (most - (many + 1)) = omega arith in
        rw (z, ← e, f, d)
