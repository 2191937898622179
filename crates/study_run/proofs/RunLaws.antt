-- One call of a study, by the contract of the model's call or of the frame.
use Rattle.std.specs.Prelude.{Result, Ok, Err, take, replicate}
use Rattle.std.specs.Result.{is_err, result_unwrap_or}
use Prim.Native.Nat.{ℕ, suc, ◌+◌, ◌-◌, ◌≤◌, ◌<◌}
use mathlib.Core.Path.{◌≡◌, refl, sym, ap, ◌∙◌}
use mathlib.Core.Bool.{Bool, true}
use mathlib.Core.List.{List, []}
use native.Mathlib.Omega.{arith}
use borrow.Author.Tests.{ne_eqb}
use lib.Ieee.{Float}
use Rattle.rows.specs.RowIds.{filled}
use Rattle.rows.specs.declared.joint_velocity_constraint.SolverVel.{SolverVel}
use Rattle.rows.specs.declared.joint_velocity_constraint.Rows.{Rows}
use Rattle.rows.specs.declared.row_ids.RowIds.{RowIds}
use Rattle.multibody.specs.Model.{Model}
use Rattle.multibody.specs.Calls.{Answer, Outcome, outcome, run}
use Rattle.multibody.specs.Calls.Call.{read_rows}
use Rattle.model.specs.Planar.{plane, planar}
use Rattle.multibody.specs.Calls.Answer.{swept}
use Rattle.multibody.specs.Answers.{refusal_number, refused_number, answer_of, velocity_answer, sweep_answer, Filled, load_header}
use Rattle.multibody.specs.declared.header.Header.{Header}
use Rattle.multibody.specs.declared.refusal.Refusal.{Refusal}
use Rattle.multibody.proofs.AnswerLaws.{not-granted}
use Rattle.model.specs.Answers.{rows_answer}
use Rattle.frames.specs.Studies.{MovingCall, run_moving}
use Rattle.study_run.specs.Motors.{Motors, found, counts_in, kept}
use Rattle.study_run.specs.Study.{Study, study, ran, is_refused, reply_of, numbered, granted_reply, rows_reply, velocity_reply, refusal_in}
use Rattle.study_run.specs.ModelCalls.{motors_after, run_model_call}
use Rattle.study_run.specs.Runs.{first_refused, table_reply}
use Rattle.study_run.specs.declared.runs.Reply.{Reply}

-- an error is a refusal
pub refused-err : (r : Result Reply Refusal) → is_err r ≡ is_refused (numbered r)
refused-err (Ok reply) = refl
refused-err (Err e) = refl

-- what a call of the model or a frame leaves, and says
pub call-ran : (c : MovingCall) (s : Study) {a : Answer plane} {m : Model} {rows : List Float} → outcome a m rows ≡ run_moving c s.model s.rows
    → ran (reply_of a) (study m rows (motors_after c a s.motors)) ≡ run_model_call c s
unfolding run_model_call
call-ran c s e = ap (λ (o : Outcome plane). ran (reply_of o.answer) (study o.after o.rows (motors_after c o.answer s.motors))) e

-- the same by the program's answer, where `told` is what the call tells of what it grants
module _ {A : Type 0} (tell : A → Answer plane) (plainly : (a : A) → reply_of (tell a) ≡ Ok Reply.Granted) where
  said-as : (r : Result A Refusal) → numbered (granted_reply r Reply.Granted) ≡ reply_of (answer_of tell r)
  said-as (Ok a) = sym (plainly a)
  said-as (Err e) = refl

  pub answered-ran : (c : MovingCall) (s : Study) (r : Result A Refusal) {m : Model} {rows : List Float} → outcome (answer_of tell r) m rows ≡ run_moving c s.model s.rows
      → ran (numbered (granted_reply r Reply.Granted)) (study m rows (motors_after c (answer_of tell r) s.motors)) ≡ run_model_call c s
  answered-ran c s r {m} {rows} e =
      ap (λ (x : Result Reply ℕ). ran x (study m rows (motors_after c (answer_of tell r) s.motors))) (said-as r) ∙ call-ran c s e

-- the header after a load
pub loaded-header : (h : Header) (r : Result Header Refusal) → result_unwrap_or r h ≡ load_header h r
loaded-header h (Ok after) = refl
loaded-header h (Err e) = refl

-- nothing found
pub none_found : replicate {A = ℕ} 128 0 ≡ filled 128 0 []
none_found = refl

pub found-or : (r : Result (List ℕ) Refusal) → result_unwrap_or r (replicate {A = ℕ} 128 0) ≡ found r
found-or (Ok counts) = refl
found-or (Err e) = none_found

-- a sweep, or a frame, whose counts are kept
found-in : (joints : ℕ) (r : Result (List ℕ) Refusal) → Filled joints r → found r ≡ counts_in (sweep_answer joints r)
found-in joints (Ok counts) e = e
found-in joints (Err e) t = refl

pub counted_ran : (c : MovingCall) (n joints : ℕ) (before : Motors) (s : Study) (r : Result (List ℕ) Refusal) {m : Model} {rows : List Float}
    → ((a : Answer plane) → motors_after c a s.motors ≡ kept n (counts_in a) before)
    → outcome (sweep_answer joints r) m rows ≡ run_moving c s.model s.rows
    → Filled joints r
    → ran (numbered (granted_reply r Reply.Granted)) (study m rows (kept n (found r) before)) ≡ run_model_call c s
counted_ran c n joints before s r {m} {rows} h e d =
    let after : kept n (found r) before ≡ motors_after c (sweep_answer joints r) s.motors = ap (λ (x : List ℕ). kept n x before) (found-in joints r d) ∙ sym (h (sweep_answer joints r)) in
    ap (λ (k : Motors). ran (numbered (granted_reply r Reply.Granted)) (study m rows k)) after ∙ answered-ran (λ counts. swept (take joints counts)) (λ counts. refl) c s r e

-- ---- reads

-- a test by a row read
pub read-refusal : (r : Result (RowIds × Rows) Refusal) → refused_number r ≡ refusal_in (rows_answer r)
read-refusal (Ok a) = refl
read-refusal (Err e) = refl

module _ (j : ℕ) {m : Model} {rs : List Float} {o : Outcome plane} where
  pub rows-said : (r : Result (RowIds × Rows) Refusal) → outcome (rows_answer r) m rs ≡ o → numbered (granted_reply r (Reply.Rows j)) ≡ rows_reply j o.answer
  rows-said (Ok a) e = rw (← e)
  rows-said (Err x) e = rw (← e)

module _ (i : ℕ) {r : Result SolverVel Refusal} {m : Model} {rs : List Float} {o : Outcome plane} (e : outcome (velocity_answer plane r) m rs ≡ o) where
  pub velocity-granted : {v : SolverVel} → r ≡ Ok v → Ok (Reply.Velocity i v) ≡ velocity_reply i o.answer
  velocity-granted d = rw (← e, d)

  pub velocity-refused : {x : Refusal} → r ≡ Err x → Err (refusal_number x) ≡ velocity_reply i o.answer
  velocity-refused d = rw (← e, d)

-- ---- the first joint whose rows cannot be read

module _ (m : Model) (rows : List Float) (j n : ℕ) where
  pub refused_none : n ≤ j → first_refused m rows j (n - j) ≡ 0
  unfolding first_refused
  refused_none g =
      let z : n - j ≡ 0 = omega arith in
      rw z

  module _ (g : j < n) (r : Result (RowIds × Rows) Refusal) {m' : Model} {rs : List Float} (e : outcome (rows_answer r) m' rs ≡ run planar (read_rows j) m rows) where
    read : refusal_in (run planar (read_rows j) m rows).answer ≡ refused_number r
    read = sym (read-refusal r ∙ ap (λ (o : Outcome plane). refusal_in o.answer) e)

    pub refused-here : {x : Refusal} → r ≡ Err x → first_refused m rows j (n - j) ≡ refusal_number x
    unfolding first_refused
    refused-here {x} d =
        let z : n - j ≡ suc (n - (j + 1)) = omega arith in
        rw (z, read, d, ne_eqb (refusal_number x) 0 (not-granted x))

    pub refused-later : {a : RowIds × Rows} → r ≡ Ok a → first_refused m rows j (n - j) ≡ first_refused m rows (j + 1) (n - (j + 1))
    unfolding first_refused
    refused-later d =
        let z : n - j ≡ suc (n - (j + 1)) = omega arith in
        rw (z, read, d)

module _ (joints : ℕ) (csv : Bool) (s : Study) (r : Result Unit Refusal) (b : s.model.built ≡ true) (e : refused_number r ≡ first_refused s.model s.rows 0 joints) where
  pub table-refused : {x : Refusal} → r ≡ Err x → Err (refusal_number x) ≡ table_reply joints csv s
  unfolding table_reply
  table-refused {x} d = rw (← e, b, d, ne_eqb (refusal_number x) 0 (not-granted x))

  pub table-printed : {a : Unit} → r ≡ Ok a → Ok (Reply.Table csv) ≡ table_reply joints csv s
  unfolding table_reply
  table-printed d = rw (← e, b, d)
