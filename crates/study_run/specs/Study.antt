-- What the calls of a study work on, and what a call says.
use Rattle.std.specs.Prelude.{ℕ, Bool, true, false, List, Float, Result, Ok, Err}
use Rattle.multibody.specs.Model.{Model}
use Rattle.multibody.specs.Calls.{Answer}
use Rattle.multibody.specs.Calls.Answer.{granted, total, rows_read, velocity_read, swept, refused}
use Rattle.model.specs.Planar.{plane}
use Rattle.model.specs.Model.{model_of}
use Rattle.multibody.specs.Answers.{refusal_number}
use Rattle.multibody.specs.declared.refusal.Refusal.{Refusal}
use Rattle.multibody.specs.declared.header.Header.{Header}
use Rattle.study_run.specs.Motors.{Motors}
use Rattle.study_run.specs.declared.runs.Reply.{Reply}
use Rattle.study_run.specs.declared.runs.Reply.TheVariants.{Granted, Rows, Velocity}
use Rattle.study_run.specs.declared.runs.Done.{Done}

-- the model, its row storage, and the motors that the last round found at a bound
pub record Study : Type 0 where
  pub model : Model
  pub rows : List Float
  pub motors : Motors

abbrev pub study : Model → List Float → Motors → Study
study m rows motors = record { model = m; rows = rows; motors = motors }

-- what a call says, or the number of its refusal, and what it leaves
pub record Ran : Type 0 where
  pub reply : Result Reply ℕ
  pub left : Study

abbrev pub ran : Result Reply ℕ → Study → Ran
ran reply left = record { reply = reply; left = left }

-- ---- what a call says, by the model's answer

abbrev pub reply_of : Answer plane → Result Reply ℕ
reply_of granted = Ok Granted
reply_of (total n) = Ok Granted
reply_of (rows_read ids rows) = Ok Granted
reply_of (velocity_read v) = Ok Granted
reply_of (swept counts) = Ok Granted
reply_of (refused k) = Err k

-- joint j's rows, and body i's velocity
abbrev pub rows_reply : ℕ → Answer plane → Result Reply ℕ
rows_reply j granted = Ok (Rows j)
rows_reply j (total n) = Ok (Rows j)
rows_reply j (rows_read ids rows) = Ok (Rows j)
rows_reply j (velocity_read v) = Ok (Rows j)
rows_reply j (swept counts) = Ok (Rows j)
rows_reply j (refused k) = Err k

abbrev pub velocity_reply : ℕ → Answer plane → Result Reply ℕ
velocity_reply i granted = Ok Granted
velocity_reply i (total n) = Ok Granted
velocity_reply i (rows_read ids rows) = Ok Granted
velocity_reply i (velocity_read v) = Ok (Velocity i v)
velocity_reply i (swept counts) = Ok Granted
velocity_reply i (refused k) = Err k

abbrev pub is_refused : Result Reply ℕ → Bool
is_refused (Ok reply) = false
is_refused (Err k) = true

-- the number of an answer's refusal, or 0
abbrev pub refusal_in : Answer plane → ℕ
refusal_in granted = 0
refusal_in (total n) = 0
refusal_in (rows_read ids rows) = 0
refusal_in (velocity_read v) = 0
refusal_in (swept counts) = 0
refusal_in (refused k) = k

-- ---- as the program has them

-- the header, the motors and four slices
abbrev pub study_of : Header → Motors → List Float → List ℕ → List Float → List Float → Study
study_of header motors bodies words numbers rows = study (model_of header bodies words numbers) rows motors

-- a refusal by its number
abbrev pub numbered : {A : Type 0} → Result A Refusal → Result A ℕ
numbered (Ok a) = Ok a
numbered (Err e) = Err (refusal_number e)

abbrev pub ran_of : Done → List Float → List ℕ → List Float → List Float → Ran
ran_of d bodies words numbers rows = ran (numbered d.reply) (study_of d.header d.motors bodies words numbers rows)

-- what is said of a call of the model where it is granted, whatever it grants
abbrev pub granted_reply : {A : Type 0} → Result A Refusal → Reply → Result Reply Refusal
granted_reply (Ok a) reply = Ok reply
granted_reply (Err e) reply = Err e
