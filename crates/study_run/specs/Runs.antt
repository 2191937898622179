-- Each call of a study on what the one before left, up to the first that is refused.
use Rattle.std.specs.Prelude.{ℕ, zero, suc, ◌+◌, Bool, cond, List, [], ◌∷◌, eqb, Float, Result, Ok, Err}
use Rattle.multibody.specs.Model.{Model}
use Rattle.multibody.specs.Calls.{run}
use Rattle.multibody.specs.Calls.Call.{load, place, build, warm_start, sweep, remove_bias, write_back, read_rows, read_velocity, set_masks, further}
use Rattle.model.specs.Planar.{planar}
use Rattle.frames.specs.Studies.{plain, frame}
use Rattle.study_run.specs.Study.{Study, Ran, ran, is_refused, rows_reply, velocity_reply, refusal_in}
use Rattle.study_run.specs.ModelCalls.{run_model_call}
use Rattle.study_run.specs.Settled.{settle_of}
use Rattle.study_run.specs.declared.acts.StudyCall.{StudyCall}
use Rattle.study_run.specs.declared.acts.StudyCall.TheVariants.{Load, Place, Build, WarmStart, Sweep, RemoveBias, WriteBack, SetMasks, Frame, Settle, SetTargets, ReadRows, ReadVelocity, Table}
use Rattle.study_run.specs.declared.runs.Reply.{Reply}

-- ---- a table: "a build comes before", and the rows of every joint can be read

-- the refusal of the first of n joints from joint j on whose rows cannot be read, or 0
unfoldable pub first_refused : Model → List Float → ℕ → ℕ → ℕ
first_refused m rows j zero = 0
first_refused m rows j (suc n) =
    let k = refusal_in (run planar (read_rows j) m rows).answer in
    cond (eqb k 0) (first_refused m rows (j + 1) n) k

unfoldable pub table_reply : ℕ → Bool → Study → Result Reply ℕ
table_reply joints csv s =
    let k = first_refused s.model s.rows 0 joints in
    cond s.model.built (cond (eqb k 0) (Ok (Reply.Table csv)) (Err k)) (Err 10)

-- ---- a call, among so many joints

unfoldable pub run_call : ℕ → StudyCall → Study → Ran
run_call joints Load s = run_model_call (plain load) s
run_call joints (Place i pose) s = run_model_call (plain (place i pose)) s
run_call joints (Build warm i) s = run_model_call (plain (build warm i)) s
run_call joints WarmStart s = run_model_call (plain warm_start) s
run_call joints (Sweep n) s = run_model_call (plain (sweep n)) s
run_call joints RemoveBias s = run_model_call (plain remove_bias) s
run_call joints WriteBack s = run_model_call (plain write_back) s
run_call joints (SetMasks j ms) s = run_model_call (plain (set_masks j ms)) s
run_call joints (Frame warm sweeps n) s = run_model_call (frame warm sweeps n) s
run_call joints (Settle tolerance most) s = settle_of joints tolerance most s
-- the bytes of the table are still to be read: see `with_table`
run_call joints (SetTargets from to) s = ran (Ok (Reply.Targets from to)) s
run_call joints (ReadRows j) s = ran (rows_reply j (run planar (read_rows j) s.model s.rows).answer) s
run_call joints (ReadVelocity i) s = ran (velocity_reply i (run planar (read_velocity i) s.model s.rows).answer) s
run_call joints (Table csv) s = ran (table_reply joints csv s) s

-- ---- the bytes of a motor table, where a call asked for one

unfoldable pub with_table : List ℕ → Result Reply ℕ → Study → Ran
with_table bytes (Ok (Reply.Targets from to)) s = run_model_call (plain (further bytes)) s
with_table bytes (Ok Reply.Granted) s = ran (Ok Reply.Granted) s
with_table bytes (Ok (Reply.Rows j)) s = ran (Ok (Reply.Rows j)) s
with_table bytes (Ok (Reply.Velocity i v)) s = ran (Ok (Reply.Velocity i v)) s
with_table bytes (Ok (Reply.Table csv)) s = ran (Ok (Reply.Table csv)) s
with_table bytes (Ok (Reply.Settled b n)) s = ran (Ok (Reply.Settled b n)) s
with_table bytes (Err k) s = ran (Err k) s

-- ---- all calls

-- what each call says and leaves, in order; the first refusal is the last. Where call i asks for a motor table, `tables i` are the bytes that were read.
unfoldable pub runs : ℕ → (ℕ → List ℕ) → List StudyCall → Study → List Ran
runs joints tables [] s = []
runs joints tables (c ∷ cs) s =
    let called = run_call joints c s in
    let r = with_table (tables 0) called.reply called.left in
    r ∷ cond (is_refused r.reply) [] (runs joints (λ i. tables (suc i)) cs r.left)
