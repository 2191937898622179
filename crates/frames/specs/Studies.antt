-- Two studies that move: the calls of which their list is made are the model's and frames. The claim is multibody's `TwoStudies` of these.
use Rattle.std.specs.Prelude.{ℕ, true, List, [], ◌∷◌, Float, Option}
use Rattle.multibody.specs.Model.{Model}
use Rattle.multibody.specs.Refusals.{finite_warm}
use Rattle.multibody.specs.Calls.{Call, CallEntry, Outcome, call_table, run}
use Rattle.multibody.specs.Calls.Call.{load}
use Rattle.multibody.specs.Calls.Change.{none}
use Rattle.multibody.specs.Calls.Own.{few_rounds}
use Rattle.multibody.specs.Calls.Asked.{nothing}
use Rattle.multibody.specs.Studies.{Calls}
use Rattle.model.specs.Planar.{plane, planar}
use Rattle.frames.specs.Frames.{run_frame}

-- a call on the model, or a frame: warm coefficient or none, how many rounds, how many substeps
pub data MovingCall : Type 0 where
  plain : Call planar → MovingCall
  frame : Option Float → ℕ → ℕ → MovingCall

-- What the table says of a frame: it is handed row storage, asks for nothing by index and makes rows; "two compared frames must be granted or refused alike". Rules 16 and the moves' 6, which no call has, stand in `frame_rules`.
abbrev pub moving_entry : MovingCall → CallEntry planar
moving_entry (plain c) = call_table planar c
moving_entry (frame warm sweeps n) = record { finite = finite_warm warm; masks = none; row_storage = true; own = few_rounds sweeps ∷ []; asked = nothing; makes_rows = true; alike = true }

abbrev pub run_moving : MovingCall → Model → List Float → Outcome plane
run_moving (plain c) m rows = run planar c m rows
run_moving (frame warm sweeps n) m rows = run_frame warm sweeps n m rows

abbrev pub moving_calls : Calls planar
moving_calls = record { Call = MovingCall; entry = moving_entry; run = run_moving; load = plain load }
