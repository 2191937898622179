-- A call of the model or a frame, on a study.
use Rattle.multibody.specs.Calls.{Answer}
use Rattle.multibody.specs.Calls.Call.{load, place, build, warm_start, sweep, remove_bias, write_back, read_rows, read_velocity, set_masks, further}
use Rattle.model.specs.Planar.{plane}
use Rattle.frames.specs.Studies.{MovingCall, plain, frame, run_moving}
use Rattle.study_run.specs.Motors.{Motors, counts_in, forgotten, kept}
use Rattle.study_run.specs.Study.{Study, study, Ran, ran, reply_of}

-- A load, new masks, a build and a frame make the rows anew; a sweep, and a frame's last, count the motors.
abbrev pub motors_after : MovingCall → Answer plane → Motors → Motors
motors_after (plain load) a k = forgotten
motors_after (plain (place i pose)) a k = k
motors_after (plain (build warm i)) a k = forgotten
motors_after (plain warm_start) a k = k
motors_after (plain (sweep n)) a k = kept n (counts_in a) k
motors_after (plain remove_bias) a k = k
motors_after (plain write_back) a k = k
motors_after (plain (read_rows j)) a k = k
motors_after (plain (read_velocity i)) a k = k
motors_after (plain (set_masks j ms)) a k = forgotten
motors_after (plain (further f)) a k = k
motors_after (frame warm sweeps n) a k = kept sweeps (counts_in a) forgotten

unfoldable pub run_model_call : MovingCall → Study → Ran
run_model_call c s =
    let o = run_moving c s.model s.rows in
    ran (reply_of o.answer) (study o.after o.rows (motors_after c o.answer s.motors))
