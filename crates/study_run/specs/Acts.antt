-- What a line of calls asks for. `Act` and `StudyCall` are the program's enums: a call, `repeat` with its turns, `end`, or none of them.
use Rattle.std.specs.Prelude.{cond, List, ℕ, eqb, Option, Some, None, Float}
use Rattle.floats.specs.declared.pose.Pose.{Pose}
use Rattle.study_reader.specs.Words.{next_word, is_empty}
use Rattle.study_reader.specs.Keywords.{load_keyword, place_keyword, build_keyword, warm_start_keyword, sweep_keyword, remove_bias_keyword, write_back_keyword, read_rows_keyword, read_velocity_keyword, set_targets_keyword, repeat_keyword, end_keyword, table_keyword, settle_keyword, masks_keyword, frame_keyword, call_keyword}
use Rattle.study_reader.specs.Calls.{read_call}
use Rattle.study_reader.specs.declared.calls.Line.{Line}
use Rattle.study_run.specs.declared.acts.StudyCall.TheVariants.{Load, Place, Build, WarmStart, Sweep, RemoveBias, WriteBack, SetMasks, Frame, Settle, SetTargets, ReadRows, ReadVelocity, Table}
use Rattle.study_run.specs.declared.acts.Act.{Act}
use Rattle.study_run.specs.declared.acts.Act.TheVariants.{Nothing, Repeat, End, Call}

-- the warm coefficient of a build or a frame, where the line has one
abbrev pub warmstart_of : Line → Option Float
warmstart_of l = cond l.warm (Some l.x) None

-- the new pose of a body
abbrev pub pose_of : Line → Pose
pose_of l = record { rotation = record { re = l.re; im = l.im }; translation = record { x = l.x; y = l.y } }

-- the act of a line that was read: its keyword decides
unfoldable pub act_of : Line → Act
act_of l =
    cond (eqb l.keyword repeat_keyword) (Repeat l.number)
    (cond (eqb l.keyword end_keyword) End
    (cond (eqb l.keyword load_keyword) (Call Load)
    (cond (eqb l.keyword place_keyword) (Call (Place l.number (pose_of l)))
    (cond (eqb l.keyword build_keyword) (Call (Build (warmstart_of l) l.number))
    (cond (eqb l.keyword warm_start_keyword) (Call WarmStart)
    (cond (eqb l.keyword sweep_keyword) (Call (Sweep l.number))
    (cond (eqb l.keyword remove_bias_keyword) (Call RemoveBias)
    (cond (eqb l.keyword write_back_keyword) (Call WriteBack)
    (cond (eqb l.keyword masks_keyword) (Call (SetMasks l.number l.masks))
    (cond (eqb l.keyword frame_keyword) (Call (Frame (warmstart_of l) l.sweeps l.number))
    (cond (eqb l.keyword settle_keyword) (Call (Settle l.x l.number))
    (cond (eqb l.keyword set_targets_keyword) (Call (SetTargets l.start l.end))
    (cond (eqb l.keyword read_rows_keyword) (Call (ReadRows l.number))
    (cond (eqb l.keyword read_velocity_keyword) (Call (ReadVelocity l.number))
    (cond (eqb l.keyword table_keyword) (Call (Table l.csv)) Nothing)))))))))))))))

-- The act of the line at a place of a text, among so many bodies and joints; a line without a word has none. The text was read before: a `repeat` is read
-- as where none is open, and an `end` as where one is.
unfoldable pub act_at : List ℕ → List ℕ → ℕ → ℕ → ℕ → Act
act_at text names bodies joints at =
    let w = next_word text at in
    cond (is_empty w) Nothing (act_of (read_call text names bodies joints (eqb (call_keyword text w) end_keyword) w))
