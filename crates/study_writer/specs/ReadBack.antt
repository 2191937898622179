-- Print, then read: the text of a model that rules 1 to 4 let through is read with no fault, and what is read is the model. It is stated over the model as the
-- rows decode it (joint_at of crates/model/specs/Store.antt): of words that mean the same, such as a motor model of 7 for 1, one spelling is printed, and the
-- number beside a typed angle, which is nobody's, is not printed. Nor is a joint's first row, which is none of its contents: a text has no word for it, the
-- storage that is read into keeps what it has there, and a load writes it.
use Rattle.std.specs.Prelude.{None, ℕ, ◌≤◌, ◌<◌, ◌≡◌, true, cond, List, [], T, leb, Float, length, get_or}
use Rattle.std.specs.Float.{nan, binary32}
use Rattle.std.specs.Float.Ieee.{fits}
use Rattle.model.specs.Layout.{body_width}
use Rattle.model.specs.Records.{num}
use Rattle.model.specs.Store.{joint_at, center_at, body1_at, body2_at}
use Rattle.multibody.specs.Model.{Model, most_bodies, most_joints}
use Rattle.multibody.specs.Counts.{body_count, joint_count}
use Rattle.multibody.specs.Refusals.{bodies_present}
use Rattle.model.specs.Planar.{plane}
use Rattle.model.specs.Refusals.{masks_fit}
use Rattle.texts.specs.Written.{written}
use Rattle.study_reader.specs.Storage.{numbers_size, words_size, names_size}
use Rattle.study_reader.specs.Draft.{Draft}
use Rattle.study_reader.specs.Study.{read_study, study_of, settings_read, bodies_read, joints_read}
use Rattle.study_writer.specs.Text.{study_text}
use Rattle.study_writer.specs.Printed.{printed_text}

-- every number is an f32, as the slices that hold them have it
abbrev pub IsF32 : Float → Type 0
IsF32 x = T (fits binary32 x)

pub record AllF32 (m : Model) : Type 0 where
  pub dt : IsF32 m.params.dt
  pub length-unit : IsF32 m.params.length_unit
  pub max_velocity : IsF32 m.params.normalized_max_corrective_velocity
  pub bodies : (c : ℕ) → IsF32 (get_or m.bodies c nan)
  pub numbers : (c : ℕ) → IsF32 (get_or m.numbers c nan)

-- rules 1 to 4 let it through: few enough bodies and joints, masks of the three axes, and each joint's bodies present or the world
pub record Accepted (m : Model) : Type 0 where
  pub few_bodies : body_count plane m.bodies ≤ most_bodies
  pub few_joints : joint_count plane m.words m.numbers ≤ most_joints
  pub masks : (j : ℕ) → j < joint_count plane m.words m.numbers → masks_fit m.words j ≡ true
  pub present : (j : ℕ) → j < joint_count plane m.words m.numbers → bodies_present plane m.bodies m.words j ≡ true

-- the storage that the reading is lent; what it holds does not matter
pub record Room (numbers : List Float) (origins words names : List ℕ) : Type 0 where
  pub numbers_room : numbers_size ≤ length numbers
  pub origins_room : numbers_size ≤ length origins
  pub words_room : words_size ≤ length words
  pub names_room : names_size ≤ length names

-- what was read is the model, and no fault
pub record IsRead (m : Model) (d : Draft) : Type 0 where
  pub no_fault : d.state.fault ≡ None
  pub body-count : d.state.bodies ≡ body_count plane m.bodies
  pub joint-count : d.state.joints ≡ joint_count plane m.words m.numbers
  pub settings : settings_read d ≡ m.params
  pub bodies : (i k : ℕ) → i < body_count plane m.bodies → k < body_width → num body_width (bodies_read d) i k ≡ num body_width m.bodies i k
  pub joints : (j : ℕ) → j < joint_count plane m.words m.numbers → joint_at d.words (joints_read d) j ≡ joint_at m.words m.numbers j
  pub centers : (j : ℕ) → j < joint_count plane m.words m.numbers → center_at d.words (joints_read d) j ≡ center_at m.words m.numbers j
  pub bodies1 : (j : ℕ) → j < joint_count plane m.words m.numbers → body1_at d.words j ≡ body1_at m.words j
  pub bodies2 : (j : ℕ) → j < joint_count plane m.words m.numbers → body2_at d.words j ≡ body2_at m.words j

-- The theorem, proved in proofs/ReadBackLaws.antt: `read_back`, into any storage that is large enough; `study-back`, as the study that the text describes.
abbrev pub ReadsBack : Type 0
ReadsBack =
    (m : Model) → AllF32 m → Accepted m → (numbers : List Float) (origins words names : List ℕ) → Room numbers origins words names
    → IsRead m (read_study (study_text m) numbers origins words names)

abbrev pub StudyBack : Type 0
StudyBack = (m : Model) → AllF32 m → Accepted m → IsRead m (study_of (study_text m))

-- The same of the two functions, `write_study` into `out` and then `read_study` of what it wrote (src/read_back.rt): of any slices whatever, with nothing asked of a caller. `out` is left as
-- `write_study` leaves it; what is read is told, and it is the model where the rules let it through, its text fits and the storage is large enough.
pub record WroteAndRead (m : Model) (out out' : List ℕ) (numbers : List Float) (origins words names : List ℕ) (d : Draft) : Type 0 where
  pub left : out' ≡ written out (printed_text m)
  pub whole : d ≡ read_study (cond (leb (length (printed_text m)) (length out)) (printed_text m) []) numbers origins words names
  pub back : Accepted m → length (printed_text m) ≤ length out → Room numbers origins words names → IsRead m d
