-- The exported reading and writing of a study's text: what they answer and leave in the slices that they are lent.
use Rattle.std.specs.Prelude.{ℕ, ◌+◌, Bool, false, cond, ◌&&◌, List, leb, eqb, length, replicate, Float}
use Rattle.floats.specs.Operators.{bits}
use Rattle.multibody.specs.Model.{Model, model}
use Rattle.study_reader.specs.Words.{line_of, column_of}
use Rattle.study_reader.specs.Storage.{numbers_size, words_size, names_size}
use Rattle.study_reader.specs.Keywords.{calls_item}
use Rattle.study_reader.specs.Faults.{number_of, offset_of}
use Rattle.study_reader.specs.Draft.{Draft}
use Rattle.study_reader.specs.Study.{read_study}
use Rattle.study_reader.specs.declared.draft.State.{State}
use Rattle.study_capi.specs.declared.read.StudyRead.{StudyRead}

-- ---- what is told of a reading

-- where the line of the first call starts; the end of the text where there is no call
unfoldable pub calls_at : List ℕ → State → ℕ
calls_at text st = cond (eqb st.kind calls_item) st.calls (length text)

-- the first fault with its line and column, and the counts
unfoldable pub told : List ℕ → State → StudyRead
told text st = record {
  fault = number_of st.fault;
  bodies = st.bodies;
  joints = st.joints;
  line = line_of text (offset_of st.fault);
  column = column_of text (offset_of st.fault);
  calls = calls_at text st;
}

-- a slice is too short
abbrev pub short_read : StudyRead
short_read = record { fault = 1000; bodies = 0; joints = 0; line = 0; column = 0; calls = 0 }

-- ---- the storage

-- the whole of what a study may fill
unfoldable pub is_room : List Float → List ℕ → List ℕ → List ℕ → Bool
is_room numbers origins words names =
    leb numbers_size (length numbers)
    && (leb (numbers_size + words_size) (length origins) && (leb words_size (length words) && leb names_size (length names)))

-- nothing of what a slice held before
unfoldable pub cleared : List Float → List Float
cleared s = replicate (length s) (bits 0)

unfoldable pub cleared_words : List ℕ → List ℕ
cleared_words s = replicate (length s) 0

-- ---- the reading

pub record Left : Type 0 where
  pub answer : StudyRead
  pub numbers : List Float
  pub origins : List ℕ
  pub words : List ℕ
  pub names : List ℕ

abbrev pub left : StudyRead → List Float → List ℕ → List ℕ → List ℕ → Left
left r numbers origins words names = record { answer = r; numbers = numbers; origins = origins; words = words; names = names }

abbrev pub study_read : List ℕ → List Float → List ℕ → List ℕ → List ℕ → Draft
study_read text numbers origins words names = read_study text (cleared numbers) (cleared_words origins) (cleared_words words) (cleared_words names)

-- the study that the text describes; where a slice is too short nothing is read, and all is left as it was
unfoldable pub read_at : List ℕ → List Float → List ℕ → List ℕ → List ℕ → Left
read_at text numbers origins words names =
    let d = study_read text numbers origins words names in
    cond (is_room numbers origins words names) (left (told text d.state) d.numbers d.origins d.words d.names)
    (left short_read numbers origins words names)

-- ---- the writing

-- the model that is handed over; what is written of it is `printed_text` of crates/study_writer/specs/Printed.antt
abbrev pub lent : Float → Float → Float → List Float → List ℕ → List Float → Model
lent dt unit normalized bodies words numbers =
    model (record { dt = dt; length_unit = unit; normalized_max_corrective_velocity = normalized }) false bodies words numbers
