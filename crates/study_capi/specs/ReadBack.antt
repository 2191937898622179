-- Write, then read: what is written of a model that rules 1 to 4 let through is read with no fault as that model (IsRead of
-- crates/study_writer/specs/ReadBack.antt), into any storage that has room, whatever it held before.
use Rattle.std.specs.Prelude.{ℕ, ◌≡◌, true, List, Float}
use Rattle.multibody.specs.Model.{Model}
use Rattle.study_writer.specs.Printed.{printed_text}
use Rattle.study_writer.specs.ReadBack.{AllF32, Accepted, IsRead}
use Rattle.study_capi.specs.StudyExports.{is_room, study_read}

-- proved in proofs/BackLaws.antt
abbrev pub WrittenBack : Type 0
WrittenBack =
    (m : Model) → AllF32 m → Accepted m → (numbers : List Float) (origins words names : List ℕ) → is_room numbers origins words names ≡ true
    → IsRead m (study_read (printed_text m) numbers origins words names)
