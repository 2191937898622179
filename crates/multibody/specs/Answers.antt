-- The answers of the program's calls as document 01 has them, of any kind of system: a refusal as its number, and what is granted as the call's values.
use Rattle.std.specs.Prelude.{◌≡◌, ℕ, List, take, Float, Result, Ok, Err, ⊤}
use Rattle.rows.specs.RowIds.{filled}
use Rattle.multibody.specs.Store.{Store}
use Rattle.multibody.specs.Calls.{Answer, Outcome}
use Rattle.multibody.specs.Calls.Answer.{granted, total, velocity_read, swept, refused}
use Rattle.motor_table.specs.declared.refusal.TableRefusal.{TableRefusal}
use Rattle.multibody.specs.declared.header.Header.{Header}
use Rattle.multibody.specs.declared.refusal.Refusal.{Refusal}
use Rattle.multibody.specs.declared.refusal.Refusal.TheVariants.{TooManyBodies, TooManyJoints, MaskOutOfRange, NoSuchBody, SameBodies, NotFinite, NegativeDt, NoRoom, TooManyRounds, NotBuilt, NoSuchIndex, AngleTooLarge, TableBroken, NotThreeNumbers, NoSuchAxis, Substeps, NotLinearAlone}

-- the number of each refusal
abbrev pub refusal_number : Refusal → ℕ
refusal_number TooManyBodies = 1
refusal_number TooManyJoints = 2
refusal_number MaskOutOfRange = 3
refusal_number NoSuchBody = 4
refusal_number SameBodies = 5
refusal_number NotFinite = 6
refusal_number NegativeDt = 7
refusal_number NoRoom = 8
refusal_number TooManyRounds = 9
refusal_number NotBuilt = 10
refusal_number NoSuchIndex = 11
refusal_number AngleTooLarge = 12
refusal_number TableBroken = 13
refusal_number NotThreeNumbers = 14
refusal_number NoSuchAxis = 15
refusal_number Substeps = 16
refusal_number NotLinearAlone = 17

-- why a motor table is refused, as why its call is
abbrev pub refusal_of_table : TableRefusal → Refusal
refusal_of_table TableRefusal.Broken = TableBroken
refusal_of_table TableRefusal.NotThreeNumbers = NotThreeNumbers
refusal_of_table TableRefusal.Absent = NoSuchAxis

-- a test of rules: the number of the one that fails, 0 where none does
abbrev pub refused_number : {A : Type 0} → Result A Refusal → ℕ
refused_number (Ok a) = 0
refused_number (Err e) = refusal_number e

-- a call that is handed no row storage: the same whatever storage there is
abbrev pub WithoutRows : {store : Store} → (List Float → Outcome store) → (List Float → Outcome store) → Type 0
WithoutRows f g = (rows : List Float) → f rows ≡ g rows

-- a call's answer, where `told` says what it tells of what it grants
abbrev pub answer_of : {store : Store} {A : Type 0} → (A → Answer store) → Result A Refusal → Answer store
answer_of told (Ok a) = told a
answer_of told (Err e) = refused (refusal_number e)

-- of one that has nothing to tell, beside a header at most
abbrev pub plain_answer : {store : Store} {A : Type 0} → Result A Refusal → Answer store
plain_answer = answer_of (λ a. granted)

abbrev pub build_answer : {store : Store} → Result (Header × ℕ) Refusal → Answer store
build_answer = answer_of (λ b. total b.1)

abbrev pub velocity_answer : (store : Store) → Result store.SolverVel Refusal → Answer store
velocity_answer store = answer_of velocity_read

-- a sweep's counts, one for each of so many joints, held in an array of 128
abbrev pub sweep_answer : {store : Store} → ℕ → Result (List ℕ) Refusal → Answer store
sweep_answer joints = answer_of (λ counts. swept (take joints counts))

-- Past the joints the array holds zeros.
abbrev pub Filled : ℕ → Result (List ℕ) Refusal → Type 0
Filled joints (Ok counts) = counts ≡ filled 128 0 (take joints counts)
Filled joints (Err e) = ⊤

-- the model's header after a load or a build: the one that was handed over where it is refused
abbrev pub load_header : Header → Result Header Refusal → Header
load_header before (Ok h) = h
load_header before (Err e) = before

abbrev pub build_header : {A : Type 0} → Header → Result (Header × A) Refusal → Header
build_header before (Ok b) = b.0
build_header before (Err e) = before
