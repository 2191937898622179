-- What an export reads off the equation that its call promises: the answer's number, and what is left in the storage.
use Prim.Native.Nat.{ℕ}
use mathlib.Core.Path.{◌≡◌, refl, sym, ap, ◌∙◌}
use mathlib.Core.List.{List, [], ◌∷◌, ◌++◌}
use Rattle.std.specs.Prelude.{Bool, true, false, cond, Result, Ok, Err}
use lib.ListN.{drop}
use lib.Ieee.{Float}
use Rattle.multibody.specs.Model.{Model}
use Rattle.multibody.specs.Store.{Store}
use Rattle.multibody.specs.Calls.{Answer, Outcome, outcome}
use Rattle.model.specs.Planar.{plane}
use Rattle.multibody.specs.Calls.Answer.{refused}
use Rattle.multibody.specs.Answers.{refused_number, plain_answer, load_header, build_answer, build_header, sweep_answer, Filled}
use Rattle.multibody.specs.declared.header.Header.{Header}
use Rattle.multibody.specs.declared.refusal.Refusal.{Refusal}
use Rattle.capi.specs.CallExports.{settings_of, header_of, number, loaded_number, built_number, marked, marked_number, counts_out, velocity_number, velocity_out}

-- what a caller hands over as a header's settings is read back from it
pub settings-kept : (dt unit normalized : Float) (built : ℕ) → settings_of (header_of dt unit normalized built).params ≡ dt ∷ unit ∷ normalized ∷ []
settings-kept dt unit normalized built = refl

-- a number that shows the answer shows that of the outcome
pub number-told : {store : Store} {a : Answer store} {m : Model} {rows : List Float} {o : Outcome store} (r : ℕ) → r ≡ number a → outcome a m rows ≡ o → r ≡ number o.answer
number-told r e told = e ∙ ap (λ (o : Outcome _). number o.answer) told

-- what is left in the bodies, the joints' words and numbers and the row storage
pub bodies-left : {store : Store} {a : Answer store} {m : Model} {rows : List Float} {o : Outcome store} → outcome a m rows ≡ o → m.bodies ≡ o.after.bodies
bodies-left told = ap (λ (o : Outcome _). o.after.bodies) told

pub words_left : {store : Store} {a : Answer store} {m : Model} {rows : List Float} {o : Outcome store} → outcome a m rows ≡ o → m.words ≡ o.after.words
words_left told = ap (λ (o : Outcome _). o.after.words) told

pub numbers-left : {store : Store} {a : Answer store} {m : Model} {rows : List Float} {o : Outcome store} → outcome a m rows ≡ o → m.numbers ≡ o.after.numbers
numbers-left told = ap (λ (o : Outcome _). o.after.numbers) told

pub rows_left : {store : Store} {a : Answer store} {m : Model} {rows : List Float} {o : Outcome store} → outcome a m rows ≡ o → rows ≡ o.rows
rows_left told = ap (λ (o : Outcome _). o.rows) told

-- what a sweep stores of its counts where it is granted, and where it is refused
pub counts-stored : {store : Store} {m : Model} {rows : List Float} {o : Outcome store} (joints : ℕ) (counts : List ℕ) (out : List ℕ) {out' : List ℕ} → outcome (sweep_answer joints (Ok counts)) m rows ≡ o → Filled joints (Ok counts)
    → out' ≡ counts ++ drop 128 out → out' ≡ counts_out o.answer out
counts-stored joints counts out told f e = e ∙ ap (λ cs. cs ++ drop 128 out) f ∙ ap (λ (o : Outcome _). counts_out o.answer out) told

pub refused-counts : (store : Store) (k : ℕ) (out : List ℕ) → counts_out {store = store} (refused k) out ≡ out
refused-counts store k out = refl

pub counts-kept : {store : Store} {k : ℕ} {m : Model} {rows : List Float} {o : Outcome store} (out : List ℕ) → outcome (refused k) m rows ≡ o → out ≡ counts_out o.answer out
counts-kept {store = store} {k = k} out told = sym (refused-counts store k out) ∙ ap (λ (o : Outcome _). counts_out o.answer out) told

-- the numbers of the program's answers, of any kind of system
pub plain-number : (store : Store) {A : Type 0} (r : Result A Refusal) → refused_number r ≡ number (plain_answer {store = store} r)
plain-number store (Ok a) = refl
plain-number store (Err e) = refl

by-mark : {store : Store} (a : Answer store) (t : Bool) {x y : ℕ} → x ≡ marked a true → y ≡ marked a false → cond t x y ≡ marked a t
by-mark a true e f = e
by-mark a false e f = f

pub load-marked : (store : Store) (before : Header) (r : Result Header Refusal) → loaded_number r ≡ marked (plain_answer {store = store} r) (load_header before r).built
load-marked store before (Ok h) = by-mark (plain_answer {store = store} (Ok h)) h.built refl refl
load-marked store before (Err e) = refl

pub build-marked : (store : Store) (before : Header) (r : Result (Header × ℕ) Refusal) → built_number r ≡ marked (build_answer {store = store} r) (build_header before r).built
build-marked store before (Ok b) = by-mark (build_answer {store = store} (Ok b)) b.0.built refl refl
build-marked store before (Err e) = refl

-- the same of a number that shows the mark too, and of what a velocity read answers and stores
pub marked-told : {store : Store} {a : Answer store} {m : Model} {rows : List Float} {o : Outcome store} (r : ℕ) → r ≡ marked a m.built → outcome a m rows ≡ o → r ≡ marked_number o
marked-told r e told = e ∙ ap (λ (o : Outcome _). marked_number o) told

pub velocity-told : {a : Answer plane} {m : Model} {rows : List Float} {o : Outcome plane} (out : List Float) (r : ℕ) → r ≡ velocity_number a out → outcome a m rows ≡ o → r ≡ velocity_number o.answer out
velocity-told out r e told = e ∙ ap (λ (o : Outcome plane). velocity_number o.answer out) told

pub velocity-left : {a : Answer plane} {m : Model} {rows : List Float} {o : Outcome plane} (out : List Float) → outcome a m rows ≡ o → velocity_out a out ≡ velocity_out o.answer out
velocity-left out told = ap (λ (o : Outcome plane). velocity_out o.answer out) told
