-- The study as the program runs it: a turn is one line of the text.
use Rattle.std.specs.Prelude.{ℕ, zero, suc, Bool, true, false, cond, List, [], ◌∷◌, leb, Float, length, Result}
use Rattle.study_run.specs.Acts.{act_at}
use Rattle.study_run.specs.Places.{place_after}
use Rattle.study_run.specs.Study.{Study, study_of, Ran, is_refused, numbered}
use Rattle.study_run.specs.Runs.{run_call, with_table}
use Rattle.study_run.specs.declared.acts.Act.{Act}
use Rattle.study_run.specs.declared.acts.Act.TheVariants.{Nothing, Repeat, End, Call}
use Rattle.study_run.specs.declared.places.Place.{Place}
use Rattle.study_run.specs.declared.runs.Reply.{Reply}
use Rattle.study_run.specs.declared.turns.Told.{Told}
use Rattle.study_run.specs.declared.turns.Told.TheVariants.{Over, Passed, Called}
use Rattle.study_run.specs.declared.turns.Turned.{Turned}

-- what a turn tells: that the text is at its end, that the line is no call, or what a call says
pub data Tells : Type 0 where
  over : Tells
  passed : Tells
  called : Result Reply ℕ → Tells

-- this, the place that comes next, and what is left
pub record Turn : Type 0 where
  pub told : Tells
  pub place : Place
  pub left : Study

abbrev pub turn_as : Tells → Place → Study → Turn
turn_as told place left = record { told = told; place = place; left = left }

-- as the program has it
abbrev pub tells : Told → Tells
tells Over = over
tells Passed = passed
tells (Called reply) = called (numbered reply)

abbrev pub turned_of : Turned → List Float → List ℕ → List Float → List Float → Turn
turned_of t bodies words numbers rows = turn_as (tells t.told) t.place (study_of t.header t.motors bodies words numbers rows)

-- an act, with the place after it
unfoldable pub acted_on : ℕ → Act → Place → Study → Turn
acted_on joints Nothing next s = turn_as passed next s
acted_on joints (Repeat n) next s = turn_as passed next s
acted_on joints End next s = turn_as passed next s
acted_on joints (Call c) next s = let r = run_call joints c s in turn_as (called r.reply) next r.left

-- what a turn adds to what the turns after it say, where it was no call and where it was one
unfoldable pub said : List ℕ → Tells → Study → (Study → List Ran) → (Study → List Ran) → List Ran
said bytes over s pass next = []
said bytes passed s pass next = pass s
said bytes (called reply) s pass next =
    let r = with_table bytes reply s in
    r ∷ cond (is_refused r.reply) [] (next r.left)

unfoldable pub ended : List ℕ → Tells → Study → (Study → Bool) → (Study → Bool) → Bool
ended bytes over s pass next = true
ended bytes passed s pass next = pass s
ended bytes (called reply) s pass next =
    let r = with_table bytes reply s in
    cond (is_refused r.reply) true (next r.left)

module _ (text names : List ℕ) (bodies joints : ℕ) where
  -- the line at a place
  unfoldable pub turn_of : Place → Study → Turn
  turn_of p s =
      let act = act_at text names bodies joints p.at in
      cond (leb (length text) p.at) (turn_as over p s) (acted_on joints act (place_after text names bodies joints p act) s)

  -- ---- turn after turn

  -- What each call that at most so many turns run says and leaves, in order. A turn that finds the text at its end, and a refusal, end the study. Where call i asks for a motor
  -- table, `tables i` are the bytes that were read.
  unfoldable pub turns : ℕ → (ℕ → List ℕ) → Place → Study → List Ran
  turns zero tables p s = []
  turns (suc n) tables p s =
      let t = turn_of p s in
      said (tables 0) t.told t.left (λ left. turns n tables t.place left) (λ left. turns n (λ i. tables (suc i)) t.place left)

  -- the study ends within so many turns
  unfoldable pub ends_within : ℕ → (ℕ → List ℕ) → Place → Study → Bool
  ends_within zero tables p s = false
  ends_within (suc n) tables p s =
      let t = turn_of p s in
      ended (tables 0) t.told t.left (λ left. ends_within n tables t.place left) (λ left. ends_within n (λ i. tables (suc i)) t.place left)
