-- What is proved of the turns, in proofs/TurnLaws.antt.
use Rattle.std.specs.Prelude.{ℕ, ◌≡◌, true, false, List}
use Rattle.study_run.specs.Unrolled.{acts_on, unrolled, closed}
use Rattle.study_run.specs.Study.{Study}
use Rattle.study_run.specs.Runs.{runs}
use Rattle.study_run.specs.Places.{place}
use Rattle.study_run.specs.Turns.{turns, ends_within}
use Rattle.study_run.specs.declared.places.Place.{Place}

-- Turns one after the other, from the place of the first call on, run the calls of the text in order, each `repeat` unrolled, each call on what the one before left, up to the first
-- refusal or the end: of every text in which no `repeat` stands in another and each has its `end`, and whatever the motor tables hold.
abbrev pub TurnsRun : Type 0
TurnsRun =
    (text names : List ℕ) (bodies joints calls n : ℕ) (tables : ℕ → List ℕ) (s : Study)
    → closed false (acts_on text names bodies joints calls) ≡ true
    → ends_within text names bodies joints n tables (place calls 0 0) s ≡ true
    → turns text names bodies joints n tables (place calls 0 0) s ≡ runs joints tables (unrolled (acts_on text names bodies joints calls)) s

-- a study ends: within some number of turns
pub record Ends (text names : List ℕ) (bodies joints : ℕ) (tables : ℕ → List ℕ) (p : Place) (s : Study) : Type 0 where
  pub within : ℕ
  pub ends : ends_within text names bodies joints within tables p s ≡ true

-- Every study ends, of every text in which no `repeat` stands in another and each has its `end`.
abbrev pub EveryStudyEnds : Type 0
EveryStudyEnds =
    (text names : List ℕ) (bodies joints calls : ℕ) (tables : ℕ → List ℕ) (s : Study)
    → closed false (acts_on text names bodies joints calls) ≡ true
    → Ends text names bodies joints tables (place calls 0 0) s
