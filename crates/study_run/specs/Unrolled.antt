-- The calls that a text has from a place on, in order, each `repeat` unrolled.
use Rattle.std.specs.Prelude.{Bool, true, false, cond, not, ◌&&◌, List, [], ◌∷◌, ◌++◌, ℕ, zero, suc, leb, length}
use Rattle.study_reader.specs.Words.{next_line}
use Rattle.study_run.specs.Acts.{act_at}
use Rattle.study_run.specs.declared.acts.StudyCall.{StudyCall}
use Rattle.study_run.specs.declared.acts.Act.{Act}
use Rattle.study_run.specs.declared.acts.Act.TheVariants.{Nothing, Repeat, End, Call}

-- ---- the acts of a text's lines

module _ (text names : List ℕ) (bodies joints : ℕ) where
  -- at most so many lines from a place on
  unfoldable pub acts_from : ℕ → ℕ → List Act
  acts_from zero at = []
  acts_from (suc n) at = cond (leb (length text) at) [] (act_at text names bodies joints at ∷ acts_from n (next_line text at))

  -- all of them: there are at most as many lines as bytes
  abbrev pub acts_on : ℕ → List Act
  acts_on at = acts_from (length text) at

-- ---- unrolled

-- a list n times over
unfoldable pub times : ℕ → List StudyCall → List StudyCall
times zero cs = []
times (suc n) cs = cs ++ times n cs

unfoldable pub first : List (List StudyCall) → List StudyCall
first [] = []
first (cs ∷ rest) = cs

unfoldable pub others : List (List StudyCall) → List (List StudyCall)
others [] = []
others (cs ∷ rest) = rest

unfoldable pub joined : List (List StudyCall) → List StudyCall
joined [] = []
joined (cs ∷ rest) = cs ++ joined rest

-- The calls of a list of acts, level by level: those up to the `end` that closes what is open, those after it up to the next such, and so on. A `repeat` gives
-- the first level of what stands after it as many times as it says, and then the level after that. (So one `repeat` could stand in another; the reading
-- refuses it.)
unfoldable pub levels : List Act → List (List StudyCall)
levels [] = [] ∷ []
levels (Nothing ∷ rest) = levels rest
levels (End ∷ rest) = [] ∷ levels rest
levels (Call c ∷ rest) = (c ∷ first (levels rest)) ∷ others (levels rest)
levels (Repeat n ∷ rest) = (times n (first (levels rest)) ++ first (others (levels rest))) ∷ others (others (levels rest))

-- the calls, in order; an `end` that closes nothing gives none
unfoldable pub unrolled : List Act → List StudyCall
unrolled acts = joined (levels acts)

-- ---- what the reading asks of `repeat` and `end`

-- where a `repeat` is open or not: no other is in it, and each has its `end`
unfoldable pub closed : Bool → List Act → Bool
closed inside [] = not inside
closed inside (Nothing ∷ rest) = closed inside rest
closed inside (End ∷ rest) = closed false rest
closed inside (Call c ∷ rest) = closed inside rest
closed inside (Repeat n ∷ rest) = not inside && closed true rest
