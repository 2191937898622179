-- How many motors of each joint the last round of sweeps found low or high (`sweep_counts` in multibody), since the rows were made.
use Rattle.std.specs.Prelude.{cond, List, [], ℕ, Option, Some, None, Result, Ok, Err, eqb}
use Rattle.rows.specs.RowIds.{filled}
use Rattle.multibody.specs.Calls.{Answer}
use Rattle.multibody.specs.Calls.Answer.{granted, total, rows_read, velocity_read, swept, refused}
use Rattle.multibody.specs.declared.refusal.Refusal.{Refusal}
use Rattle.model.specs.Planar.{plane}

-- what the last round found, where one was swept
abbrev pub Motors : Type 0
Motors = Option (List ℕ)

-- the rows are made anew: no round was swept
abbrev pub forgotten : Motors
forgotten = None

-- what a sweep found at a bound, as its array of counts; of a refused one nothing
abbrev pub found : Result (List ℕ) Refusal → List ℕ
found (Ok counts) = counts
found (Err e) = filled 128 0 []

-- the array of an answer's counts
abbrev pub counts_in : Answer plane → List ℕ
counts_in (swept counts) = filled 128 0 counts
counts_in granted = filled 128 0 []
counts_in (total n) = filled 128 0 []
counts_in (rows_read ids rows) = filled 128 0 []
counts_in (velocity_read v) = filled 128 0 []
counts_in (refused k) = filled 128 0 []

-- what a sweep of so many rounds answered, if it had a round
abbrev pub kept : ℕ → List ℕ → Motors → Motors
kept rounds answered k = cond (eqb rounds 0) k (Some answered)
