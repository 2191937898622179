-- Where a study is in its text, and how an act moves it on.
use Rattle.std.specs.Prelude.{ℕ, zero, suc, ◌-◌, Bool, true, false, cond, List, eqb, length}
use Rattle.study_reader.specs.Words.{next_line}
use Rattle.study_run.specs.Acts.{act_at}
use Rattle.study_run.specs.declared.acts.Act.{Act}
use Rattle.study_run.specs.declared.acts.Act.TheVariants.{Nothing, Repeat, End, Call}
use Rattle.study_run.specs.declared.places.Place.{Place}

-- the line that comes next; the first line of the `repeat` that is open, and how many of its turns are left after this one
abbrev pub place : ℕ → ℕ → ℕ → Place
place at first left = record { at = at; first = first; left = left }

-- the same `repeat`, another line
abbrev pub moved : Place → ℕ → Place
moved p at = place at p.first p.left

-- a turn of a `repeat` begins
abbrev pub repeating : ℕ → ℕ → Place
repeating first left = place first first left

abbrev pub is_end : Act → Bool
is_end Nothing = false
is_end (Repeat n) = false
is_end End = true
is_end (Call c) = false

module _ (text names : List ℕ) (bodies joints : ℕ) where
  -- past the first `end`, at most so many lines on
  unfoldable pub skip_from : ℕ → ℕ → ℕ
  skip_from zero at = at
  skip_from (suc n) at = cond (is_end (act_at text names bodies joints at)) (next_line text at) (skip_from n (next_line text at))

  -- a `repeat` of no turns is passed over
  unfoldable pub after_repeat : Place → ℕ → Place
  after_repeat p turns =
      let next = next_line text p.at in
      cond (eqb turns 0) (moved p (skip_from (length text) next)) (repeating next (turns - 1))

-- where turns are left, the next begins
unfoldable pub after_end : List ℕ → Place → Place
after_end text p = cond (eqb p.left 0) (moved p (next_line text p.at)) (repeating p.first (p.left - 1))

-- after an act at the place
unfoldable pub place_after : List ℕ → List ℕ → ℕ → ℕ → Place → Act → Place
place_after text names bodies joints p Nothing = moved p (next_line text p.at)
place_after text names bodies joints p (Repeat turns) = after_repeat text names bodies joints p turns
place_after text names bodies joints p End = after_end text p
place_after text names bodies joints p (Call c) = moved p (next_line text p.at)
