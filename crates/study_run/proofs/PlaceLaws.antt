-- A `repeat` of no turns is passed over line by line.
use Prim.Native.Nat.{ℕ, zero, suc, ◌-◌, ◌≤◌, ◌<◌}
use mathlib.Core.Path.{◌≡◌, refl}
use mathlib.Core.Bool.{Bool, true, false}
use mathlib.Core.List.{List}
use native.Mathlib.Omega.{arith}
use Rattle.study_reader.specs.Words.{next_line}
use Rattle.study_run.specs.Acts.{act_at}
use Rattle.study_run.specs.Places.{is_end, skip_from}
use Rattle.study_run.specs.Runs.{run_call}
use Rattle.study_run.specs.Study.{Study, Ran}
use Rattle.study_run.specs.Turns.{turn_as, acted_on}
use Rattle.study_run.specs.declared.acts.StudyCall.{StudyCall}
use Rattle.study_run.specs.declared.acts.Act.{Act}
use Rattle.study_run.specs.declared.acts.Act.TheVariants.{Call}
use Rattle.study_run.specs.declared.places.Place.{Place}
use Rattle.study_run.specs.Turns.Tells.{called}

module _ (text names : List ℕ) (bodies joints : ℕ) where
  pub skip-done : (lines at : ℕ) → lines ≤ 0 → skip_from text names bodies joints lines at ≡ at
  unfolding skip_from
  skip-done zero at h = refl
  skip-done (suc n) at h = absurd (omega arith)

  pub skip-ends : (lines at : ℕ) → 0 < lines → {a : Act} {b : Bool} → a ≡ act_at text names bodies joints at → b ≡ is_end a → b ≡ true
      → skip_from text names bodies joints lines at ≡ next_line text at
  unfolding skip_from
  skip-ends zero at h e d f = absurd (omega arith)
  skip-ends (suc n) at h e d f = rw (← e, ← d, f)

  pub skip-on : (lines at : ℕ) → 0 < lines → {a : Act} {b : Bool} → a ≡ act_at text names bodies joints at → b ≡ is_end a → b ≡ false
      → skip_from text names bodies joints lines at ≡ skip_from text names bodies joints (lines - 1) (next_line text at)
  unfolding skip_from
  skip-on zero at h e d f = absurd (omega arith)
  skip-on (suc n) at h e d f =
      let z : suc n - 1 ≡ n = omega arith in
      rw (z, ← e, ← d, f)

pub acted-call : (joints : ℕ) (c : StudyCall) (next : Place) (s : Study) {r : Ran} → r ≡ run_call joints c s → turn_as (called r.reply) next r.left ≡ acted_on joints (Call c) next s
unfolding acted_on
acted-call joints c next s e = rw e
