use mathlib.Core.Path.{◌≡◌}
use mathlib.Core.List.{List}
use Prim.Native.Nat.{ℕ, ◌≤◌, ◌-◌}
use lib.ListN.{length}
use Rattle.study_reader.specs.declared.draft.State.{State}
use Rattle.study_reader.specs.Draft.{draft}
use Rattle.study_reader.specs.Study.{center_joints}
use Rattle.study_reader.proofs.read.center_joints.Given as goal

abbrev pub invariant-loop-j : goal.invariant-loop-j
invariant-loop-j l = (l.j ≤ l.joints) × (length l.numbers ≡ length l.initial.numbers) × (length l.words ≡ length l.initial.words)
    × ((st : State) (names : List ℕ) → center_joints l.j (l.joints - l.j) (draft st l.numbers l.origins l.words names) ≡ center_joints 0 l.joints (draft st l.initial.numbers l.origins l.initial.words names))
