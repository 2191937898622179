-- `skip` meets its contract, a line a turn.
use Prim.Native.Nat.{◌-◌}
use mathlib.Core.Path.{◌≡◌}
use lib.ListN.{length}
use Rattle.study_run.specs.Places.{skip_from}
use Rattle.study_run.proofs.places.skip.Given as goal

abbrev pub invariant-loop-line : goal.invariant-loop-line
invariant-loop-line l =
    skip_from l.text l.names l.body_count l.joint_count (length l.text - l._line) l.at ≡ skip_from l.text l.names l.body_count l.joint_count (length l.text) l.from
