-- `all_substeps` meets its contract, a substep a turn.
use Rattle.std.proofs.Common.{◌≡◌, ◌-◌, length, true}
use Rattle.multibody.specs.Answers.{sweep_answer, Filled}
use Rattle.multibody.specs.Counts.{joint_count}
use Rattle.model.specs.Model.{model_of}
use Rattle.model.specs.Planar.{plane}
use Rattle.frames.specs.Frames.{substeps, moment, progress}
use Rattle.frames.proofs.frame.all_substeps.Given as goal

abbrev pub invariant-loop-i : goal.invariant-loop-i
invariant-loop-i l =
    let joints = joint_count plane l.words l.numbers in
    (length l.bodies ≡ length l.initial.bodies)
    × (substeps l.warmstart l.sweeps l.i (l.n - l.i) (progress true (moment (model_of l.p.header l.bodies l.words l.numbers) l.rows) (sweep_answer joints l.p.last))
    ≡ substeps l.warmstart l.sweeps 1 (l.n - 1) (progress true (moment (model_of l.initial.p.header l.initial.bodies l.words l.numbers) l.initial.rows) (sweep_answer joints l.initial.p.last)))
    × Filled joints l.p.last
