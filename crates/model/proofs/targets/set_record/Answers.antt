use mathlib.Core.Path.{ap, ◌∙◌}
use Rattle.model.specs.Store.{put_target}
use Rattle.model.proofs.targets.set_record.Goals as goal

pub returns : goal.returns
returns c =
    let e = c.args.e in
    c.put_target.ensures
    ∙ ap (put_target c.args.numbers.now e.joint.size e.axis.size) c.target_velocity-v.ensures
