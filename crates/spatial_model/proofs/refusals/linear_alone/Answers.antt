-- `linear_alone` meets its contract: each test is tried where those before it hold.
use Rattle.spatial_model.proofs.SpatialRules.{limit-past, motor-past, none-coupled}
use Rattle.spatial_model.proofs.refusals.linear_alone.Goals as goal

pub returns-then-words-o-gt-LINEAR_AXES : goal.returns-then-words-o-gt-LINEAR_AXES
returns-then-words-o-gt-LINEAR_AXES c = limit-past _ _ c.if-words-o-gt-LINEAR_AXES.true

pub returns-then-words-o-gt-LINEAR_AXES-2 : goal.returns-then-words-o-gt-LINEAR_AXES-2
returns-then-words-o-gt-LINEAR_AXES-2 c = motor-past _ _ c.if-words-o-gt-LINEAR_AXES.false c.if-words-o-gt-LINEAR_AXES-2.true

pub returns : goal.returns
returns c = none-coupled _ _ c.if-words-o-gt-LINEAR_AXES.false c.if-words-o-gt-LINEAR_AXES-2.false
