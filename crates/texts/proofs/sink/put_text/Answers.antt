use mathlib.Core.Path.{ap, ◌∙◌}
use lib.ListN.{length}
use Rattle.texts.proofs.SinkLaws.{appended-none, appended-turn, appended-all, put-length}
use Rattle.texts.proofs.sink.put_text.Goals as goal

pub loop-b-init : goal.loop-b-init
loop-b-init c = appended-none _ _

pub loop-b-preserved : goal.loop-b-preserved
loop-b-preserved c = appended-turn _ _ _ _ _ _ _ _ c.loop-b-test.true c.loop-b.invariant c.put_byte-end.ensures

pub shape_of-out : goal.shape_of-out
shape_of-out c = ap length c.loop-b.invariant.holds ∙ put-length _ _ _

pub returns : goal.returns
returns c = appended-all _ _ _ _ _ _ c.loop-b-test.false c.loop-b.invariant
