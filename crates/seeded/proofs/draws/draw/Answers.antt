use Rattle.seeded.proofs.DrawLaws.{state-none, state-next, state-drawn}
use Rattle.seeded.proofs.draws.draw.Goals as goal

pub loop-i-init : goal.loop-i-init
loop-i-init c = state-none _

pub loop-i-preserved : goal.loop-i-preserved
loop-i-preserved c = state-next _ _ c.loop-i.invariant c.next-s.ensures

pub returns : goal.returns
returns c = state-drawn _ _ _ c.loop-i.invariant c.loop-i.auto._i-end c.loop-i-test.false c.next.ensures c.mixed.ensures
