-- `present_or_world` meets its contract: the world's number is tried first.
use borrow.Author.Tests.{eq-eqb, ne_eqb}
use Rattle.multibody.specs.Refusals.{present_or_world}
use Rattle.multibody.proofs.refusals.present_or_world.Goals as goal

pub returns-then-i-eq-WORLD : goal.returns-then-i-eq-WORLD
unfolding present_or_world
returns-then-i-eq-WORLD g c = rw (eq-eqb _ _ c.if-i-eq-WORLD.true)

pub returns-else-i-eq-WORLD : goal.returns-else-i-eq-WORLD
unfolding present_or_world
returns-else-i-eq-WORLD g c = rw (ne_eqb _ _ c.if-i-eq-WORLD.false, c.body_count.ensures)
