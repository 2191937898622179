use Rattle.spatial_model.specs.Store.{vel_at}
use borrow.Author.Tests.{ne_eqb, eq-eqb}
use native.Mathlib.Omega.{arith}
use Rattle.spatial_model.proofs.store.vel_at.Goals as goal

pub returns-then-i-eq-WORLD : goal.returns-then-i-eq-WORLD
unfolding vel_at
returns-then-i-eq-WORLD c = simp (eq-eqb _ _ c.if-i-eq-WORLD.true)

pub six_at-a-requires : goal.six_at-a-requires
six_at-a-requires c = let h = c.requires c.if-i-eq-WORLD.false in omega arith

pub returns : goal.returns
unfolding vel_at
returns c = simp (ne_eqb _ _ c.if-i-eq-WORLD.false, c.six_at-a.ensures)
