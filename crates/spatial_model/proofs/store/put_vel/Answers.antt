use Rattle.spatial_model.specs.Store.{put_vel}
use borrow.Author.Tests.{ne_eqb, eq-eqb}
use native.Mathlib.Nat.{add_assoc, add-zero}
use native.Mathlib.Omega.{arith}
use Rattle.spatial_model.proofs.store.put_vel.Goals as goal

pub returns-then-i-eq-WORLD : goal.returns-then-i-eq-WORLD
unfolding put_vel
returns-then-i-eq-WORLD c = simp (eq-eqb _ _ c.if-i-eq-WORLD.true)

pub put6-requires : goal.put6-requires
put6-requires c = let h = c.requires c.if-i-eq-WORLD.false in omega arith

pub returns : goal.returns
unfolding put_vel
returns c =
    rw (c.put6.ensures, ne_eqb _ _ c.if-i-eq-WORLD.false) (simp (add-zero, add_assoc))
