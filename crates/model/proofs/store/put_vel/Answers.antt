use native.Mathlib.Omega.{arith}
use lib.ListN.{length-set}
use borrow.Author.Tests.{ne_eqb, eq-eqb}
use Rattle.model.specs.Store.{put_vel}
use Rattle.model.proofs.store.put_vel.Goals as goal

pub returns-then-i-eq-WORLD : goal.returns-then-i-eq-WORLD
unfolding put_vel
returns-then-i-eq-WORLD c = simp (eq-eqb _ _ c.if-i-eq-WORLD.true)

pub bounds-b-o : goal.bounds-b-o
bounds-b-o c = let h = c.requires c.if-i-eq-WORLD.false in omega arith

pub bounds-b-o-2 : goal.bounds-b-o-2
bounds-b-o-2 c = let h = c.requires c.if-i-eq-WORLD.false in simp length-set (omega arith)

pub bounds-b-o-3 : goal.bounds-b-o-3
bounds-b-o-3 c = let h = c.requires c.if-i-eq-WORLD.false in simp length-set (omega arith)

pub returns : goal.returns
unfolding put_vel
returns c = simp (ne_eqb _ _ c.if-i-eq-WORLD.false)
