use native.Mathlib.Omega.{arith}
use borrow.Author.Tests.{ne_eqb, eq-eqb}
use Rattle.model.specs.Store.{solver_pose_at}
use Rattle.model.proofs.store.solver_pose_at.Goals as goal

pub returns-then-i-eq-WORLD : goal.returns-then-i-eq-WORLD
unfolding solver_pose_at
returns-then-i-eq-WORLD c = simp (eq-eqb _ _ c.if-i-eq-WORLD.true)

pub pose_at-requires : goal.pose_at-requires
pose_at-requires c = let h = c.requires c.if-i-eq-WORLD.false in omega arith

pub bounds-b-o : goal.bounds-b-o
bounds-b-o c = let h = c.requires c.if-i-eq-WORLD.false in omega arith

pub bounds-b-o-2 : goal.bounds-b-o-2
bounds-b-o-2 c = let h = c.requires c.if-i-eq-WORLD.false in omega arith

pub bounds-b-o-3 : goal.bounds-b-o-3
bounds-b-o-3 c = let h = c.requires c.if-i-eq-WORLD.false in omega arith

pub returns : goal.returns
unfolding solver_pose_at
returns c = simp (ne_eqb _ _ c.if-i-eq-WORLD.false, c.pose_at.ensures)
