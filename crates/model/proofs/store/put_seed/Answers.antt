use Prim.Native.Nat.{◌<◌}
use native.Mathlib.Omega.{arith}
use borrow.Author.Tests.{le-ltb, lt-ltb}
use Rattle.model.specs.Layout.{numbers_width}
use Rattle.model.specs.Store.{seed_index, put_seed}
use Rattle.model.proofs.StoreLaws.{seed-index-below}
use Rattle.model.proofs.store.put_seed.Goals as goal
use Rattle.model.proofs.store.put_seed.Goals.{After-seed_index}

-- the seed's number is one of the joint's
below : (c : After-seed_index) → seed_index c.args.id < numbers_width
below c = seed-index-below c.args.id (rw c.axis.ensures at c.if-axis-lt3.true)

pub overflow_add-a : goal.overflow_add-a
overflow_add-a c = omega (arith, below c)

pub offset_bounds-numbers-a : goal.offset_bounds-numbers-a
offset_bounds-numbers-a c = omega (arith, below c)

pub bounds-numbers-a : goal.bounds-numbers-a
bounds-numbers-a c = omega (arith, below c)

pub returns-then-axis-lt3 : goal.returns-then-axis-lt3
unfolding put_seed
returns-then-axis-lt3 c = simp (lt-ltb _ _ (rw c.axis.ensures at c.if-axis-lt3.true), c.seed_index.ensures)

pub returns-else-axis-lt3 : goal.returns-else-axis-lt3
unfolding put_seed
returns-else-axis-lt3 c = simp (le-ltb _ _ (rw c.axis.ensures at c.if-axis-lt3.false))
