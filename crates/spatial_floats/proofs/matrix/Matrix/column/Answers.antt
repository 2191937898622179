-- `column` meets its contract: each answer is the case that the match left.
use mathlib.Core.Path.{◌≡◌}
use native.Mathlib.Omega.{arith}
use borrow.Author.Tests.{ne_eqb}
use Rattle.spatial_floats.specs.Matrix.{column_of}
use Rattle.spatial_floats.proofs.matrix.Matrix.column.Goals as goal

pub returns-in-0 : goal.returns-in-0
unfolding column_of
returns-in-0 c = simp c.in-0.is

pub returns-in-1 : goal.returns-in-1
unfolding column_of
returns-in-1 c = simp c.in-1.is

pub returns-in_default : goal.returns-in_default
unfolding column_of
returns-in_default c =
    let a : c.args.i ≡ 0 → ⊥ = λ z. omega arith in
    let b : c.args.i ≡ 1 → ⊥ = λ z. omega arith in
    simp (ne_eqb _ _ a, ne_eqb _ _ b)
