use native.Mathlib.Nat.{add-zero}
use native.Mathlib.Omega.{arith}
use lib.ListN.{length-set}
use Rattle.multibody.proofs.records.put6.Goals as goal

pub bounds-s-o-2 : goal.bounds-s-o-2
bounds-s-o-2 c = simp length-set (omega arith)

pub bounds-s-o-3 : goal.bounds-s-o-3
bounds-s-o-3 c = simp length-set (omega arith)

pub bounds-s-o-4 : goal.bounds-s-o-4
bounds-s-o-4 c = simp length-set (omega arith)

pub bounds-s-o-5 : goal.bounds-s-o-5
bounds-s-o-5 c = simp length-set (omega arith)

pub bounds-s-o-6 : goal.bounds-s-o-6
bounds-s-o-6 c = simp length-set (omega arith)

pub returns : goal.returns
returns c = simp add-zero
