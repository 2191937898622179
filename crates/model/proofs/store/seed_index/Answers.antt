use mathlib.Core.Path.{sym, ap}
use native.Mathlib.Omega.{arith}
use Rattle.model.specs.Store.{axis_of, seed_index}
use Rattle.model.proofs.store.seed_index.Goals as goal

pub overflow_add-result : goal.overflow_add-result
overflow_add-result c = let h = ap axis_of c.in-Dof.is in omega arith

pub overflow_mul-result : goal.overflow_mul-result
overflow_mul-result c = let h = ap axis_of c.in-Limit.is in omega arith

pub overflow_add-result-in-Limit : goal.overflow_add-result-in-Limit
overflow_add-result-in-Limit c = let h = ap axis_of c.in-Limit.is in omega arith

pub overflow_mul-result-in-Motor : goal.overflow_mul-result-in-Motor
overflow_mul-result-in-Motor c = let h = ap axis_of c.in-Motor.is in omega arith

pub overflow_add-result-in-Motor : goal.overflow_add-result-in-Motor
overflow_add-result-in-Motor c = let h = ap axis_of c.in-Motor.is in omega arith

pub returns-in-Dof : goal.returns-in-Dof
returns-in-Dof c = sym (ap seed_index c.in-Dof.is)

pub returns-in-Limit : goal.returns-in-Limit
returns-in-Limit c = sym (ap seed_index c.in-Limit.is)

pub returns-in-Motor : goal.returns-in-Motor
returns-in-Motor c = sym (ap seed_index c.in-Motor.is)
