-- `close` meets its contract: the field goes where the count says.
use Rattle.std.proofs.Common.{◌≡◌, arith, ne_eqb}
use Rattle.motor_table.specs.Scan.{close_of}
use Rattle.motor_table.proofs.record.close.Goals as goal

pub returns-in-0 : goal.returns-in-0
unfolding close_of
returns-in-0 c = simp c.in-0.is

pub returns-in-1 : goal.returns-in-1
unfolding close_of
returns-in-1 c = simp c.in-1.is

pub returns-in-2 : goal.returns-in-2
unfolding close_of
returns-in-2 c = simp c.in-2.is

pub returns-in_default : goal.returns-in_default
unfolding close_of
returns-in_default c =
    let n = c.args.ended.count in
    let a : n ≡ 0 → ⊥ = λ z. omega arith in
    let b : n ≡ 1 → ⊥ = λ z. omega arith in
    let d : n ≡ 2 → ⊥ = λ z. omega arith in
    simp (ne_eqb _ _ a, ne_eqb _ _ b, ne_eqb _ _ d)
