-- `quarter_pair` meets its contract: in each quarter, the pair of what `nearest` promises.
use Rattle.std.proofs.Common.{◌≡◌, arith, ne_eqb}
use Rattle.floats.specs.SinCos.{quarter_pair}
use Rattle.floats.proofs.sin_cos.quarter_pair.Goals as goal

pub returns-in-0 : goal.returns-in-0
unfolding quarter_pair
returns-in-0 c = simp (c.in-0.is, c.nearest.ensures, c.nearest-in-0.ensures)

pub returns-in-1 : goal.returns-in-1
unfolding quarter_pair
returns-in-1 c = simp (c.in-1.is, c.nearest-in-1.ensures, c.nearest-in-1-2.ensures)

pub returns-in-2 : goal.returns-in-2
unfolding quarter_pair
returns-in-2 c = simp (c.in-2.is, c.nearest-in-2.ensures, c.nearest-in-2-2.ensures)

pub returns-in_default : goal.returns-in_default
unfolding quarter_pair
returns-in_default c =
    let a : c.args.q ≡ 0 → ⊥ = λ z. omega arith in
    let b : c.args.q ≡ 1 → ⊥ = λ z. omega arith in
    let d : c.args.q ≡ 2 → ⊥ = λ z. omega arith in
    simp (ne_eqb _ _ a, ne_eqb _ _ b, ne_eqb _ _ d, c.nearest-in_default.ensures, c.nearest-in_default-2.ensures)
