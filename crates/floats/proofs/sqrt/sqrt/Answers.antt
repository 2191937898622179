-- `sqrt` meets its contract: of each case of `parts_of`'s answer, `proofs/SqrtLaws.antt` says what the root is. Assumes nothing.
use Rattle.std.proofs.Common.{T, sym, ◌∙◌, subst, arith}
use lib.Ieee.{binary32, fits}
use Rattle.floats.proofs.BitsLaws.{Finite-parts, finite-parts}
use Rattle.floats.proofs.SqrtLaws.{zero_by_zero, root-of-nan, root-of-infinity, root-of-negative-infinity, root-of-zero, root-of-negative, root-of-positive}
use Rattle.floats.proofs.sqrt.sqrt.Goals as goal
use Rattle.floats.proofs.sqrt.sqrt.Goals.{In-Finite, Start}

-- what owning an `f32` tells: the format holds it
held : (c : Start) → T (fits binary32 c.args.x)
held c = subst T (sym c.well_formed.0.1) tt

-- the parts of a finite number, where its arm begins
finite : (c : In-Finite) → Finite-parts c.args.x c.in-Finite.negative c.in-Finite.d c.in-Finite.k
finite c = finite-parts c.args.x _ _ _ (held c.before.before) (sym c.parts_of.ensures ∙ c.in-Finite.is)

pub returns-then-negative : goal.returns-then-negative
returns-then-negative c = zero_by_zero ∙ root-of-negative-infinity c.args.x _ (sym c.parts_of.ensures ∙ c.in-Infinite.is) c.if-negative.true

pub returns-then-d-eq0 : goal.returns-then-d-eq0
returns-then-d-eq0 c = root-of-zero _ _ _ _ (finite c.before) c.if-d-eq0.true

pub returns-then-negative-2 : goal.returns-then-negative-2
returns-then-negative-2 c = zero_by_zero ∙ root-of-negative _ _ _ _ (finite c.before.before) c.if-d-eq0.false c.if-negative-2.true

pub positive_root-requires : goal.positive_root-requires
positive_root-requires c =
    let p = finite c.before.before in
    omega (arith, p.digits, p.top, c.if-d-eq0.false)

pub returns-in-Nan : goal.returns-in-Nan
returns-in-Nan c = root-of-nan c.args.x (sym c.parts_of.ensures ∙ c.in-Nan.is)

pub returns-else-negative : goal.returns-else-negative
returns-else-negative c = root-of-infinity c.args.x _ (sym c.parts_of.ensures ∙ c.in-Infinite.is) c.if-negative.false

pub returns-else-negative-2 : goal.returns-else-negative-2
returns-else-negative-2 c = c.positive_root.ensures ∙ root-of-positive _ _ _ _ (finite c.before.before.before) c.if-d-eq0.false c.if-negative-2.false
