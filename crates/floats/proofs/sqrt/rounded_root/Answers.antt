-- `rounded_root` meets its contract: `proofs/NearestRoot.antt` has the bounds of what it shifts and roots, and that the definition's k and q are the code's. Assumes nothing.
use Rattle.std.proofs.Common.{◌+◌, ◌/◌, false, sym, ap, ◌∙◌, arith}
use lib.Ieee.{binary32, units}
use Rattle.floats.specs.Sqrt.{isqrt}
use Rattle.floats.proofs.NearestRoot.{dropped, kept_high, kept-shifted, twice-bounds, rounded}
use Rattle.floats.proofs.sqrt.rounded_root.Goals as goal

pub isqrt-twice-requires : goal.isqrt-twice-requires
isqrt-twice-requires c =
    let d = c.args.d in
    let f = c.args.f in
    rw (kept-shifted d f c.requires.0 c.requires.1 c.requires.2) (omega (arith, kept_high d f c.requires.0 c.requires.1 c.requires.2))

pub overflow_add-twice : goal.overflow_add-twice
overflow_add-twice c = omega (arith, twice-bounds c.args.d c.args.f c.requires.0 c.requires.1 c.requires.2 c.isqrt-twice.result c.isqrt-twice.ensures)

pub overflow_cast-twice : goal.overflow_cast-twice
overflow_cast-twice c = omega (arith, twice-bounds c.args.d c.args.f c.requires.0 c.requires.1 c.requires.2 c.isqrt-twice.result c.isqrt-twice.ensures)

pub assembled-requires : goal.assembled-requires
assembled-requires c = omega (arith, twice-bounds c.args.d c.args.f c.requires.0 c.requires.1 c.requires.2 c.isqrt-twice.result c.isqrt-twice.ensures)

pub returns : goal.returns
returns c =
    let d = c.args.d in
    let f = c.args.f in
    let p = c.requires in
    c.assembled.ensures
    ∙ ap (λ r. units binary32 false ((r + 1) / 2) (dropped f)) (c.isqrt-twice.ensures ∙ ap isqrt (kept-shifted d f p.0 p.1 p.2))
    ∙ sym (rounded d f p.0 p.1 p.2)
