-- `positive_root` meets its contract: shifted by its leading zeros less 8, d has 24 digits, and the number under the root is the same. Assumes nothing.
use Rattle.std.proofs.Common.{◌+◌, ◌-◌, ◌*◌, ◌^◌, ap, ◌∙◌, arith}
use Rattle.floats.specs.Sqrt.{nearest_root}
use Rattle.floats.proofs.NearestRoot.{shift, shift-eight, shift_le, shifted-low, shifted-high, shifted-exact, shifted-whole}
use Rattle.floats.proofs.sqrt.positive_root.Goals as goal

pub overflow_sub-shift : goal.overflow_sub-shift
overflow_sub-shift c = shift-eight c.args.d c.requires.0 c.requires.1

pub overflow_shl-d : goal.overflow_shl-d
overflow_shl-d c = omega (arith, shift_le c.args.d c.requires.0 c.requires.1)

pub overflow_sub-k : goal.overflow_sub-k
overflow_sub-k c = omega (arith, shift_le c.args.d c.requires.0 c.requires.1)

pub rounded_root-requires : goal.rounded_root-requires
rounded_root-requires c =
    let d = c.args.d in
    rw (shifted-exact d c.requires.0 c.requires.1)
    (omega (arith, shift_le d c.requires.0 c.requires.1, shifted-low d c.requires.0 c.requires.1, shifted-high d c.requires.0 c.requires.1))

pub returns : goal.returns
returns c =
    let d = c.args.d in
    let k = c.args.k in
    let p = c.requires in
    c.rounded_root.ensures
    ∙ ap (λ x. nearest_root (x * 2 ^ (k + 149 - shift d))) (shifted-exact d p.0 p.1)
    ∙ ap nearest_root (shifted-whole d p.0 p.1 k)
