-- `reads_as` meets its contract.
use mathlib.Core.Path.{sym, ap, ◌∙◌}
use lib.Seq.{length-take-le}
use Prim.Native.Nat.{ℕ}
use lib.Dec.{eqb}
use Rattle.decimals.specs.Spelled.{reads_as}
use Rattle.decimals.proofs.spelled.reads_as.Goals as goal

pub slice_bounds-read_number-end : goal.slice_bounds-read_number-end
slice_bounds-read_number-end c = let a = c.args in sym (length-take-le a.text.len a.text.bytes c.requires)

pub returns-in-Ok : goal.returns-in-Ok
unfolding reads_as
returns-in-Ok c =
    ap (λ (b : ℕ). eqb b c.to_bits-in-Ok.result) c.to_bits.ensures
    ∙ ap (eqb _) c.to_bits-in-Ok.ensures
    ∙ ap (reads_as c.args.x) (sym c.in-Ok.is ∙ c.read_number.ensures)

pub returns-in-Err : goal.returns-in-Err
unfolding reads_as
returns-in-Err c = ap (reads_as c.args.x) (sym c.in-Err.is ∙ c.read_number.ensures)
