-- `field_in` meets its contract.
use mathlib.Core.Path.{ap, ◌∙◌}
use Prim.Native.Nat.{ℕ}
use Rattle.study_reader.specs.Tables.{field_after}
use Rattle.study_reader.proofs.fields.field_in.Goals as goal

pub returns : goal.returns
returns c =
    let a = c.args in
    c.field_after.ensures ∙ ap (λ (at : ℕ). field_after a.table.now at) c.end_in.ensures
