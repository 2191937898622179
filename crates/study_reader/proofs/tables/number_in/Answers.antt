-- `number_in` meets its contract.
use mathlib.Core.Path.{ap, ◌∙◌}
use Prim.Native.Nat.{ℕ}
use Rattle.study_reader.specs.Tables.{number_after}
use Rattle.study_reader.proofs.tables.number_in.Goals as goal

pub returns : goal.returns
returns c =
    let a = c.args in
    c.number_after.ensures ∙ ap (λ (at : ℕ). number_after a.table.now a.other at) c.end_in.ensures
