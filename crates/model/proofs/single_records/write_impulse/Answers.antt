-- `write_impulse` meets its contract, by that of `put_seed`.
use mathlib.Core.Path.{sym, ◌∙◌}
use native.Mathlib.Omega.{arith}
use Rattle.model.proofs.SingleRecordsLaws.{seed-there, seed-absent}
use Rattle.model.proofs.single_records.write_impulse.Goals as goal

pub returns-then-j-numbers : goal.returns-then-j-numbers
returns-then-j-numbers c =
    c.put_seed.ensures ∙ sym (seed-there _ _ _ _ (omega (arith, c.if-j-numbers.true)))

pub returns-else-j-numbers : goal.returns-else-j-numbers
returns-else-j-numbers c = sym (seed-absent _ _ _ _ c.if-j-numbers.false)
