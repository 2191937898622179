-- `with_sign` meets its contract, case by case.
use Rattle.std.proofs.Common.{inl, inr}
use Rattle.motor_table.specs.Scan.{with_sign}
use Rattle.motor_table.proofs.whole_number.with_sign.Goals as goal

pub returns-in-Nothing : goal.returns-in-Nothing
unfolding with_sign
returns-in-Nothing c = simp c.in-Nothing.is

pub returns-in-Sign : goal.returns-in-Sign
unfolding with_sign
returns-in-Sign c = elim c.in-Sign.is [ inl e ↦ simp e c.no_number.ensures | inr r ↦ elim r [ inl e ↦ simp e c.no_number.ensures | inr e ↦ simp e c.no_number.ensures ] ]
