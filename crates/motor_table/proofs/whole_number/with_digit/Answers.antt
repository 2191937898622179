-- `with_digit` meets its contract, case by case.
use Rattle.std.proofs.Common.{inl, inr}
use Rattle.motor_table.specs.Scan.{with_digit}
use Rattle.motor_table.proofs.whole_number.with_digit.Goals as goal

pub returns-in-Nothing : goal.returns-in-Nothing
unfolding with_digit
returns-in-Nothing c = elim c.in-Nothing.is [ inl e ↦ simp e c.grow.ensures | inr r ↦ elim r [ inl e ↦ simp e c.grow.ensures | inr e ↦ simp e c.grow.ensures ] ]

pub returns-in-NoNumber : goal.returns-in-NoNumber
unfolding with_digit
returns-in-NoNumber c = simp c.in-NoNumber.is c.no_number.ensures
