-- `is_number` meets its contract, case by case.
use Rattle.std.proofs.Common.{inl, inr}
use Rattle.motor_table.specs.Scan.{is_digits}
use Rattle.motor_table.proofs.whole_number.is_number.Goals as goal

pub returns-in-Digits : goal.returns-in-Digits
unfolding is_digits
returns-in-Digits c = simp c.in-Digits.is

pub returns-in-Nothing : goal.returns-in-Nothing
unfolding is_digits
returns-in-Nothing c = elim c.in-Nothing.is [ inl e ↦ simp e | inr r ↦ elim r [ inl e ↦ simp e | inr e ↦ simp e ] ]
