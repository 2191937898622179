-- `may_end` meets its contract, place by place.
use Rattle.std.proofs.Common.{inl, inr}
use Rattle.motor_table.specs.Rfc4180.{may_end}
use Rattle.motor_table.proofs.rfc4180.may_end.Goals as goal

pub returns-in-FieldStart : goal.returns-in-FieldStart
unfolding may_end
returns-in-FieldStart c = elim c.in-FieldStart.is [ inl e ↦ simp e | inr r ↦ elim r [ inl e ↦ simp e | inr e ↦ simp e ] ]

pub returns-in-Escaped : goal.returns-in-Escaped
unfolding may_end
returns-in-Escaped c = elim c.in-Escaped.is [ inl e ↦ simp e | inr e ↦ simp e ]
