-- `finish` meets its contract, test by test.
use Rattle.std.proofs.Common.{sym, ◌∙◌, eq-eqb, ne_eqb}
use Rattle.motor_table.specs.Scan.{finish_of}
use Rattle.motor_table.proofs.record.finish.Goals as goal

pub returns-then-is_number-3 : goal.returns-then-is_number-3
unfolding finish_of
returns-then-is_number-3 c = simp (eq-eqb _ _ c.if-ended-eq3.true, sym c.is_number.ensures ∙ c.if-is_number.true, sym c.is_number-then-is_number.ensures ∙ c.if-is_number-2.true, sym c.is_number-then-is_number-2.ensures ∙ c.if-is_number-3.true, c.number_in-then-is_number-3-2.ensures, c.number_in-then-is_number-3.ensures, c.number_in.ensures)

pub returns-else-is_number-3 : goal.returns-else-is_number-3
unfolding finish_of
returns-else-is_number-3 c = simp (eq-eqb _ _ c.if-ended-eq3.true, sym c.is_number.ensures ∙ c.if-is_number.true, sym c.is_number-then-is_number.ensures ∙ c.if-is_number-2.true, sym c.is_number-then-is_number-2.ensures ∙ c.if-is_number-3.false)

pub returns-else-is_number-2 : goal.returns-else-is_number-2
unfolding finish_of
returns-else-is_number-2 c = simp (eq-eqb _ _ c.if-ended-eq3.true, sym c.is_number.ensures ∙ c.if-is_number.true, sym c.is_number-then-is_number.ensures ∙ c.if-is_number-2.false)

pub returns-else-is_number : goal.returns-else-is_number
unfolding finish_of
returns-else-is_number c = simp (eq-eqb _ _ c.if-ended-eq3.true, sym c.is_number.ensures ∙ c.if-is_number.false)

pub returns-else-ended-eq3 : goal.returns-else-ended-eq3
unfolding finish_of
returns-else-ended-eq3 c = simp (ne_eqb _ _ c.if-ended-eq3.false)
