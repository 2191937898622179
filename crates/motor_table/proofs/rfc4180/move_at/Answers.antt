-- `move_at` meets its contract, place by place.
use Rattle.std.proofs.Common.{eq-eqb, ne_eqb}
use Rattle.motor_table.specs.Rfc4180.{move_at}
use Rattle.motor_table.proofs.rfc4180.move_at.Goals as goal

pub returns-then-b-eq34 : goal.returns-then-b-eq34
unfolding move_at
returns-then-b-eq34 c = simp (c.in-FieldStart.is, eq-eqb _ _ c.if-b-eq34.true)

pub returns-then-b-eq34-2 : goal.returns-then-b-eq34-2
unfolding move_at
returns-then-b-eq34-2 c = simp (c.in-QuoteSeen.is, eq-eqb _ _ c.if-b-eq34-2.true)

pub returns-then-b-eq10 : goal.returns-then-b-eq10
unfolding move_at
returns-then-b-eq10 c = simp (c.in-CrSeen.is, eq-eqb _ _ c.if-b-eq10.true)

pub returns-else-b-eq34 : goal.returns-else-b-eq34
unfolding move_at
returns-else-b-eq34 c = simp (c.in-FieldStart.is, ne_eqb _ _ c.if-b-eq34.false) c.non_escaped.ensures

pub returns-in-NonEscaped : goal.returns-in-NonEscaped
unfolding move_at
returns-in-NonEscaped c = simp c.in-NonEscaped.is c.non_escaped-in-NonEscaped.ensures

pub returns-in-Escaped : goal.returns-in-Escaped
unfolding move_at
returns-in-Escaped c = simp c.in-Escaped.is c.escaped.ensures

pub returns-else-b-eq34-2 : goal.returns-else-b-eq34-2
unfolding move_at
returns-else-b-eq34-2 c = simp (c.in-QuoteSeen.is, ne_eqb _ _ c.if-b-eq34-2.false) c.separator.ensures

pub returns-else-b-eq10 : goal.returns-else-b-eq10
unfolding move_at
returns-else-b-eq10 c = simp (c.in-CrSeen.is, ne_eqb _ _ c.if-b-eq10.false)
