-- The rule that a refused table breaks, by its number.
use Rattle.std.specs.Prelude.{ℕ}
use Rattle.motor_table.specs.declared.refusal.TableRefusal.{TableRefusal}
use Rattle.motor_table.specs.declared.refusal.TableRefusal.TheVariants.{Broken, NotThreeNumbers, Absent}

abbrev pub refusal_number : TableRefusal → ℕ
refusal_number Broken = 13
refusal_number NotThreeNumbers = 14
refusal_number Absent = 15
