-- Reading a table (request R-6). The first faulty record decides. A record is faulty with 13 where it breaks the grammar or is
-- the 4097th, else with 14 where it is not three whole numbers, else with 15 where its joint or axis is absent.
use Rattle.std.specs.Prelude.{ℕ, zero, suc, ◌+◌, cond, List, [], ◌∷◌, length, Result, Ok, Err}
use Rattle.std.proofs.Math.Option.{Option, none, some}
use Rattle.motor_table.specs.Rfc4180.{first_record}
use Rattle.motor_table.specs.Rfc4180.Parsed.{fields, broken}
use Rattle.motor_table.specs.Records.{three_numbers, is_present}
use Rattle.motor_table.specs.declared.record.Entry.{Entry}
use Rattle.motor_table.specs.Refusals.{refusal_number}
use Rattle.motor_table.specs.declared.refusal.TableRefusal.{TableRefusal}
use Rattle.motor_table.specs.declared.refusal.TableRefusal.TheVariants.{Broken, NotThreeNumbers, Absent}

abbrev pub most_records : ℕ
most_records = 4096

-- the records of a table that is granted, or why it is refused
pub data Table : Type 0 where
  granted : List Entry → Table
  refused : TableRefusal → Table

-- the number of a table's refusal; 0 of one that is granted
unfoldable pub table_refusal : Table → ℕ
table_refusal (granted es) = 0
table_refusal (refused r) = refusal_number r

-- one record, then those that follow it
unfoldable pub after : Entry → Table → Table
after e (granted es) = granted (e ∷ es)
after e (refused r) = refused r

-- rules 14 and 15, of a record whose fields are known; then the rest of the table
unfoldable pub checked : ℕ → Option Entry → Table → Table
checked joints none later = refused NotThreeNumbers
checked joints (some e) later = cond (is_present joints e) (after e later) (refused Absent)

-- no bytes hold no record, so that a last CRLF opens none
unfoldable pub unless_empty : List ℕ → Table → Table
unless_empty [] t = granted []
unless_empty (b ∷ bs) t = t

-- the table that bytes hold, where so many more records may come
unfoldable pub read_from : ℕ → ℕ → List ℕ → Table
read_from joints zero bs = unless_empty bs (refused Broken)
read_from joints (suc left) bs =
    unless_empty bs
    (elim (first_record bs) [ broken ↦ refused Broken | fields f fs rest ↦ checked joints (three_numbers (f ∷ fs)) (read_from joints left rest) ])

abbrev pub read_table : ℕ → List ℕ → Table
read_table joints bs = read_from joints most_records bs

-- the program's answer, where n records went before: how many there are, or the refusal
unfoldable pub table_answer : ℕ → Table → Result ℕ TableRefusal
table_answer n (granted es) = Ok (n + length es)
table_answer n (refused r) = Err r
