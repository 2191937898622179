-- What one record says: joint, axis, target velocity in thousandths.
use Rattle.std.specs.Prelude.{ℕ, ◌-◌, Bool, not, ◌&&◌, List, [], ◌∷◌, length, drop, nat_lt, Result, Ok, Err}
use Rattle.std.proofs.Math.Option.{Option, none, some}
use Rattle.motor_table.specs.Rfc4180.{Parsed, first_record}
use Rattle.motor_table.specs.Rfc4180.Parsed.{fields, broken}
use Rattle.motor_table.specs.WholeNumber.{whole_number}
use Rattle.motor_table.specs.declared.whole_number.Number.{Number}
use Rattle.motor_table.specs.declared.record.Entry.{Entry}
use Rattle.motor_table.specs.declared.record.RecordRead.{RecordRead}
use Rattle.motor_table.specs.declared.refusal.TableRefusal.{TableRefusal}
use Rattle.motor_table.specs.declared.refusal.TableRefusal.TheVariants.{Broken, NotThreeNumbers}

unfoldable pub entry_of : Option Number → Option Number → Option Number → Option Entry
entry_of none b c = none
entry_of (some a) none c = none
entry_of (some a) (some b) none = none
entry_of (some a) (some b) (some c) = some (record { joint = a; axis = b; thousandths = c })

-- exactly three whole numbers
unfoldable pub three_numbers : List (List ℕ) → Option Entry
three_numbers [] = none
three_numbers (a ∷ []) = none
three_numbers (a ∷ b ∷ []) = none
three_numbers (a ∷ b ∷ c ∷ []) = entry_of (whole_number a) (whole_number b) (whole_number c)
three_numbers (a ∷ b ∷ c ∷ d ∷ more) = none

-- The joint and the axis are there: the model has so many joints, and a joint has three axes.
abbrev pub is_present : ℕ → Entry → Bool
is_present joints e = not e.joint.negative && nat_lt e.joint.size joints && not e.axis.negative && nat_lt e.axis.size 3

-- The record that starts at a position, as the program answers it: its numbers, and where the next one starts; or why there are none.
unfoldable pub read_numbers : ℕ → List ℕ → Option Entry → Result RecordRead TableRefusal
read_numbers n rest none = Err NotThreeNumbers
read_numbers n rest (some e) = Ok (record { entry = e; next = n - length rest })

unfoldable pub read_fields : ℕ → Parsed → Result RecordRead TableRefusal
read_fields n broken = Err Broken
read_fields n (fields f fs rest) = read_numbers n rest (three_numbers (f ∷ fs))

abbrev pub read_at : List ℕ → ℕ → Result RecordRead TableRefusal
read_at s at = read_fields (length s) (first_record (drop at s))
