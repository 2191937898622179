-- `put_csv_id` meets its contract.
use mathlib.Core.Path.{ap}
use Prim.Native.Nat.{ℕ}
use Rattle.texts.proofs.SinkLaws.{appended_then, appended-text}
use Rattle.study_text.specs.Csv.{field, unit_of, csv_id}
use Rattle.study_text.proofs.csv.put_csv_id.Goals as goal

pub returns : goal.returns
unfolding csv_id field
returns c = appended_then (appended_then c.put_id-a.ensures c.put_byte-b.ensures) (appended-text (ap (λ (i : ℕ). field (unit_of i)) c.axis_of.ensures) c.put_unit.ensures)
