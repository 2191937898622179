-- `put_table` meets its contract: the records from k on are left to write.
use Rattle.std.proofs.Common.{◌≡◌, length}
use Rattle.texts.proofs.SinkLaws.{Rest}
use Rattle.motor_table.specs.Text.{entries_of, text_of}
use Rattle.motor_table.proofs.TextLaws.{rest-text}
use Rattle.motor_table.proofs.text.put_table.Given as goal

abbrev pub invariant-loop-k : goal.invariant-loop-k
invariant-loop-k l = (length l.out ≡ length l.initial.out) × Rest l.initial.out 0 (text_of (entries_of l.table)) l.out l.end (rest-text l.table l.k)
