-- `word_number` meets its contract: the two halves of the words.
use Rattle.std.proofs.Common.{◌^◌, arith, lt-ltb}
use Rattle.motor_table.specs.Text.{word_number}
use Rattle.motor_table.proofs.TextLaws.{high_word}
use Rattle.motor_table.proofs.text.word_number.Goals as goal

pub returns-then-w-lt2147483648 : goal.returns-then-w-lt2147483648
unfolding word_number
returns-then-w-lt2147483648 c = simp (lt-ltb _ (2 ^ 31) c.if-w-lt2147483648.true)

pub returns : goal.returns
unfolding word_number
returns c = high_word c.args.w c.if-w-lt2147483648.false (omega arith)
