-- `read_text` meets its contract: the bytes read so far stand in the text.
use Rattle.std.proofs.Common.{◌≤◌, length}
use Rattle.cases.proofs.read_text.Given as goal

abbrev pub invariant-loop-turn : goal.invariant-loop-turn
invariant-loop-turn l = l.at ≤ length l.text
