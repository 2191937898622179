-- `read_all` meets its contract. The loop's invariant: the bytes read so far stand in the buffer.
use Rattle.std.proofs.Common.{◌≡◌, ◌≤◌, length}
use Rattle.study.proofs.input.read_all.Given as goal

abbrev pub invariant-loop : goal.invariant-loop
invariant-loop g l = (l.at ≤ length l.buf) × (length l.buf ≡ length l.initial.buf)
