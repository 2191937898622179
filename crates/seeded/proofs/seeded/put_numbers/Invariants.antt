-- `put_numbers` meets its contract, a place a turn.
use Rattle.std.proofs.Common.{◌≡◌, length}
use Rattle.seeded.specs.Seeded.{number_place}
use Rattle.seeded.specs.Left.{front}
use Rattle.seeded.proofs.seeded.put_numbers.Given as goal

abbrev pub invariant-loop-p : goal.invariant-loop-p
invariant-loop-p l = (length l.numbers ≡ length l.initial.numbers) × (l.numbers ≡ front l.p (number_place l.seed) l.initial.numbers)
