-- `put_words` meets its contract, a place a turn.
use Rattle.std.proofs.Common.{◌≡◌, length}
use Rattle.seeded.specs.Seeded.{word_place}
use Rattle.seeded.specs.Left.{front}
use Rattle.seeded.proofs.seeded.put_words.Given as goal

abbrev pub invariant-loop-p : goal.invariant-loop-p
invariant-loop-p l = (length l.words ≡ length l.initial.words) × (l.words ≡ front l.p (word_place l.seed) l.initial.words)
