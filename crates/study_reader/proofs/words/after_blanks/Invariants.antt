-- `after_blanks` meets its contract. The loop's invariant: what stands after the blanks from `at` on stands after those from the start.
use mathlib.Core.Path.{◌≡◌}
use Rattle.study_reader.specs.Words.{after_blanks}
use Rattle.study_reader.proofs.words.after_blanks.Given as goal

abbrev pub invariant-loop-at : goal.invariant-loop-at
invariant-loop-at l = after_blanks l.text l.at ≡ after_blanks l.text l.from
