-- `after_quoted` meets its contract. The loop's invariant: where the quoted bytes end from `at` on they end from the start.
use mathlib.Core.Path.{◌≡◌}
use Rattle.study_reader.specs.Words.{after_quoted}
use Rattle.study_reader.proofs.words.after_quoted.Given as goal

abbrev pub invariant-loop-at : goal.invariant-loop-at
invariant-loop-at l = after_quoted l.text l.at ≡ after_quoted l.text l.from
