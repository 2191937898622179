-- `after_bytes` meets its contract. The loop's invariant: where the word ends from `at` on it ends from the start.
use mathlib.Core.Path.{◌≡◌}
use Rattle.study_reader.specs.Words.{after_bytes}
use Rattle.study_reader.proofs.words.after_bytes.Given as goal

abbrev pub invariant-loop-at : goal.invariant-loop-at
invariant-loop-at l = after_bytes l.text l.at ≡ after_bytes l.text l.from
