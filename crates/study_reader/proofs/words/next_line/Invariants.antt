-- `next_line` meets its contract. The loop's invariant: the line that starts after `at` starts after the start.
use mathlib.Core.Path.{◌≡◌}
use Rattle.study_reader.specs.Words.{next_line}
use Rattle.study_reader.proofs.words.next_line.Given as goal

abbrev pub invariant-loop-at : goal.invariant-loop-at
invariant-loop-at l = next_line l.text l.at ≡ next_line l.text l.from
