-- `line_of` meets its contract.
use mathlib.Core.Path.{ap, ◌∙◌}
use mathlib.Core.List.{List}
use Prim.Native.Nat.{ℕ, ◌+◌}
use Rattle.study_reader.specs.Words.{feeds_in, line_of}
use Rattle.study_reader.proofs.WordLaws.{front}
use Rattle.study_reader.proofs.words.line_of.Goals as goal

pub returns : goal.returns
unfolding line_of
returns c = c.line_after.ensures ∙ ap (λ (l : List ℕ). 1 + feeds_in l) (c.bytes_of.ensures ∙ front c.args.text.now c.args.at)
