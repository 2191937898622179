-- `is` meets its contract.
use mathlib.Core.Path.{ap, ◌∙◌}
use mathlib.Core.List.{List}
use Prim.Native.Nat.{ℕ}
use Rattle.study_reader.specs.Words.{same_bytes, is_word}
use Rattle.study_reader.proofs.words.is.Goals as goal

pub returns : goal.returns
unfolding is_word
returns c = c.same_bytes.ensures ∙ ap (λ (l : List ℕ). same_bytes l c.args.name.now) c.bytes_of.ensures
