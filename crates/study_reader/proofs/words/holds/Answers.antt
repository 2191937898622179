-- `holds` meets its contract.
use mathlib.Core.Path.{ap, ◌∙◌}
use mathlib.Core.List.{List}
use Prim.Native.Nat.{ℕ}
use Rattle.study_reader.specs.Words.{has, holds_byte}
use Rattle.study_reader.proofs.words.holds.Goals as goal

pub returns : goal.returns
unfolding holds_byte
returns c = c.has_byte.ensures ∙ ap (λ (l : List ℕ). has l c.args.b) c.bytes_of.ensures
