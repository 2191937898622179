-- `put_number` meets its contract.
use mathlib.Core.Path.{ap}
use mathlib.Core.List.{List, ◌∷◌}
use Prim.Native.Nat.{ℕ}
use Rattle.texts.specs.Ascii.{SPACE}
use Rattle.study_writer.specs.Text.{number_word}
use Rattle.texts.proofs.SinkLaws.{appended-text}
use Rattle.study_writer.proofs.lines.put_number.Goals as goal

pub returns : goal.returns
unfolding number_word
returns c = appended-text (ap (λ (t : List ℕ). SPACE ∷ t) c.number_text-word.ensures) c.put_word.ensures
