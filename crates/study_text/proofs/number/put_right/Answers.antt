-- `put_right` meets its contract.
use mathlib.Core.Path.{ap}
use Prim.Native.Nat.{ℕ}
use lib.ListN.{replicate}
use Rattle.texts.specs.Ascii.{SPACE}
use Rattle.texts.proofs.SinkLaws.{appended_then, appended-text}
use Rattle.study_text.specs.Number.{right_column}
use Rattle.study_text.proofs.number.put_right.Goals as goal

pub returns : goal.returns
unfolding right_column
returns c = appended_then (appended_then (appended-text (ap (λ (n : ℕ). replicate n SPACE) c.blanks_before.ensures) c.put_blanks-a.ensures) c.put_text-b.ensures) c.put_byte.ensures
