-- `put_column` meets its contract.
use mathlib.Core.Path.{ap, ◌∙◌}
use Prim.Native.Nat.{ℕ}
use mathlib.Core.List.{◌++◌}
use lib.ListN.{replicate}
use Rattle.texts.specs.Ascii.{SPACE}
use Rattle.texts.proofs.SinkLaws.{appended_then, appended-text}
use Rattle.study_text.proofs.WordsLaws.{column-blanks}
use Rattle.study_text.proofs.row.put_column.Goals as goal

pub returns : goal.returns
returns c = appended-text (ap (λ (n : ℕ). c.args.text.now ++ replicate n SPACE) c.blanks_after.ensures ∙ column-blanks _ _) (appended_then c.put_text-end.ensures c.put_blanks.ensures)
