-- `number_after` meets its contract.
use mathlib.Core.Path.{ap, ◌∙◌}
use Prim.Native.Nat.{ℕ}
use Rattle.std.specs.Prelude.{Option}
use Rattle.std.specs.Option.{unwrap_or}
use Rattle.study_reader.specs.Words.{whole_of}
use Rattle.study_reader.specs.Tables.{number_after}
use Rattle.study_reader.specs.declared.words.Word.{Word}
use Rattle.study_reader.proofs.tables.number_after.Goals as goal

pub returns : goal.returns
unfolding number_after
returns c =
    let a = c.args in
    c.unwrap_or.ensures ∙ ap (λ (n : Option ℕ). unwrap_or n a.other) (c.whole_number.ensures ∙ ap (λ (v : Word). whole_of a.table.now v) c.next_word.ensures)
