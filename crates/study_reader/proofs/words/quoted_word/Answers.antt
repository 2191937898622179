-- `quoted_word` meets its contract.
use mathlib.Core.Path.{ap}
use Prim.Native.Nat.{ℕ}
use Rattle.study_reader.specs.declared.words.Word.{Word}
use Rattle.study_reader.proofs.words.quoted_word.Goals as goal

abbrev word : ℕ → ℕ → Word
word s e = record { start = s; end = e }

pub returns : goal.returns
returns c = ap (λ (e : ℕ). word c.args.start e) c.after_quoted-end.ensures
