-- `next_word` meets its contract.
use mathlib.Core.Path.{ap, ◌∙◌}
use Prim.Native.Nat.{ℕ}
use Rattle.study_reader.specs.Words.{after_bytes, next_word}
use Rattle.study_reader.specs.declared.words.Word.{Word}
use Rattle.study_reader.proofs.words.next_word.Goals as goal

abbrev word : ℕ → ℕ → Word
word s e = record { start = s; end = e }

pub returns : goal.returns
unfolding next_word
returns c = ap (λ (e : ℕ). word c.after_blanks-start.result e) c.after_bytes-end.ensures ∙ ap (λ (s : ℕ). word s (after_bytes c.args.text.now s)) c.after_blanks-start.ensures
