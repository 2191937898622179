-- `same_words` meets its contract.
use mathlib.Core.Path.{ap, ◌∙◌}
use mathlib.Core.List.{List}
use Prim.Native.Nat.{ℕ}
use Rattle.study_reader.specs.Words.{same_bytes, bytes_of, same_words}
use Rattle.study_reader.proofs.words.same_words.Goals as goal

pub returns : goal.returns
unfolding same_words
returns c =
    let a = c.args in
    c.same_bytes.ensures ∙ ap (λ (l : List ℕ). same_bytes l c.bytes_of-2.result.now) c.bytes_of.ensures ∙ ap (λ (l : List ℕ). same_bytes (bytes_of a.text.now a.a) l) c.bytes_of-2.ensures
