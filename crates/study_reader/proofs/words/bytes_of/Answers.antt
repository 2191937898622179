-- `bytes_of` meets its contract.
use mathlib.Core.Logic.{⊎_elim}
use borrow.Author.Rules.{rules}
use Rattle.study_reader.specs.Words.{bytes_of}
use Rattle.study_reader.proofs.WordLaws.{part_none, part-past, part-rest}
use Rattle.study_reader.proofs.words.bytes_of.Goals as goal

pub returns-then-w : goal.returns-then-w
returns-then-w c = ⊎_elim (λ h. part_none c.args.text.now c.args.w h) (λ h. part-past c.args.text.now c.args.w h.1) c.then-w.either

pub returns-then-text-w-2 : goal.returns-then-text-w-2
returns-then-text-w-2 c = part-rest c.args.text.now c.args.w c.if-text-w-2.true

pub returns : goal.returns
unfolding bytes_of
returns c = search rules
