use borrow.Author.Tests.{ne_eqb, eq-eqb}
use Rattle.model.specs.Store.{center_at}
use Rattle.model.proofs.store.center_at.Goals as goal

pub returns-then-words-j-eq0 : goal.returns-then-words-j-eq0
unfolding center_at
returns-then-words-j-eq0 c = simp (eq-eqb _ _ c.if-words-j-eq0.true)

pub returns : goal.returns
unfolding center_at
returns c = simp (ne_eqb _ _ c.if-words-j-eq0.false)
