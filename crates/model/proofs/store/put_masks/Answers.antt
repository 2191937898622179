use native.Mathlib.Omega.{arith}
use lib.ListN.{length-set}
use borrow.Author.Rules.{rules}
use Rattle.model.specs.Store.{put_masks}
use Rattle.model.proofs.store.put_masks.Goals as goal

pub bounds-words-o-2 : goal.bounds-words-o-2
bounds-words-o-2 c = simp length-set (omega arith)

pub bounds-words-o-3 : goal.bounds-words-o-3
bounds-words-o-3 c = simp length-set (omega arith)

pub bounds-words-o-4 : goal.bounds-words-o-4
bounds-words-o-4 c = simp length-set (omega arith)

pub returns : goal.returns
unfolding put_masks
returns c = search rules
