use borrow.Author.Rules.{rules}
use Rattle.model.specs.Store.{put_target}
use Rattle.model.proofs.store.put_target.Goals as goal

pub returns : goal.returns
unfolding put_target
returns c = search rules
