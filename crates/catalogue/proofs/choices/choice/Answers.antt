-- `choice` meets its contract.
use borrow.Author.Rules.{rules}
use Rattle.catalogue.specs.Choices.{choice_of}
use Rattle.catalogue.proofs.choices.choice.Goals as goal

pub returns : goal.returns
unfolding choice_of
returns c = search rules
