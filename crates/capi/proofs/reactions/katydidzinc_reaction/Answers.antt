-- `katydidzinc_reaction` meets its contract. The test decides the specification's; past it, what is written follows from what the callees ensure.
use borrow.Author.Tests.{le-leb, lt-leb}
use Rattle.capi.specs.ReactionExports.{reaction_number, reaction_out}
use Rattle.capi.proofs.reactions.katydidzinc_reaction.Goals as goal

pub returns-then-out-lt-REACTION_NUMBERS : goal.returns-then-out-lt-REACTION_NUMBERS
unfolding reaction_number reaction_out
returns-then-out-lt-REACTION_NUMBERS c =
    let e = lt-leb _ _ c.if-out-lt-REACTION_NUMBERS.true in
    record { value = simp e; out_after = simp e }

pub returns : goal.returns
unfolding reaction_number reaction_out
returns c =
    let e = le-leb _ _ c.if-out-lt-REACTION_NUMBERS.false in
    record { value = simp e; out_after = simp e (cc) }
