-- `flag_of` meets its contract: its test is the specification's.
use borrow.Author.Rules.{rules}
use Rattle.capi.specs.CallExports.{flag}
use Rattle.capi.proofs.calls.flag_of.Goals as goal

pub returns : goal.returns
unfolding flag
returns c = search rules
