-- `guess_up` meets its contract.
use lib.Count.{leading_le}
use Rattle.decimals.proofs.rounding.guess_up.Goals as goal

pub overflow_sub-result : goal.overflow_sub-result
overflow_sub-result c = leading_le 64 c.args.w
