-- `guess_down` meets its contract.
use lib.Count.{leading_le}
use Rattle.decimals.proofs.rounding.guess_down.Goals as goal

pub overflow_sub-digits : goal.overflow_sub-digits
overflow_sub-digits c = leading_le 64 c.args.w
