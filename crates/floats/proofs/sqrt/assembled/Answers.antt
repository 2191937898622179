-- `assembled` meets its contract: its pattern is no NaN's, and is that of q·2^k units. Assumes nothing.
use Rattle.floats.proofs.Pattern.{pattern, pattern-no-nan}
use Rattle.floats.proofs.sqrt.assembled.Goals as goal

pub float_from_bits-result : goal.float_from_bits-result
float_from_bits-result c = pattern-no-nan c.args.q c.args.k c.requires.0 c.requires.1 c.requires.2

pub returns : goal.returns
returns c = pattern c.args.q c.args.k c.requires.0 c.requires.1 c.requires.2
