-- `to_bits` meets its contract: only a NaN differs from itself.
use Rattle.std.proofs.Common.{sym, ap}
use lib.Ieee.{binary32, to_bits}
use Rattle.floats.proofs.NanLaws.{nan-if-differs, no-nan-if-same}
use Rattle.floats.proofs.bits.to_bits.Goals as goal

pub returns-then-x : goal.returns-then-x
unfolding to_bits
returns-then-x c = sym (ap (to_bits binary32) (nan-if-differs _ c.if-x.true))

pub float_to_bits-result : goal.float_to_bits-result
float_to_bits-result c = no-nan-if-same _ c.if-x.false
