-- `bits::parts_of` meets its contract. Only a NaN differs from itself; for the rest, `proofs/BitsLaws.antt` says what the three fields of the bits are. Assumes nothing.
use Rattle.std.proofs.Common.{T, sym, ap, subst}
use lib.Ieee.{binary32, fits}
use Rattle.floats.specs.Bits.{parts_of}
use Rattle.floats.proofs.NanLaws.{nan-if-differs, no-nan-if-same}
use Rattle.floats.proofs.BitsLaws.{parts-infinite, parts_low, parts-normal}
use Rattle.floats.proofs.bits.parts_of.Goals as goal
use Rattle.floats.proofs.bits.parts_of.Goals.{Start}

-- what owning an `f32` tells: the format holds it
held : (c : Start) → T (fits binary32 c.args.x)
held c = subst T (sym c.well_formed.0.1) tt

pub returns-then-x : goal.returns-then-x
unfolding parts_of
returns-then-x c = sym (ap parts_of (nan-if-differs c.args.x c.if-x.true))

pub float_to_bits-b : goal.float_to_bits-b
float_to_bits-b c = no-nan-if-same c.args.x c.if-x.false

pub returns-then-field-eq255 : goal.returns-then-field-eq255
returns-then-field-eq255 c = parts-infinite c.args.x (held c.before.before) (no-nan-if-same c.args.x c.if-x.false) c.if-field-eq255.true

pub returns-then-field-eq0 : goal.returns-then-field-eq0
returns-then-field-eq0 c = parts_low c.args.x (held c.before.before.before) (no-nan-if-same c.args.x c.if-x.false) c.if-field-eq0.true

pub returns : goal.returns
returns c = parts-normal c.args.x (held c.before.before.before) (no-nan-if-same c.args.x c.if-x.false) c.if-field-eq255.false c.if-field-eq0.false
