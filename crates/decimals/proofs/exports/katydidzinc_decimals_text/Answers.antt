-- The export of `bits_text` meets its contract.
use mathlib.Core.List.{List}
use mathlib.Core.Path.{ap}
use Prim.Native.Nat.{ℕ}
use lib.ListN.{get_or}
use Rattle.decimals.proofs.TextLaws.{text-past}
use Rattle.decimals.proofs.exports.katydidzinc_decimals_text.Goals as goal

pub returns-then-i-lt10 : goal.returns-then-i-lt10
returns-then-i-lt10 c = ap (λ (l : List ℕ). get_or l c.args.i 0) c.bits_text-text.ensures

pub returns : goal.returns
returns c = text-past _ _ c.if-i-lt10.false
