-- `katydidzinc_sine` meets its contract: an entry of the list that the table is.
use mathlib.Core.Path.{ap, ◌∙◌}
use mathlib.Core.List.{List}
use Prim.Native.Nat.{ℕ}
use lib.ListN.{get_or}
use borrow.Author.Tests.{le-leb, lt-leb}
use Rattle.floats.proofs.SinesLaws.{entry-is}
use Rattle.comparison.proofs.sin_cos.katydidzinc_sine.Goals as goal

pub returns-then-k-gt4096 : goal.returns-then-k-gt4096
returns-then-k-gt4096 c = simp (lt-leb _ _ c.if-k-gt4096.true)

pub returns : goal.returns
returns c =
    let k = c.args.k in
    simp (le-leb _ _ c.if-k-gt4096.false) (ap (λ (t : List ℕ). get_or t k 0) c.sines-table.ensures ∙ entry-is k c.if-k-gt4096.false)
