-- `katydidzinc_micro_report` meets its contract. A whole number of the report fits 32 bits, so the cast keeps it. Assumes nothing.
use mathlib.Core.Path.{◌≡◌, sym, ap, ◌∙◌}
use native.Mathlib.Nat.{lt_of_lt_of_le}
use lib.Dec.{lit≤}
use lib.IntN.{ℤ}
use mir.Syntax.{w32, w64}
use mir.Val.{SFits, to_z, of_z}
use mir.ValLaws.{to_z-of_z}
use Rattle.capi.specs.MicroNumber.{number_of}
use Rattle.capi.proofs.katydidzinc_micro_report.Goals as goal
use Rattle.capi.proofs.katydidzinc_micro_report.Goals.{In-Whole}

wider : (z : ℤ) → SFits w32 z → SFits w64 z
wider z h = record { sfits = lt_of_lt_of_le h.sfits (lit≤ tt) }

-- what owning the report tells of its number
fits : (c : In-Whole) → SFits w32 c.in-Whole.n
fits c = let e = rw c.in-Whole.is at c.micro_report-report.type_inv in record { sfits = e.1.1.1.1.0.1 }

-- the number, as the machine reads it back from its bits
read : (c : In-Whole) → to_z w32 (of_z w32 c.in-Whole.n) ≡ c.in-Whole.n
read c = to_z-of_z w32 c.in-Whole.n (fits c)

pub returns-in-Whole : goal.returns-in-Whole
returns-in-Whole c =
    let z = c.in-Whole.n in
    ap (λ (a : ℤ). to_z w64 (of_z w64 a)) (read c)
    ∙ to_z-of_z w64 z (wider z (fits c))
    ∙ ap number_of (sym c.in-Whole.is ∙ c.micro_report-report.ensures)

pub returns-in-Over : goal.returns-in-Over
returns-in-Over c = ap number_of (sym c.in-Over.is ∙ c.micro_report-report.ensures)

pub returns-in-Nan : goal.returns-in-Nan
returns-in-Nan c = ap number_of (sym c.in-Nan.is ∙ c.micro_report-report.ensures)
