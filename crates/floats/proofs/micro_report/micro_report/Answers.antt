-- `micro_report::micro_report` meets its contract, by the arms on the parts of the impulse; each answer is a law of `proofs/MicroReportLaws.antt`. Assumes nothing.
use Rattle.std.proofs.Common.{T, sym, ap, ◌∙◌, subst}
use lib.Ieee.{binary32, fits}
use Rattle.floats.specs.MicroReport.{whole_or_over}
use Rattle.floats.proofs.BitsLaws.{Finite-parts, finite-parts}
use Rattle.floats.proofs.MicroReportLaws.{report-nan, report-infinite, report-finite, report-large}
use Rattle.floats.proofs.micro_report.micro_report.Goals as goal
use Rattle.floats.proofs.micro_report.micro_report.Goals.{In-Finite, Start}

-- what owning an `f32` tells: the format holds it
held : (c : Start) → T (fits binary32 c.args.impulse)
held c = subst T (sym c.well_formed.0.1) tt

-- in the arm of a finite number
finite : (c : In-Finite) → Finite-parts c.args.impulse c.in-Finite.negative c.in-Finite.d c.in-Finite.k
finite c =
    finite-parts c.args.impulse c.in-Finite.negative c.in-Finite.d c.in-Finite.k (held c.before.before)
    (sym c.parts_of.ensures ∙ c.in-Finite.is)

pub returns-then-k-ge138 : goal.returns-then-k-ge138
returns-then-k-ge138 c = report-large (finite c.before) c.if-k-ge138.true

pub millionths-requires : goal.millionths-requires
millionths-requires c = ((finite c.before).digits, c.if-k-ge138.false)

pub returns-in-Nan : goal.returns-in-Nan
returns-in-Nan c = report-nan c.args.impulse (sym c.parts_of.ensures ∙ c.in-Nan.is)

pub returns-in-Infinite : goal.returns-in-Infinite
returns-in-Infinite c = report-infinite c.args.impulse c.in-Infinite.field-0 (sym c.parts_of.ensures ∙ c.in-Infinite.is)

pub returns-else-k-ge138 : goal.returns-else-k-ge138
returns-else-k-ge138 c = c.whole_or_over.ensures ∙ ap (whole_or_over c.in-Finite.negative) c.millionths.ensures ∙ sym (report-finite (finite c.before.before.before))
