-- `series` meets its contract. The invariant: what the terms left add to the sum is the whole series, there is room for the next term, and every power before it was not zero.
use Rattle.std.proofs.Common.{◌≡◌, ◌-◌, ◌≤◌}
use Rattle.floats.specs.Angle.{series_from, term_count, power, nonzero_powers}
use Rattle.floats.proofs.Series.{Safe}
use Rattle.floats.proofs.angle.series.Given as goal

abbrev pub invariant-loop-k : goal.invariant-loop-k
invariant-loop-k l =
    (l.k ≤ term_count) × (l.p ≤ l.w) × Safe l.w l.k l.p l.sum × (series_from (term_count - l.k) l.k l.u l.p l.sum ≡ series_from term_count 0 l.u l.w 0) × (l.p ≡ power l.w l.k) × (nonzero_powers l.w l.k ≡ l.k)
