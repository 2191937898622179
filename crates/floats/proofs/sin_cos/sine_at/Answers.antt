-- `sine_at` meets its contract. The table lent is the list of entries, of which each is below the next.
use Rattle.std.proofs.Common.{◌≡◌, ℕ, ◌+◌, ◌*◌, ◌/◌, ◌%◌, ◌<◌, ◌≤◌, Bool, cond, List, get_or, sym, ap, ◌∙◌, mod-lt, arith, lit<, eq-eqb, ne_eqb}
use Rattle.floats.specs.Angle.{quarter_turn}
use Rattle.floats.specs.Sines.{quarter_parts, sine_entry}
use Rattle.floats.specs.SinCos.{line_of, sine_at}
use Rattle.floats.proofs.SinesLaws.{rises, entry-is}
use Rattle.floats.proofs.sin_cos.sine_at.Goals as goal
use Rattle.floats.proofs.sin_cos.sine_at.Goals.{Start}

-- the number of the entry before p
abbrev entry : ℕ → ℕ
entry p = quarter_parts * p / quarter_turn

-- an entry of the table as it was lent
lent : (c : Start) (k : ℕ) → k ≤ quarter_parts → get_or c.args.table.now k 0 ≡ sine_entry k
lent c k h = ap (λ (t : List ℕ). get_or t k 0) c.requires.0 ∙ entry-is k h

pub returns-then-k-eq-PARTS : goal.returns-then-k-eq-PARTS
unfolding sine_at
returns-then-k-eq-PARTS c =
    let s = c.before.before.before.before in
    let k = entry s.args.p in
    lent s k (omega arith) ∙ sym (ap (λ (b : Bool). cond b (sine_entry k) (line_of (sine_entry k) (sine_entry (k + 1)) (quarter_parts * s.args.p % quarter_turn))) (eq-eqb k quarter_parts c.if-k-eq-PARTS.true))

pub line-requires : goal.line-requires
line-requires c =
    let s = c.before.before.before.before.before in
    let k = entry s.args.p in
    let h : k < quarter_parts = omega arith in
    (omega (arith, lent s k (omega arith), lent s (k + 1) (omega arith), rises k h), mod-lt (quarter_parts * s.args.p) (lit< tt))

pub returns : goal.returns
unfolding sine_at
returns c =
    let s = c.before.before.before.before.before.before in
    let k = entry s.args.p in
    c.line.ensures
    ∙ ap (λ (x : ℕ). line_of x (get_or s.args.table.now (k + 1) 0) (quarter_parts * s.args.p % quarter_turn)) (lent s k (omega arith))
    ∙ ap (λ (x : ℕ). line_of (sine_entry k) x (quarter_parts * s.args.p % quarter_turn)) (lent s (k + 1) (omega arith))
    ∙ sym (ap (λ (b : Bool). cond b (sine_entry k) (line_of (sine_entry k) (sine_entry (k + 1)) (quarter_parts * s.args.p % quarter_turn))) (ne_eqb k quarter_parts c.if-k-eq-PARTS.false))
