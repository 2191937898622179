use Rattle.std.proofs.Common.{◌≡◌, ℕ, ◌+◌, ◌-◌, ◌*◌, ◌/◌, ◌^◌, sym, refl, ap, ◌∙◌, subst, le_trans, mul-le-mul, arith}
use Rattle.floats.specs.Angle.{series_from, term_count, with_term, power, nonzero_powers}
use Rattle.floats.proofs.Series.{Safe, room-even, room-odd, with-even, with-odd, safe-first, safe-next, next_le, square_le, turn, power-next, count_next, stopped, finished}
use Rattle.floats.proofs.angle.series.Goals as goal
use Rattle.floats.proofs.angle.series.Goals.{then-k-eq0, else-k-eq0}

pub overflow_mul-u : goal.overflow_mul-u
overflow_mul-u c = omega (arith, mul-le-mul c.requires c.requires)

pub loop-k-init : goal.loop-k-init
unfolding power nonzero_powers
loop-k-init c = (omega arith, omega arith, safe-first c.args.w, refl, refl, refl)

pub overflow_add-sum : goal.overflow_add-sum
overflow_add-sum c =
    let l = c.loop-k in
    let s = c in
    omega (arith, room-even s.args.w l.k l.p l.sum c.if-k-eq0.true l.invariant.2, s.requires)

pub overflow_sub-sum : goal.overflow_sub-sum
overflow_sub-sum c =
    let l = c.loop-k in
    room-odd c.args.w l.k l.p l.sum c.if-k-eq0.false l.invariant.2

pub overflow_mul-p : goal.overflow_mul-p
overflow_mul-p c =
    let s = c in
    let l = c.loop-k in
    omega (arith, mul-le-mul (le_trans l.invariant.1 s.requires) (square_le s.args.w s.requires))

pub loop-k-preserved : goal.loop-k-preserved
loop-k-preserved c =
    let s = c in
    let l = c.loop-k in
    let w = s.args.w in
    let u = w * w / 2 ^ 30 in
    let e : c.if-k-eq0.sum ≡ with_term l.k l.p l.sum =
    elim c.if-k-eq0.branch [ then-k-eq0 v ↦ v.sum-is ∙ sym (with-even l.k l.p l.sum v.if-k-eq0.true) | else-k-eq0 v ↦ v.sum-is ∙ sym (with-odd l.k l.p l.sum v.if-k-eq0.false) ] in
    let n : power w l.k ≡ 0 → ⊥ = λ z. let e : l.p ≡ 0 = l.invariant.4 ∙ z in omega (arith, e, c.if-p-eq0.false) in (
      omega arith,
      le_trans (next_le l.p u (square_le w s.requires)) l.invariant.1,
      subst (λ (x : ℕ). Safe w (l.k + 1) (l.p * u / 2 ^ 30) x) (sym e) (safe-next w l.k u l.p l.sum (square_le w s.requires) l.invariant.2),
      ap (λ (x : ℕ). series_from (term_count - (l.k + 1)) (l.k + 1) u (l.p * u / 2 ^ 30) x) e ∙ sym (turn l.k u l.p l.sum (omega arith)) ∙ l.invariant.3,
      ap (λ (x : ℕ). x * u / 2 ^ 30) l.invariant.4 ∙ sym (power-next w l.k),
      count_next w l.k n l.invariant.5,
    )

-- stopped at a zero power
pub returns-then-p-eq0 : goal.returns-then-p-eq0
returns-then-p-eq0 c =
    let l = c.loop-k in
    let w = c.args.w in
    stopped w l.k l.p l.sum l.invariant.0 c.if-p-eq0.true l.invariant.3 l.invariant.4 l.invariant.5

-- after the last term
pub returns : goal.returns
returns c =
    let l = c.loop-k in
    let w = c.args.w in
    let all : l.k ≡ term_count = omega arith in
    ap (λ (k : ℕ). record { sum = l.sum; terms = k }) (sym all) ∙ finished w l.k l.p l.sum l.invariant.0 (omega arith) l.invariant.3 l.invariant.5
