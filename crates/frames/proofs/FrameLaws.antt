-- A frame's parts as the program runs them: a substep by its calls, the loop over the substeps, and the frame's rules.
use Rattle.std.proofs.Common.{◌≡◌, ℕ, zero, suc, ◌+◌, ◌-◌, ◌<◌, ◌≤◌, Bool, true, false, ◌≢◌, List, [], ◌∷◌, length, pos, refl, sym, ap, ◌∙◌, arith, le-ltb, lt-ltb, eq-eqb, ne_eqb, Option}
use lib.Ieee.{Float, binary32, of_int}
use Rattle.floats.specs.Operators.{◌⊘◌}
use Rattle.multibody.specs.Rules.{Rule, rule, refusal}
use Rattle.multibody.specs.Model.{Model, most_bodies, with_bodies}
use Rattle.multibody.specs.Counts.{body_count}
use Rattle.multibody.specs.Refusals.{finite_warm}
use Rattle.multibody.specs.Calls.{Answer, Outcome, outcome, run, handed_rules}
use Rattle.multibody.specs.Calls.Call.{build, warm_start, sweep, remove_bias, write_back}
use Rattle.multibody.specs.Calls.Change.{none}
use Rattle.multibody.specs.Calls.Answer.{refused}
use Rattle.multibody.proofs.RuleLaws.{no-rules, rule-holds, rule-fails, granted-append, refused-append}
use Rattle.multibody.proofs.RefusalLaws.{first-numbered}
use Rattle.multibody.proofs.CountLaws.{same-bodies}
use Rattle.model.specs.Planar.{plane, planar}
use Rattle.model.specs.Model.{model_of}
use Rattle.multibody.proofs.CallLaws.{too_many, few-rounds}
use Rattle.model.proofs.PlanarLaws.{planar-laws}
use Rattle.multibody.specs.declared.header.Header.{Header}
use Rattle.frames.specs.Moving.{moved, move_from}
use Rattle.frames.specs.Frames.{most_substeps, with_dt, substep_of, Moment, moment, leaves, Progress, progress, before_move, move_of, after_move, substep, substeps, steps_of, all_substeps, substeps_rule, own_rules, finite_frame, frame_rules, granted_frame, run_frame, header_with_dt, is_step}

-- ---- one substep

-- what an outcome leaves
abbrev left_by : Outcome plane → Moment
left_by o = moment o.after o.rows

module _ (warm : Option Float) (sweeps i : ℕ) (s : Moment) where
  pub before-move : {m1 m2 m3 : Model} {r1 r2 r3 : List Float} {a1 a2 a3 : Answer plane} → outcome a1 m1 r1 ≡ run planar (build warm i) s.model s.rows
      → outcome a2 m2 r2 ≡ run planar warm_start m1 r1 → outcome a3 m3 r3 ≡ run planar (sweep sweeps) m2 r2 → moment m3 r3 ≡ before_move warm sweeps i s
  unfolding before_move
  before-move e1 e2 e3 = ap left_by e3 ∙ ap (leaves (sweep sweeps)) (ap left_by e2 ∙ ap (leaves warm_start) (ap left_by e1))

  module _ {t : Moment} (e : t ≡ before_move warm sweeps i s) {b : List Float} where
    pub substep-stops : moved b false ≡ move_from t.model.params.dt 0 (body_count plane t.model.bodies) t.model.bodies
        → progress false (moment (with_bodies t.model b) t.rows) (refused 6) ≡ substep warm sweeps i s
    unfolding substep move_of
    substep-stops d = rw (← e, ← d)

    pub substep-goes : {p : Progress} → moved b true ≡ move_from t.model.params.dt 0 (body_count plane t.model.bodies) t.model.bodies
        → p ≡ after_move sweeps (moment (with_bodies t.model b) t.rows) → p ≡ substep warm sweeps i s
    unfolding substep move_of
    substep-goes d f = rw (← e, ← d) f

pub after-move : (sweeps : ℕ) {m m2 : Model} (rows : List Float) {r1 r2 : List Float} {a1 a2 : Answer plane} → outcome a1 m r1 ≡ run planar remove_bias m rows → outcome a2 m2 r2 ≡ run planar (sweep sweeps) m r1
    → progress true (moment m2 r2) a2 ≡ after_move sweeps (moment m rows)
unfolding after_move
after-move sweeps rows e1 e2 =
    ap (λ (o : Outcome plane). progress true (left_by o) o.answer) (e2 ∙ ap (λ (t : Moment). run planar (sweep sweeps) t.model t.rows) (ap left_by e1))

-- ---- the loop over the substeps

module _ (warm : Option Float) (sweeps i n : ℕ) (p : Progress) where
  pub no-substep : n ≤ i → substeps warm sweeps i (n - i) p ≡ p
  unfolding substeps
  no-substep g =
      let z : n - i ≡ 0 = omega arith in
      rw z

  pub next-substep : i < n → p.finite ≡ true → {q : Progress} → q ≡ substep warm sweeps i p.left
      → substeps warm sweeps i (n - i) p ≡ substeps warm sweeps (i + 1) (n - (i + 1)) q
  unfolding substeps
  next-substep g f e =
      let z : n - i ≡ suc (n - (i + 1)) = omega arith in
      rw (z, f, e)

module _ (warm : Option Float) (sweeps : ℕ) where
  -- what stopped stays as it is
  pub stopped : (n i : ℕ) (p : Progress) → p.finite ≡ false → substeps warm sweeps i n p ≡ p
  unfolding substeps
  stopped zero i p e = refl
  stopped (suc n) i p e = rw e

  pub once-stopped : (n i : ℕ) (p : Progress) → p.finite ≡ false → (substeps warm sweeps i n p).finite ≡ false
  unfolding substeps
  once-stopped zero i p e = e
  once-stopped (suc n) i p e = rw e

  -- so a substep that stops is the last
  pub stops : (n i : ℕ) (p : Progress) {all : Progress} {rows : List Float} → substeps warm sweeps i n p ≡ all → p.finite ≡ false → p.left.rows ≡ rows → (all.finite ≡ false) × (all.left.rows ≡ rows)
  stops n i p h f r =
      let e = sym h ∙ stopped n i p f in
      rw e (f, r)

pub first-substep : (warm : Option Float) (sweeps n : ℕ) (s : Moment) {p : Progress} → p ≡ substep warm sweeps 0 s → substeps warm sweeps 1 (n - 1) p ≡ steps_of warm sweeps n s
unfolding steps_of
first-substep warm sweeps n s e = rw e

-- ---- the rules

module _ (rest : List Rule) (n : ℕ) where
  pub no-substeps : n ≡ 0 → 16 ≡ refusal (substeps_rule n ∷ rest)
  unfolding substeps_rule
  no-substeps e = sym (rule-fails (substeps_rule n) rest (rw (eq-eqb n 0 e)))

  pub too-many-substeps : n ≢ 0 → most_substeps < n → 16 ≡ refusal (substeps_rule n ∷ rest)
  unfolding substeps_rule
  too-many-substeps z g = sym (rule-fails (substeps_rule n) rest (rw (ne_eqb n 0 z, lt-ltb most_substeps n g)))

  pub some-substeps : n ≢ 0 → n ≤ most_substeps → refusal (substeps_rule n ∷ rest) ≡ refusal rest
  unfolding substeps_rule
  some-substeps z g = rule-holds (substeps_rule n) rest (rw (ne_eqb n 0 z, le-ltb most_substeps n g))

module _ (warm : Option Float) (sweeps n : ℕ) (m : Model) (rows : List Float) where
  abbrev front : List Rule
  front = handed_rules planar true m none (finite_warm warm) rows

  abbrev finite : Bool
  finite = finite_frame warm sweeps n m rows

  frame_refused : {k : ℕ} → k ≡ refusal (frame_rules warm sweeps n m rows) → k ≢ 0 → outcome (refused k) m rows ≡ run_frame warm sweeps n m rows
  unfolding run_frame
  frame_refused {k} e z = rw (← e, ne_eqb k 0 z)

  module _ {k : ℕ} (e : k ≡ refusal front) where
    pub refused-front : k ≢ 0 → outcome (refused k) m rows ≡ run_frame warm sweeps n m rows
    unfolding frame_rules
    refused-front z =
        frame_refused (e ∙ sym (refused-append front (own_rules sweeps n finite) (λ d. z (e ∙ d)))) z

    own-decide : k ≡ 0 → refusal (frame_rules warm sweeps n m rows) ≡ refusal (own_rules sweeps n finite)
    unfolding frame_rules
    own-decide z = granted-append front (own_rules sweeps n finite) (first-numbered planar-laws m (build warm 0) rows) (sym e ∙ z)

    module _ (z : k ≡ 0) where
      pub refused-rounds : 64 < sweeps → outcome (refused 9) m rows ≡ run_frame warm sweeps n m rows
      refused-rounds g = frame_refused (too_many _ sweeps g ∙ sym (own-decide z)) (omega arith)

      module _ (f : sweeps ≤ 64) where
        pub refused_none : n ≡ 0 → outcome (refused 16) m rows ≡ run_frame warm sweeps n m rows
        refused_none g = frame_refused (no-substeps _ n g ∙ sym (few-rounds _ sweeps f) ∙ sym (own-decide z)) (omega arith)

        module _ (o : n ≢ 0) where
          pub refused-many : most_substeps < n → outcome (refused 16) m rows ≡ run_frame warm sweeps n m rows
          refused-many g = frame_refused (too-many-substeps _ n o g ∙ sym (few-rounds _ sweeps f) ∙ sym (own-decide z)) (omega arith)

          module _ (g : n ≤ most_substeps) where
            last-decides : refusal (frame_rules warm sweeps n m rows) ≡ refusal (rule 6 finite ∷ [])
            last-decides = own-decide z ∙ few-rounds _ sweeps f ∙ some-substeps _ n o g

            pub rules-hold : finite ≡ true → refusal (frame_rules warm sweeps n m rows) ≡ 0
            rules-hold d = last-decides ∙ rule-holds (rule 6 finite) [] d ∙ no-rules

            -- the first new pose that is not finite refuses the frame as 6 does
            pub refused-move : finite ≡ false → outcome (refused 6) m rows ≡ run_frame warm sweeps n m rows
            refused-move d = frame_refused (sym (rule-fails (rule 6 finite) [] d) ∙ sym last-decides) (omega arith)

            pub frame-granted : finite ≡ true → granted_frame warm sweeps n m rows ≡ run_frame warm sweeps n m rows
            unfolding run_frame
            frame-granted d =
                let k = rules-hold d in
                rw k

            -- its substep is no timestep; a new pose is not finite; neither
            pub refused-step : is_step (substep_of m.params.dt n) ≡ false → outcome (refused 6) m rows ≡ run_frame warm sweeps n m rows
            refused-step d = refused-move (rw d)

            module _ (step : is_step (substep_of m.params.dt n) ≡ true) where
              pub refused-pose : (all_substeps warm sweeps n m rows).finite ≡ false → outcome (refused 6) m rows ≡ run_frame warm sweeps n m rows
              refused-pose d = refused-move (rw (step, d))

              pub all-hold : (all_substeps warm sweeps n m rows).finite ≡ true → refusal (frame_rules warm sweeps n m rows) ≡ 0
              all-hold d = rules-hold (rw (step, d))

              pub frame-grants : (all_substeps warm sweeps n m rows).finite ≡ true → granted_frame warm sweeps n m rows ≡ run_frame warm sweeps n m rows
              frame-grants d = frame-granted (rw (step, d))

-- as many bodies as before
pub still-few : (b b' : List Float) → length b' ≡ length b → body_count plane b ≤ most_bodies → body_count plane b' ≤ most_bodies
still-few b b' e h = rw (same-bodies plane b b' e) h

-- ---- a frame from its header

module _ (warm : Option Float) (sweeps n : ℕ) (header : Header) (bodies : List Float) (words : List ℕ) (numbers rows : List Float) where
  pub start-steps : {h : Header} {q : Float} → h ≡ header_with_dt header (header.params.dt ⊘ q) → q ≡ of_int binary32 (pos n)
      → steps_of warm sweeps n (moment (model_of h bodies words numbers) rows) ≡ all_substeps warm sweeps n (model_of header bodies words numbers) rows
  unfolding all_substeps
  start-steps e d =
      ap (λ (h : Header). steps_of warm sweeps n (moment (model_of h bodies words numbers) rows)) (e ∙ ap (λ (q : Float). header_with_dt header (header.params.dt ⊘ q)) d)

pub granted-frame : (warm : Option Float) (sweeps n : ℕ) (m : Model) (rows : List Float) {p : Progress} {a : Answer plane} {m2 : Model} {r2 : List Float} → p ≡ all_substeps warm sweeps n m rows
    → outcome a m2 r2 ≡ run planar write_back p.left.model p.left.rows → outcome p.answer (with_dt m2 m.params.dt) r2 ≡ granted_frame warm sweeps n m rows
unfolding granted_frame
granted-frame warm sweeps n m rows {p} e d =
    ap (λ (o : Outcome plane). outcome p.answer (with_dt o.after m.params.dt) o.rows) d
    ∙ ap (λ (p : Progress). let t = leaves write_back p.left in outcome p.answer (with_dt t.model m.params.dt) t.rows) e
