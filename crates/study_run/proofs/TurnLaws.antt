-- Turns run the unrolled calls. What remains at a place is the rest of the level that it stands in, that level's turns that are left, and what follows.
use Rattle.std.specs.Prelude.{Result}
use Prim.Native.Nat.{ℕ, zero, suc, ◌+◌, ◌-◌, ◌≤◌, ◌<◌}
use mathlib.Core.Path.{◌≡◌, refl, sym, ap, subst, ◌∙◌}
use mathlib.Core.Bool.{Bool, true, false, cond}
use mathlib.Core.List.{List, [], ◌∷◌, ◌++◌, append_assoc}
use native.Mathlib.Omega.{arith}
use borrow.Author.Tests.{ne_eqb, le-leb, lt-leb, leb-true, leb-false}
use lib.Dec.{leb}
use lib.ListN.{length}
use Rattle.study_reader.specs.Words.{next_line}
use Rattle.study_reader.proofs.Places.{by_cases, next-line-far}
use Rattle.study_run.specs.Acts.{act_at}
use Rattle.study_run.specs.Unrolled.{acts_from, acts_on, times, first, others, joined, levels, unrolled, closed}
use Rattle.study_run.specs.Study.{Study, Ran, is_refused}
use Rattle.study_run.specs.Runs.{run_call, with_table, runs}
use Rattle.study_run.specs.Places.{place, is_end, skip_from, after_repeat, after_end, place_after}
use Rattle.study_run.specs.Turns.{Turn, turn_as, acted_on, turn_of, said, ended, turns, ends_within}
use Rattle.study_run.specs.Laws.{TurnsRun, Ends, EveryStudyEnds}
use Rattle.study_run.specs.declared.acts.StudyCall.{StudyCall}
use Rattle.study_run.specs.declared.acts.Act.{Act}
use Rattle.study_run.specs.declared.acts.Act.TheVariants.{Nothing, Repeat, End, Call}
use Rattle.study_run.specs.declared.places.Place.{Place}
use Rattle.study_run.specs.declared.runs.Reply.{Reply}
use Rattle.study_run.specs.Turns.Tells.{over, passed, called}

false-not-true : false ≡ true → ⊥
false-not-true h = let z : ◌≡◌ {A = ℕ} 0 1 = cc in omega arith

-- ---- levels

joined-first : (ls : List (List StudyCall)) → joined ls ≡ first ls ++ joined (others ls)
unfolding joined first others
joined-first [] = refl
joined-first (l ∷ ls) = refl

-- at a place with the acts `here`, in a level that starts with the acts `again` and has so many turns left
abbrev remaining : List Act → List Act → ℕ → List StudyCall
remaining here again left = first (levels here) ++ (times left (first (levels again)) ++ joined (others (levels here)))

unfoldable Fits : List Act → List Act → ℕ → Type 0
Fits here again zero = closed false here ≡ true
Fits here again (suc k) = (closed true here ≡ true) × (closed true again ≡ true) × (joined (others (levels here)) ≡ joined (others (levels again)))

-- what is closed in a level is closed outside of one
outside : (here : List Act) → closed true here ≡ true → closed false here ≡ true
unfolding closed
outside [] h = absurd (false-not-true h)
outside (Nothing ∷ rest) h = outside rest h
outside (End ∷ rest) h = h
outside (Call c ∷ rest) h = outside rest h
outside (Repeat n ∷ rest) h = absurd (false-not-true h)

-- a level begins
fits-begun : (again : List Act) (k : ℕ) → closed true again ≡ true → Fits again again k
unfolding Fits
fits-begun again zero h = outside again h
fits-begun again (suc k) h = (h, h, refl)

module _ (rest again : List Act) where
  fits-nothing : (left : ℕ) → Fits (Nothing ∷ rest) again left → Fits rest again left
  unfolding Fits closed levels
  fits-nothing zero f = f
  fits-nothing (suc k) f = f

  fits-call : (c : StudyCall) (left : ℕ) → Fits (Call c ∷ rest) again left → Fits rest again left
  unfolding Fits closed levels others
  fits-call c zero f = f
  fits-call c (suc k) f = f

  on-nothing : (left : ℕ) → remaining (Nothing ∷ rest) again left ≡ remaining rest again left
  unfolding levels
  on-nothing left = refl

  on_call : (c : StudyCall) (left : ℕ) → remaining (Call c ∷ rest) again left ≡ c ∷ remaining rest again left
  unfolding levels first others
  on_call c left = refl

  -- the last turn of a level ends, or none was open
  on-last-end : remaining (End ∷ rest) again 0 ≡ remaining rest again 0
  unfolding levels first others times
  on-last-end = joined-first (levels rest)

  on-end : (k : ℕ) → Fits (End ∷ rest) again (suc k) → remaining (End ∷ rest) again (suc k) ≡ remaining again again k
  unfolding Fits levels first others times
  on-end k f = append_assoc (first (levels again)) (times k (first (levels again))) (joined (levels rest)) ∙ ap (λ (l : List StudyCall). first (levels again) ++ (times k (first (levels again)) ++ l)) f.2

  -- a `repeat` with no other open
  on-repeat : (k : ℕ) → remaining (Repeat (suc k) ∷ rest) again 0 ≡ remaining rest rest k
  unfolding levels first others times
  on-repeat k = rw (joined-first (others (levels rest))) (simp append_assoc)

  at-start : joined (levels rest) ≡ remaining rest again 0
  unfolding times
  at-start = joined-first (levels rest)

  on_none : remaining (Repeat 0 ∷ rest) again 0 ≡ joined (others (levels rest))
  unfolding levels first others times
  on_none = sym (joined-first (others (levels rest)))

-- ---- the acts of a text's lines

module _ (text names : List ℕ) (bodies joints : ℕ) where
  abbrev acts : ℕ → List Act
  acts at = acts_on text names bodies joints at

  abbrev act : ℕ → Act
  act at = act_at text names bodies joints at

  more-lines : (n at : ℕ) → length text ≤ at + n → acts_from text names bodies joints (suc n) at ≡ acts_from text names bodies joints n at
  unfolding acts_from
  more-lines zero at h = rw (le-leb (length text) at (omega arith))
  more-lines (suc n) at h =
      by_cases (leb (length text) at) (λ e. rw e)
      (λ e. rw e (ap (λ (l : List Act). act at ∷ l) (more-lines n (next_line text at) (omega (arith, h, next-line-far text at (leb-false _ _ e))))))

  first-line : (at : ℕ) → at < length text → acts_from text names bodies joints (suc (length text)) at ≡ act at ∷ acts (next_line text at)
  unfolding acts_from
  first-line at h = rw (lt-leb _ _ h)

  no_line : (at : ℕ) → length text ≤ at → acts_from text names bodies joints (suc (length text)) at ≡ []
  unfolding acts_from
  no_line at h = rw (le-leb _ _ h)

  acts-here : {a : Act} (at : ℕ) → at < length text → act at ≡ a → acts at ≡ a ∷ acts (next_line text at)
  acts-here at h e = sym (more-lines (length text) at (omega arith)) ∙ first-line at h ∙ ap (λ (a : Act). a ∷ acts (next_line text at)) e

  acts-over : (at : ℕ) → length text ≤ at → acts at ≡ []
  acts-over at h = sym (more-lines (length text) at (omega arith)) ∙ no_line at h

  -- ---- a `repeat` of no turns is passed over

  record Past (at to : ℕ) : Type 0 where
    follows : joined (others (levels (acts at))) ≡ joined (levels (acts to))
    outside : closed false (acts to) ≡ true

  abbrev skipped : ℕ → ℕ → ℕ
  skipped n at = skip_from text names bodies joints n at

  past-line : (n at : ℕ) (a : Act) → at < length text → act at ≡ a → closed true (acts at) ≡ true
      → (closed true (acts (next_line text at)) ≡ true → Past (next_line text at) (skipped n (next_line text at))) → Past at (skipped (suc n) at)
  unfolding skip_from closed levels others
  past-line n at End h e f ih =
      let q = acts-here at h e in
      rw e (record { follows = rw q; outside = rw q at f })
  past-line n at Nothing h e f ih =
      let q = acts-here at h e in
      let p = ih (rw q at f) in
      rw e (record { follows = rw q p.follows; outside = p.outside })
  past-line n at (Call c) h e f ih =
      let q = acts-here at h e in
      let p = ih (rw q at f) in
      rw e (record { follows = rw q p.follows; outside = p.outside })
  past-line n at (Repeat k) h e f ih =
      let q = acts-here at h e in
      let z : false ≡ true = rw q at f in
      absurd (false-not-true z)

  past : (n at : ℕ) → length text ≤ at + n → closed true (acts at) ≡ true → Past at (skipped n at)
  unfolding closed
  past zero at h f =
      let z : false ≡ true = rw (acts-over at (omega arith)) at f in
      absurd (false-not-true z)
  past (suc n) at h f =
      by_cases (leb (length text) at)
      (λ e. let z : false ≡ true = rw (acts-over at (leb-true (length text) at e)) at f in absurd (false-not-true z))
      (λ e. past-line n at (act at) (leb-false _ _ e) refl f (past n (next_line text at) (omega (arith, h, next-line-far text at (leb-false _ _ e)))))

  -- ---- a turn

  module _ (p : Place) (s : Study) where
    turn-over : length text ≤ p.at → turn_of text names bodies joints p s ≡ turn_as over p s
    unfolding turn_of
    turn-over h = rw (le-leb _ _ h)

    turn-here : {a : Act} → p.at < length text → act p.at ≡ a → turn_of text names bodies joints p s ≡ acted_on joints a (place_after text names bodies joints p a) s
    unfolding turn_of
    turn-here h e = rw (lt-leb _ _ h, e)

    module _ (n : ℕ) (tables : ℕ → List ℕ) where
      turns-over : turn_of text names bodies joints p s ≡ turn_as over p s → turns text names bodies joints (suc n) tables p s ≡ []
      unfolding turns said
      turns-over e = rw e

      turns-pass : {q : Place} → turn_of text names bodies joints p s ≡ turn_as passed q s → turns text names bodies joints (suc n) tables p s ≡ turns text names bodies joints n tables q s
      unfolding turns said
      turns-pass e = rw e

      ends-pass : {q : Place} → turn_of text names bodies joints p s ≡ turn_as passed q s → ends_within text names bodies joints (suc n) tables p s ≡ ends_within text names bodies joints n tables q s
      unfolding ends_within ended
      ends-pass e = rw e

      turns-call : {q : Place} {reply : Result Reply ℕ} {left : Study} → turn_of text names bodies joints p s ≡ turn_as (called reply) q left
          → turns text names bodies joints (suc n) tables p s ≡ said (tables 0) (called reply) left (λ x. turns text names bodies joints n tables q x) (λ x. turns text names bodies joints n (λ i. tables (suc i)) q x)
      unfolding turns
      turns-call e = rw e

      ends-call : {q : Place} {reply : Result Reply ℕ} {left : Study} → turn_of text names bodies joints p s ≡ turn_as (called reply) q left
          → ends_within text names bodies joints (suc n) tables p s ≡ ended (tables 0) (called reply) left (λ x. ends_within text names bodies joints n tables q x) (λ x. ends_within text names bodies joints n (λ i. tables (suc i)) q x)
      unfolding ends_within
      ends-call e = rw e

  -- ---- the place that comes next

  module _ (at first : ℕ) where
    end_none : after_end text (place at first 0) ≡ place (next_line text at) first 0
    unfolding after_end
    end_none = refl

    end_more : (k : ℕ) → after_end text (place at first (suc k)) ≡ place first first k
    unfolding after_end
    end_more k =
        let z : suc k - 1 ≡ k = omega arith in
        rw (ne_eqb (suc k) 0 (λ e. omega arith), z)

    repeat-none : (left : ℕ) → after_repeat text names bodies joints (place at first left) 0 ≡ place (skipped (length text) (next_line text at)) first left
    unfolding after_repeat
    repeat-none left = refl

    repeat-some : (left k : ℕ) → after_repeat text names bodies joints (place at first left) (suc k) ≡ place (next_line text at) (next_line text at) k
    unfolding after_repeat
    repeat-some left k =
        let z : suc k - 1 ≡ k = omega arith in
        rw (ne_eqb (suc k) 0 (λ e. omega arith), z)

  module _ (at first left : ℕ) (s : Study) (h : at < length text) where
    abbrev turned : Turn
    turned = turn_of text names bodies joints (place at first left) s

    turn-nothing : act at ≡ Nothing → turned ≡ turn_as passed (place (next_line text at) first left) s
    unfolding acted_on place_after
    turn-nothing e = turn-here (place at first left) s h e

    turn_end : act at ≡ End → turned ≡ turn_as passed (after_end text (place at first left)) s
    unfolding acted_on place_after
    turn_end e = turn-here (place at first left) s h e

    turn-repeat : (n : ℕ) → act at ≡ Repeat n → turned ≡ turn_as passed (after_repeat text names bodies joints (place at first left) n) s
    unfolding acted_on place_after
    turn-repeat n e = turn-here (place at first left) s h e

    turn-call : (c : StudyCall) → act at ≡ Call c → turned ≡ turn_as (called (run_call joints c s).reply) (place (next_line text at) first left) (run_call joints c s).left
    unfolding acted_on place_after
    turn-call c e = turn-here (place at first left) s h e

  -- ---- all turns

  abbrev Right : ℕ → Type 0
  Right n =
      (tables : ℕ → List ℕ) (at first left : ℕ) (s : Study)
      → Fits (acts at) (acts first) left
      → ends_within text names bodies joints n tables (place at first left) s ≡ true
      → turns text names bodies joints n tables (place at first left) s ≡ runs joints tables (remaining (acts at) (acts first) left) s

  module _ (n : ℕ) (ih : Right n) (tables : ℕ → List ℕ) (at first : ℕ) (s : Study) where
    abbrev Rights : ℕ → Type 0
    Rights left =
        ends_within text names bodies joints (suc n) tables (place at first left) s ≡ true
        → turns text names bodies joints (suc n) tables (place at first left) s ≡ runs joints tables (remaining (acts at) (acts first) left) s

    passes : (left to start turns-left : ℕ) → turn_of text names bodies joints (place at first left) s ≡ turn_as passed (place to start turns-left) s
        → Fits (acts to) (acts start) turns-left → remaining (acts at) (acts first) left ≡ remaining (acts to) (acts start) turns-left → Rights left
    passes left to start turns-left e f q w =
        turns-pass (place at first left) s n tables e ∙ ih tables to start turns-left s f (sym (ends-pass (place at first left) s n tables e) ∙ w) ∙ ap (λ (l : List StudyCall). runs joints tables l s) (sym q)

    tail : (b : Bool) {x y : List Ran} {z : Bool} → cond b true z ≡ true → (z ≡ true → x ≡ y) → cond b [] x ≡ cond b [] y
    tail true h f = refl
    tail false h f = f h

    module _ (h : at < length text) where
      abbrev next : ℕ
      next = next_line text at

      calls : (left : ℕ) (c : StudyCall) → act at ≡ Call c → Fits (acts at) (acts first) left → Rights left
      unfolding said ended runs
      calls left c e f w =
          let q = acts-here at h e in
          let d = run_call joints c s in
          let r = with_table (tables 0) d.reply d.left in
          let t = turn-call at first left s h c e in
          turns-call (place at first left) s n tables t
          ∙ ap (λ (l : List Ran). r ∷ l)
          (tail (is_refused r.reply) (sym (ends-call (place at first left) s n tables t) ∙ w)
          (λ z. ih (λ i. tables (suc i)) next first left r.left (fits-call (acts next) (acts first) c left (subst (λ (l : List Act). Fits l (acts first) left) q f)) z))
          ∙ ap (λ (l : List StudyCall). runs joints tables l s) (sym (ap (λ (l : List Act). remaining l (acts first) left) q ∙ on_call (acts next) (acts first) c left))

      nothing : (left : ℕ) → act at ≡ Nothing → Fits (acts at) (acts first) left → Rights left
      nothing left e f =
          let q = acts-here at h e in
          passes left next first left (turn-nothing at first left s h e) (fits-nothing (acts next) (acts first) left (subst (λ (l : List Act). Fits l (acts first) left) q f))
          (ap (λ (l : List Act). remaining l (acts first) left) q ∙ on-nothing (acts next) (acts first) left)

      ends : (left : ℕ) → act at ≡ End → Fits (acts at) (acts first) left → Rights left
      unfolding Fits closed
      ends zero e f =
          let q = acts-here at h e in
          passes 0 next first 0 (turn_end at first 0 s h e ∙ ap (λ (p : Place). turn_as passed p s) (end_none at first)) (subst (λ (l : List Act). Fits l (acts first) 0) q f)
          (ap (λ (l : List Act). remaining l (acts first) 0) q ∙ on-last-end (acts next) (acts first))
      ends (suc k) e f =
          let q = acts-here at h e in
          let g = subst (λ (l : List Act). Fits l (acts first) (suc k)) q f in
          passes (suc k) first first k (turn_end at first (suc k) s h e ∙ ap (λ (p : Place). turn_as passed p s) (end_more at first k)) (fits-begun (acts first) k g.1)
          (ap (λ (l : List Act). remaining l (acts first) (suc k)) q ∙ on-end (acts next) (acts first) k g)

      -- none is open
      closed_on : (m : ℕ) → act at ≡ Repeat m → Fits (acts at) (acts first) 0 → closed true (acts next) ≡ true
      unfolding Fits closed
      closed_on m e f = subst (λ (l : List Act). closed false l ≡ true) (acts-here at h e) f

      -- none is in another
      nested : (m k : ℕ) → act at ≡ Repeat m → Fits (acts at) (acts first) (suc k) → ⊥
      unfolding Fits closed
      nested m k e f = false-not-true (subst (λ (l : List Act). closed true l ≡ true) (acts-here at h e) f.0)

      repeats : (left m : ℕ) → act at ≡ Repeat m → Fits (acts at) (acts first) left → Rights left
      unfolding Fits
      repeats (suc k) m e f = absurd (nested m k e f)
      repeats zero zero e f =
          let q = acts-here at h e in
          let p = past (length text) next (omega arith) (closed_on 0 e f) in
          passes 0 (skipped (length text) next) first 0 (turn-repeat at first 0 s h 0 e ∙ ap (λ (p : Place). turn_as passed p s) (repeat-none at first 0)) p.outside
          (ap (λ (l : List Act). remaining l (acts first) 0) q ∙ on_none (acts next) (acts first) ∙ p.follows ∙ at-start (acts (skipped (length text) next)) (acts first))
      repeats zero (suc k) e f =
          let q = acts-here at h e in
          passes 0 next next k (turn-repeat at first 0 s h (suc k) e ∙ ap (λ (p : Place). turn_as passed p s) (repeat-some at first 0 k)) (fits-begun (acts next) k (closed_on (suc k) e f))
          (ap (λ (l : List Act). remaining l (acts first) 0) q ∙ on-repeat (acts next) (acts first) k)

      line : (left : ℕ) (a : Act) → act at ≡ a → Fits (acts at) (acts first) left → Rights left
      line left Nothing e f = nothing left e f
      line left End e f = ends left e f
      line left (Repeat m) e f = repeats left m e f
      line left (Call c) e f = calls left c e f

  at-end : (n : ℕ) (tables : ℕ → List ℕ) (at begun left : ℕ) (s : Study) → length text ≤ at → Fits (acts at) (acts begun) left
      → turns text names bodies joints (suc n) tables (place at begun left) s ≡ runs joints tables (remaining (acts at) (acts begun) left) s
  unfolding Fits closed levels first others joined times runs
  at-end n tables at begun zero s h f = turns-over (place at begun 0) s n tables (turn-over (place at begun 0) s h) ∙ ap (λ (l : List Act). runs joints tables (remaining l (acts begun) 0) s) (sym (acts-over at h))
  at-end n tables at begun (suc k) s h f = absurd (false-not-true (subst (λ (l : List Act). closed true l ≡ true) (acts-over at h) f.0))

  right : (n : ℕ) → Right n
  unfolding ends_within
  right zero tables at first left s f w = absurd (false-not-true w)
  right (suc n) tables at first left s f w =
      by_cases (leb (length text) at) (λ e. at-end n tables at first left s (leb-true (length text) at e) f)
      (λ e. line n (right n) tables at first s (leb-false _ _ e) left (act at) refl f w)

  -- ---- every study ends

  abbrev EndsAt : (ℕ → List ℕ) → Place → Study → Type 0
  EndsAt tables p s = Ends text names bodies joints tables p s

  module _ {tables : ℕ → List ℕ} {p : Place} {s : Study} where
    from-over : turn_of text names bodies joints p s ≡ turn_as over p s → EndsAt tables p s
    unfolding ends_within ended
    from-over e = record { within = suc zero; ends = rw e }

    from-pass : {q : Place} → turn_of text names bodies joints p s ≡ turn_as passed q s → EndsAt tables q s → EndsAt tables p s
    from-pass e d = record { within = suc d.within; ends = ends-pass p s d.within tables e ∙ d.ends }

    from-call : {q : Place} {reply : Result Reply ℕ} {left : Study} → turn_of text names bodies joints p s ≡ turn_as (called reply) q left
        → ((more : ℕ → List ℕ) (x : Study) → EndsAt more q x) → EndsAt tables p s
    unfolding ended
    from-call {q} {reply} {left} e h =
        let r = with_table (tables 0) reply left in
        let d = h (λ i. tables (suc i)) r.left in
        by_cases (is_refused r.reply) (λ b. record { within = suc zero; ends = ends-call p s zero tables e ∙ rw b })
        (λ b. record { within = suc d.within; ends = ends-call p s d.within tables e ∙ rw b d.ends })

  next-on : (at : ℕ) → at ≤ next_line text at
  unfolding next_line
  next-on at = omega arith

  skip-far : (n at : ℕ) → at ≤ skipped n at
  unfolding skip_from
  skip-far zero at = omega arith
  skip-far (suc n) at =
      by_cases (is_end (act at)) (λ e. rw e (next-on at)) (λ e. rw e (omega (arith, next-on at, skip-far n (next_line text at))))

  abbrev From : ℕ → ℕ → ℕ → Type 0
  From at first left = (tables : ℕ → List ℕ) (s : Study) → EndsAt tables (place at first left) s

  within_level : {a : Act} (at : ℕ) → at < length text → act at ≡ a → closed true (acts at) ≡ true → closed true (a ∷ acts (next_line text at)) ≡ true
  within_level at h e f = subst (λ (x : List Act). closed true x ≡ true) (acts-here at h e) f

  outside-levels : {a : Act} (at : ℕ) → at < length text → act at ≡ a → closed false (acts at) ≡ true → closed false (a ∷ acts (next_line text at)) ≡ true
  outside-levels at h e f = subst (λ (x : List Act). closed false x ≡ true) (acts-here at h e) f

  -- the rest of a turn of a level, by what is so at its `end`
  module _ (low first left : ℕ) (last : (at : ℕ) → low ≤ at → at < length text → act at ≡ End → closed false (acts (next_line text at)) ≡ true → From at first left) where
    level-line : (at : ℕ) (a : Act) → at < length text → act at ≡ a → low ≤ at → closed true (acts at) ≡ true
        → (closed true (acts (next_line text at)) ≡ true → From (next_line text at) first left) → From at first left
    unfolding closed
    level-line at Nothing h e l f ih tables s = from-pass (turn-nothing at first left s h e) (ih (within_level at h e f) tables s)
    level-line at (Call c) h e l f ih tables s = from-call (turn-call at first left s h c e) (ih (within_level at h e f))
    level-line at End h e l f ih tables s = last at l h e (within_level at h e f) tables s
    level-line at (Repeat m) h e l f ih tables s = absurd (false-not-true (within_level at h e f))

    in-level : (g at : ℕ) → length text ≤ at + g → low ≤ at → closed true (acts at) ≡ true → From at first left
    unfolding closed
    in-level zero at h l f tables s = absurd (false-not-true (subst (λ (x : List Act). closed true x ≡ true) (acts-over at (omega arith)) f))
    in-level (suc g) at h l f tables s =
        by_cases (leb (length text) at)
        (λ e. absurd (false-not-true (subst (λ (x : List Act). closed true x ≡ true) (acts-over at (leb-true (length text) at e)) f)))
        (λ e. level-line at (act at) (leb-false _ _ e) refl l f
        (in-level g (next_line text at) (omega (arith, h, next-line-far text at (leb-false _ _ e))) (omega (arith, l, next-on at))) tables s)

  -- all turns of a level
  level : (k low first : ℕ) → low ≤ first → closed true (acts first) ≡ true → ((at : ℕ) → low ≤ at → closed false (acts at) ≡ true → From at first 0)
      → (at : ℕ) → low ≤ at → closed true (acts at) ≡ true → From at first k
  level zero low first b c after at l f =
      in-level low first 0
      (λ to m h e d tables s. from-pass (turn_end to first 0 s h e ∙ ap (λ (p : Place). turn_as passed p s) (end_none to first))
      (after (next_line text to) (omega (arith, m, next-on to)) d tables s)) (length text) at (omega arith) l f
  level (suc k) low first b c after at l f =
      in-level low first (suc k)
      (λ to m h e d tables s. from-pass (turn_end to first (suc k) s h e ∙ ap (λ (p : Place). turn_as passed p s) (end_more to first k))
      (level k low first b c after first b c tables s)) (length text) at (omega arith) l f

  outer-line : (at : ℕ) (a : Act) → at < length text → act at ≡ a → closed false (acts at) ≡ true
      → ((to : ℕ) → next_line text at ≤ to → closed false (acts to) ≡ true → (first : ℕ) → From to first 0) → (first : ℕ) → From at first 0
  unfolding closed
  outer-line at Nothing h e f ih first tables s = from-pass (turn-nothing at first 0 s h e) (ih (next_line text at) (omega arith) (outside-levels at h e f) first tables s)
  outer-line at (Call c) h e f ih first tables s = from-call (turn-call at first 0 s h c e) (ih (next_line text at) (omega arith) (outside-levels at h e f) first)
  outer-line at End h e f ih first tables s =
      from-pass (turn_end at first 0 s h e ∙ ap (λ (p : Place). turn_as passed p s) (end_none at first)) (ih (next_line text at) (omega arith) (outside-levels at h e f) first tables s)
  outer-line at (Repeat zero) h e f ih first tables s =
      let to = skipped (length text) (next_line text at) in
      let p = past (length text) (next_line text at) (omega arith) (outside-levels at h e f) in
      from-pass (turn-repeat at first 0 s h 0 e ∙ ap (λ (p : Place). turn_as passed p s) (repeat-none at first 0))
      (ih to (skip-far (length text) (next_line text at)) p.outside first tables s)
  outer-line at (Repeat (suc k)) h e f ih first tables s =
      let next = next_line text at in
      let c = outside-levels at h e f in
      from-pass (turn-repeat at first 0 s h (suc k) e ∙ ap (λ (p : Place). turn_as passed p s) (repeat-some at first 0 k))
      (level k next next (omega arith) c (λ to l d. ih to l d next) next (omega arith) c tables s)

  outer : (g at : ℕ) → length text ≤ at + g → closed false (acts at) ≡ true → (first : ℕ) → From at first 0
  outer zero at h f first tables s = from-over (turn-over (place at first 0) s (omega arith))
  outer (suc g) at h f first tables s =
      by_cases (leb (length text) at) (λ e. from-over (turn-over (place at first 0) s (leb-true (length text) at e)))
      (λ e. outer-line at (act at) (leb-false _ _ e) refl f (λ to l d. outer g to (omega (arith, h, l, next-line-far text at (leb-false _ _ e))) d) first tables s)

pub turns-run : TurnsRun
unfolding unrolled Fits
turns-run text names bodies joints calls n tables s f w =
    right text names bodies joints n tables calls 0 0 s f w
    ∙ ap (λ (l : List StudyCall). runs joints tables l s) (sym (at-start (acts_on text names bodies joints calls) (acts_on text names bodies joints 0)))

pub every-study-ends : EveryStudyEnds
every-study-ends text names bodies joints calls tables s f = outer text names bodies joints (length text) calls (omega arith) f 0 tables s
