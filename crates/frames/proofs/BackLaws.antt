-- A frame's substeps keep the joints, the number of bodies and all past the total (`steps-kept`). So everything reverts: what a frame's substeps leave past the total is as it was, so that the first numbers put back make the whole.
use Rattle.std.proofs.Common.{◌≡◌, ℕ, zero, suc, ◌+◌, ◌-◌, ◌*◌, ◌/◌, ◌≤◌, Bool, true, false, cond, ltb, List, ◌++◌, length, take, drop, sym, refl, ap, ◌∙◌, arith, take-append-drop, length-take-le, drop-drop, take_at, ltb-false, Option}
use lib.Seq.{drop-length}
use lib.Ieee.{Float}
use Rattle.multibody.specs.Model.{Model}
use Rattle.multibody.specs.Counts.{body_count, joint_count, total_rows, Room}
use Rattle.multibody.specs.Calls.{Call, Outcome, granted_of, run}
use Rattle.multibody.specs.Calls.Call.{build, warm_start, sweep, remove_bias}
use Rattle.multibody.specs.Calls.Answer.{refused}
use Rattle.multibody.proofs.CountLaws.{same-bodies, rows_before-le, rows_fit}
use Rattle.multibody.proofs.Keeps.{run-cases, run-counts}
use Rattle.model.specs.Layout.{row_width}
use Rattle.model.specs.Planar.{plane, planar}
use Rattle.multibody.proofs.PastTotal.{past-total}
use Rattle.model.proofs.PlanarLaws.{planar-laws}
use Rattle.frames.proofs.MovedLaws.{length_moved}
use Rattle.frames.specs.Frames.{Moment, moment, leaves, moved_moment, Progress, progress, before_move, move_of, after_move, substep, substeps, steps_of}

-- ---- the first k numbers put back

module _ {A : Type 0} where
  pub put_back : (orig other left saved : List A) (k : ℕ) → k ≤ length orig → saved ≡ take k orig ++ drop k other → drop k left ≡ drop k orig → take k saved ++ drop k left ≡ orig
  put_back orig other left saved k h e d =
      let front : take k saved ≡ take k orig = ap (take k) e ∙ take_at (take k orig) (drop k other) k (length-take-le k orig h) in
      rw (front, d) (take-append-drop k orig)

  -- what is the same from n on is the same from any later number on
  pub drop-later : (a b : List A) (n k : ℕ) → n ≤ k → drop n a ≡ drop n b → drop k a ≡ drop k b
  drop-later a b n k h e =
      let z : n + (k - n) ≡ k = omega arith in
      rw z at (sym (drop-drop (k - n) n a) ∙ ap (drop (k - n)) e ∙ drop-drop (k - n) n b)

  -- a list of one length with another ends where that ends
  pub drop-end : (a b : List A) (k : ℕ) → length a ≡ length b → length b ≤ k → drop k a ≡ drop k b
  drop-end a b k e h =
      let x : drop (length a) a ≡ drop (length b) b = drop-length a ∙ sym (drop-length b) in
      drop-later a b (length b) k h (rw e at x)

-- ---- a frame's calls and its move change no joint and nothing past the total

module _ (words : List ℕ) (numbers rows : List Float) (bodies : ℕ) where
  abbrev end : ℕ
  end = total_rows plane words numbers * row_width

  pub record Kept (s : Moment) : Type 0 where
    pub words-kept : s.model.words ≡ words
    pub numbers-kept : s.model.numbers ≡ numbers
    pub past : drop end s.rows ≡ drop end rows
    pub count : body_count plane s.model.bodies ≡ bodies

  -- a call that keeps the joints
  abbrev Joints : Call planar → Type 0
  Joints c = (m : Model) (r : List Float) → ((run planar c m r).after.words ≡ m.words) × ((run planar c m r).after.numbers ≡ m.numbers)

  leaves_kept : (c : Call planar) → Joints c → (s : Moment) → Kept s → Kept (leaves c s)
  leaves_kept c j s k =
      let m = s.model in
      let j2 = j m s.rows in
      let same : total_rows plane m.words m.numbers ≡ total_rows plane words numbers = rw (k.words-kept, k.numbers-kept) in
      record {
        words-kept = j2.0 ∙ k.words-kept;
        numbers-kept = j2.1 ∙ k.numbers-kept;
        past = rw same at (past-total planar-laws m s.rows c) ∙ k.past;
        count = (run-counts planar-laws m s.rows c).bodies ∙ k.count;
      }

  build-joints : (warm : Option Float) (i : ℕ) → Joints (build warm i)
  unfolding granted_of
  build-joints warm i m r = run-cases planar-laws (build warm i) m r (λ (o : Outcome plane). (o.after.words ≡ m.words) × (o.after.numbers ≡ m.numbers)) (λ _. (refl, refl)) (refl, refl)

  warm-joints : Joints warm_start
  unfolding granted_of
  warm-joints m r = run-cases planar-laws warm_start m r (λ (o : Outcome plane). (o.after.words ≡ m.words) × (o.after.numbers ≡ m.numbers)) (λ _. (refl, refl)) (refl, refl)

  sweep-joints : (n : ℕ) → Joints (sweep n)
  unfolding granted_of
  sweep-joints n m r = run-cases planar-laws (sweep n) m r (λ (o : Outcome plane). (o.after.words ≡ m.words) × (o.after.numbers ≡ m.numbers)) (λ _. (refl, refl)) (refl, refl)

  bias-joints : Joints remove_bias
  unfolding granted_of
  bias-joints m r = run-cases planar-laws remove_bias m r (λ (o : Outcome plane). (o.after.words ≡ m.words) × (o.after.numbers ≡ m.numbers)) (λ _. (refl, refl)) (refl, refl)

  module _ (warm : Option Float) (sweeps : ℕ) where
    before-kept : (i : ℕ) (s : Moment) → Kept s → Kept (before_move warm sweeps i s)
    unfolding before_move
    before-kept i s k =
        let a = leaves_kept (build warm i) (build-joints warm i) s k in
        leaves_kept (sweep sweeps) (sweep-joints sweeps) _ (leaves_kept warm_start warm-joints _ a)

    moved-kept : (s : Moment) → Kept s → Kept (moved_moment s)
    unfolding move_of
    moved-kept s k = record {
      words-kept = k.words-kept;
      numbers-kept = k.numbers-kept;
      past = k.past;
      count = same-bodies plane s.model.bodies _ (length_moved s.model.params.dt (body_count plane s.model.bodies) 0 s.model.bodies) ∙ k.count;
    }

    after_kept : (s : Moment) → Kept s → Kept (after_move sweeps s).left
    unfolding after_move
    after_kept s k = leaves_kept (sweep sweeps) (sweep-joints sweeps) _ (leaves_kept remove_bias bias-joints s k)

    substep-kept : (i : ℕ) (s : Moment) → Kept s → Kept (substep warm sweeps i s).left
    unfolding substep
    substep-kept i s k = go (move_of (before_move warm sweeps i s)).finite
      where
        t : Kept (moved_moment (before_move warm sweeps i s))
        t = moved-kept (before_move warm sweeps i s) (before-kept i s k)

        go : (f : Bool) → Kept (cond f (after_move sweeps (moved_moment (before_move warm sweeps i s))) (progress false (moved_moment (before_move warm sweeps i s)) (refused 6))).left
        go true = after_kept _ t
        go false = t

    substeps-kept : (n i : ℕ) (p : Progress) → Kept p.left → Kept (substeps warm sweeps i n p).left
    unfolding substeps
    substeps-kept zero i p k = k
    substeps-kept (suc n) i p k = go p.finite (substeps-kept n (i + 1) (substep warm sweeps i p.left) (substep-kept i p.left k))
      where
        go : (f : Bool) → Kept (substeps warm sweeps (i + 1) n (substep warm sweeps i p.left)).left
            → Kept (cond f (substeps warm sweeps (i + 1) n (substep warm sweeps i p.left)) p).left
        go true next = next
        go false next = k

    pub steps-kept : (n : ℕ) (s : Moment) → Kept s → Kept (steps_of warm sweeps n s).left
    unfolding steps_of
    steps-kept n s k = substeps-kept (n - 1) 1 (substep warm sweeps 0 s) (substep-kept 0 s k)

-- the rows of at most so many joints fit in a copy of 108 numbers for each
pub total-fits : (joints : ℕ) (m : Model) (rows : List Float) → joint_count plane m.words m.numbers ≤ joints → Room plane m rows
    → (total_rows plane m.words m.numbers * row_width ≤ length rows) × (total_rows plane m.words m.numbers * row_width ≤ joints * 108)
total-fits joints m rows few room =
    (rows_fit plane rows (total_rows plane m.words m.numbers) room, omega (arith, few, rows_before-le planar-laws m.words (joint_count plane m.words m.numbers)))

-- and a storage of at most so many bodies in one of ten for each and nine more
pub bodies-fit-copy : (count : ℕ) (b : List Float) → body_count plane b ≤ count → length b ≤ count * 10 + 9
unfolding body_count
bodies-fit-copy count b h = omega (arith, h)

-- storage of so few numbers and words has at most 16 bodies and joints
pub few_bodies : (b : List Float) → length b ≤ 169 → body_count plane b ≤ 16
unfolding body_count
few_bodies b h = omega arith

pub few_joints : (words : List ℕ) (numbers : List Float) → length words ≤ 203 → joint_count plane words numbers ≤ 16
unfolding joint_count
few_joints words numbers h = go (length words / 12) (length numbers / 42) (omega arith)
  where
    go : (a b : ℕ) → a ≤ 16 → cond (ltb a b) a b ≤ 16
    go a b k = by (ltb a b) refl
      where
        by : (t : Bool) → ltb a b ≡ t → cond t a b ≤ 16
        by true e = k
        by false e = omega (arith, ltb-false a b e)

-- ---- bodies and rows put back

module _ (joints : ℕ) (warm : Option Float) (sweeps n : ℕ) (m : Model) (rows : List Float) where
  pub rows_back : (other saved left moved : List Float) (k : ℕ) → (steps_of warm sweeps n (moment m rows)).left.rows ≡ moved → joint_count plane m.words m.numbers ≤ joints → Room plane m rows
      → (k ≤ length rows) × (k ≤ joints * 108) × ((t : ℕ) → t ≤ length rows → t ≤ joints * 108 → t ≤ k) → saved ≡ take k rows ++ drop k other → left ≡ take k saved ++ drop k moved → left ≡ rows
  rows_back other saved left moved k e few room bounds copied put =
      let fits = total-fits joints m rows few room in
      let end = total_rows plane m.words m.numbers * row_width in
      let kept = steps-kept m.words m.numbers rows (body_count plane m.bodies) warm sweeps n (moment m rows) (record { words-kept = refl; numbers-kept = refl; past = refl; count = refl }) in
      let past : drop end moved ≡ drop end rows = rw e at kept.past in
      put ∙ put_back rows other moved saved k bounds.0 copied (drop-later moved rows end k (bounds.2 end fits.0 fits.1) past)

pub bodies-back : (count : ℕ) (bodies other moved saved left : List Float) (k : ℕ) → body_count plane bodies ≤ count → length moved ≡ length bodies
    → (k ≤ length bodies) × (k ≤ count * 10 + 9) × ((t : ℕ) → t ≤ length bodies → t ≤ count * 10 + 9 → t ≤ k) → saved ≡ take k bodies ++ drop k other → left ≡ take k saved ++ drop k moved → left ≡ bodies
bodies-back count bodies other moved saved left k few size bounds copied put =
    let all : length bodies ≤ k = bounds.2 (length bodies) (omega arith) (bodies-fit-copy count bodies few) in
    put ∙ put_back bodies other moved saved k bounds.0 copied (drop-end moved bodies k size all)
