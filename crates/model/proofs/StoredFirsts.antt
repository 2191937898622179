-- First rows stored for all joints (document 02, R-10): each is the sum of the earlier joints' row counts (`first_rows`), after a granted load (`loaded-first`) and after a granted change of masks (`masked-first`).
use Prim.Native.Nat.{ℕ, zero, suc, ◌+◌, ◌*◌, ◌<◌, ◌≤◌}
use mathlib.Core.Path.{◌≡◌, refl, sym, ◌∙◌}
use mathlib.Core.List.{List}
use native.Mathlib.Omega.{arith}
use borrow.Author.Tests.{eqb-true, eqb-false}
use lib.Dec.{eqb}
use lib.ListN.{length}
use lib.Seq.{get_or-set_same, get_or-set_other}
use lib.Ieee.{Float}
use Rattle.rows.specs.declared.generic_joint.Masks.{Masks}
use Rattle.multibody.specs.Model.{Model}
use Rattle.multibody.specs.Counts.{joint_count, rows_before, store_firsts}
use Rattle.multibody.specs.Calls.{granted_of}
use Rattle.multibody.specs.Calls.Call.{load, set_masks}
use Rattle.multibody.proofs.Rewording.{same_count, first-rows-kept, firsts_same, rows-kept}
use Rattle.model.specs.Layout.{words_width}
use Rattle.model.specs.Store.{first_at, put_first, put_masks}
use Rattle.model.specs.Planar.{plane, planar}
use Rattle.multibody.proofs.Tests.{by_cases}
use Rattle.multibody.proofs.CountLaws.{joints-words}
use Rattle.model.proofs.FirstRows.{first-reworded}
use Rattle.model.proofs.NewMasks.{put-reworded}
use Rattle.model.proofs.PlanarLaws.{planar-laws}

-- what a store leaves of another joint's first row, and of its own
first-apart : (n j : ℕ) (w : List ℕ) (i : ℕ) → i < j → first_at (store_firsts plane j n w) i ≡ first_at w i
unfolding store_firsts first_at put_first
first-apart zero j w i h = refl
first-apart (suc n) j w i h = first-apart n (j + 1) _ i (omega arith) ∙ get_or-set_other w _ _ (rows_before plane w j) 0 (λ e. omega (arith, e, h))

first-own : (w : List ℕ) (j k : ℕ) → j * words_width + words_width ≤ length w → first_at (put_first w j k) j ≡ k
unfolding put_first first_at
first-own w j k room = get_or-set_same w _ k 0 (omega (arith, room))

-- each joint's first row is the sum of the earlier joints' row counts, before and after alike
pub first_rows : (n j : ℕ) (w : List ℕ) (i : ℕ) → (j + n) * words_width ≤ length w → j ≤ i → i < j + n → first_at (store_firsts plane j n w) i ≡ rows_before plane w i
unfolding store_firsts
first_rows zero j w i room h g = absurd (omega (arith, h, g))
first_rows (suc n) j w i room h g =
    let w1 = put_first w j (rows_before plane w j) in
    by_cases (eqb i j)
    (λ t. rw (eqb-true i j t) (first-apart n (j + 1) w1 j (omega arith) ∙ first-own w j (rows_before plane w j) (omega (arith, room))))
    (λ t.
    let ne = eqb-false i j t in
    first_rows n (j + 1) w1 i (rw (first-reworded w j (rows_before plane w j)).size (omega (arith, room))) (omega (arith, h, ne)) (omega (arith, g))
    ∙ first-rows-kept planar-laws w j (rows_before plane w j) i)

-- stored for the joints that are there, each is the sum in the words that are left
pub stored-first : (w : List ℕ) (n : List Float) (i : ℕ) → i < joint_count plane w n
    → first_at (store_firsts plane 0 (joint_count plane w n) w) i ≡ rows_before plane (store_firsts plane 0 (joint_count plane w n) w) i
stored-first w n i l =
    first_rows (joint_count plane w n) 0 w i (omega (arith, joints-words plane w n)) (omega arith) (omega (arith, l)) ∙ sym (rows-kept planar-laws (firsts_same planar-laws (joint_count plane w n) 0 w) i)

-- so it is after a granted load
pub loaded-first : (m : Model) (rows : List Float) (i : ℕ) → i < joint_count plane m.words m.numbers
    → first_at (granted_of planar load m rows).after.words i ≡ rows_before plane (granted_of planar load m rows).after.words i
unfolding granted_of
loaded-first m rows i l = stored-first m.words m.numbers i l

-- and after a granted change of masks
pub masked-first : (m : Model) (rows : List Float) (j : ℕ) (ms : Masks) (i : ℕ) → i < joint_count plane m.words m.numbers
    → first_at (granted_of planar (set_masks j ms) m rows).after.words i ≡ rows_before plane (granted_of planar (set_masks j ms) m rows).after.words i
unfolding granted_of
masked-first m rows j ms i l =
    let e = same_count planar-laws (put-reworded m.words j ms) m.numbers in
    rw e at (stored-first (put_masks m.words j ms) m.numbers i (rw e l))
