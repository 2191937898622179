-- After a granted build each joint's rows in storage are those that the build makes of it (`built-rows`): what it makes of a joint depends on that joint's own rows
-- alone, and no other joint's turn writes them.
use Rattle.std.specs.Prelude.{Option}
use Prim.Native.Nat.{ℕ, zero, suc, ◌+◌, ◌-◌, ◌≤◌, ◌<◌}
use mathlib.Core.Path.{◌≡◌, refl, sym, ap, ◌∙◌}
use mathlib.Core.Logic.{◌≢◌}
use mathlib.Core.List.{List, map}
use native.Mathlib.Omega.{arith}
use lib.ListN.{length, get_or}
use lib.Seq.{ext_get_or}
use lib.Ieee.{Float}
use Rattle.floats.specs.Operators.{bits}
use Rattle.rows.specs.RowIds.{filled}
use Rattle.rows.specs.Update.{blank_row}
use Rattle.rows.specs.declared.joint_velocity_constraint.JointConstraint.{JointConstraint}
use Rattle.model.specs.Store.{row_at}
use Rattle.multibody.specs.JointRows.{impulses_at, row_count, built_rows}
use Rattle.multibody.specs.Model.{Model}
use Rattle.multibody.specs.Counts.{joint_count, rows_before, Room}
use Rattle.multibody.specs.Calls.{each_joint, build_one, rows_from, rows_of}
use Rattle.model.specs.Planar.{plane}
use Rattle.model.proofs.PlanarLaws.{planar-laws}
use Rattle.multibody.proofs.StoredRows.{rows_from-at, rows_from-same, rows_from-length, impulses-of}
use Rattle.multibody.proofs.JointLocality.{Layout, Side}
use Rattle.multibody.proofs.RowWorks.{build_side, made_of, length-made, row_made}

-- d joints and then e more
each-split : {A : Type 0} (work : ℕ → A → A) (d e q : ℕ) (s : A) → each_joint work q (d + e) s ≡ each_joint work (q + d) e (each_joint work q d s)
unfolding each_joint
each-split work zero e q s =
    let z : q + 0 ≡ q = omega arith in
    let y : 0 + e ≡ e = omega arith in
    rw (z, y)
each-split work (suc d) e q s =
    let z : q + suc d ≡ q + 1 + d = omega arith in
    let y : suc d + e ≡ suc (d + e) = omega arith in
    rw (z, y) (each-split work d e (q + 1) (work q s))

-- the turns of d joints from joint q on, of which j is none, leave joint j's rows
module _ {S Row Vel : Type 0} {l : Layout} (a : Side S Row Vel l) where
  others-ok : (d q : ℕ) (s : S) → q + d ≤ l.joints → a.ok s → a.ok (each_joint a.work q d s)
  unfolding each_joint
  others-ok zero q s h o = o
  others-ok (suc d) q s h o = others-ok d (q + 1) (a.work q s) (omega arith) (a.kept q s (omega arith) o)

  others_keep : (j i : ℕ) → i < l.count j → (d q : ℕ) (s : S) → ((p : ℕ) → q ≤ p → p < q + d → j ≢ p) → a.row (each_joint a.work q d s) j i ≡ a.row s j i
  unfolding each_joint
  others_keep j i c zero q s h = refl
  others_keep j i c (suc d) q s h =
      others_keep j i c d (q + 1) (a.work q s) (λ p l u. h p (omega arith) (omega arith)) ∙ a.row_kept q j i s c (h q (omega arith) (omega arith))

module _ (m : Model) (warm : Option Float) (substep : ℕ) (rows : List Float) (room : Room plane m rows) (j : ℕ) (h : j < joint_count plane m.words m.numbers) where
  abbrev work : ℕ → List Float → List Float
  work = build_one plane m warm substep

  -- the storage at joint j's turn, and after the build
  abbrev turn : List Float
  turn = each_joint work 0 j rows

  abbrev final : List Float
  final = each_joint work 0 (joint_count plane m.words m.numbers) rows

  abbrev row_of : List Float → ℕ → JointConstraint
  row_of s i = row_at s (rows_before plane m.words j + i)

  turn-ok : length turn ≡ length rows
  unfolding build_side
  turn-ok = others-ok (build_side planar-laws m warm substep rows room) j 0 rows (omega arith) refl

  pub final-length : length final ≡ length rows
  unfolding build_side
  final-length = others-ok (build_side planar-laws m warm substep rows room) (joint_count plane m.words m.numbers) 0 rows (omega arith) refl

  turn-keeps : (i : ℕ) → i < row_count plane m.words j → row_of turn i ≡ row_of rows i
  unfolding build_side
  turn-keeps i c = others_keep (build_side planar-laws m warm substep rows room) j i c j 0 rows (λ p l u e. omega arith)

  -- what the build makes of joint j at its turn
  turn-made : made_of planar-laws m warm substep j turn ≡ made_of planar-laws m warm substep j rows
  turn-made =
      let n : ℕ = row_count plane m.words j in
      let k : ℕ = rows_before plane m.words j in
      let same : impulses_at plane turn k n ≡ impulses_at plane rows k n =
      impulses-of plane turn k n ∙ ap (map (λ (r : JointConstraint). r.impulse)) (rows_from-same plane turn rows n k k turn-keeps) ∙ sym (impulses-of plane rows k n) in
      ap (λ (l : List Float). (built_rows plane) m.params m.bodies m.words m.numbers j warm substep (filled 6 (bits 0) l)) same

  later : (rest : ℕ) → joint_count plane m.words m.numbers ≡ j + suc rest → final ≡ each_joint work (j + 1) rest (work j turn)
  unfolding each_joint
  later rest e =
      let z : 0 + j ≡ j = omega arith in
      rw e (each-split work j (suc rest) 0 rows ∙ rw z)

  final-made : (i : ℕ) → i < row_count plane m.words j → row_of final i ≡ get_or (made_of planar-laws m warm substep j rows) i blank_row
  unfolding build_side
  final-made i c =
      let rest : ℕ = joint_count plane m.words m.numbers - (j + 1) in
      ap (λ (s : List Float). row_of s i) (later rest (omega arith))
      ∙ others_keep (build_side planar-laws m warm substep rows room) j i c rest (j + 1) (work j turn) (λ p l u e. omega arith)
      ∙ row_made planar-laws m warm substep rows room blank_row j i turn h c turn-ok
      ∙ ap (λ (l : List JointConstraint). get_or l i blank_row) turn-made

  pub built-rows : rows_of plane m.words final j ≡ made_of planar-laws m warm substep j rows
  unfolding rows_of
  built-rows =
      let n : ℕ = row_count plane m.words j in
      let k : ℕ = rows_before plane m.words j in
      ext_get_or blank_row (rows_from plane final k n) (made_of planar-laws m warm substep j rows) (rows_from-length plane final k n ∙ sym (length-made planar-laws m warm substep j rows))
      (λ i l. let c : i < n = omega (arith, rows_from-length plane final k n) in rows_from-at plane blank_row final k n i c ∙ final-made i c)
