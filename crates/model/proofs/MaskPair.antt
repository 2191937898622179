-- The two studies of `StudyPair` through a change of masks (document 02, R-10). They meet every premise of demand 3 with a list that gives the set's joint new masks, granted in both
-- (`compared`, `granted`). The premise that it is granted in both or in neither is needed: row storage of five rows holds the total of either study, five and four, but of their new totals, six and five,
-- only the one (`room`, `one-alone`).
use Prim.Native.Nat.{ℕ}
use mathlib.Core.Path.{◌≡◌, refl, ◌∙◌}
use mathlib.Core.Logic.{⊎_elim}
use mathlib.Core.Bool.{false≢true}
use mathlib.Core.List.{List, [], ◌∷◌}
use lib.Dec.{lit≤}
use lib.ListN.{replicate}
use lib.Ieee.{Float, lt, is_nan, of_bits}
use Rattle.floats.specs.Scalar.{is_finite}
use Rattle.floats.specs.Sign.{abs_of}
use Rattle.floats.specs.SinCos.{angle_too_large}
use Rattle.rows.specs.RowIds.{has_axis, row_ids}
use Rattle.rows.specs.declared.generic_joint.Masks.{Masks}
use Rattle.rows.specs.declared.joint_velocity_constraint.WritebackId.{WritebackId}
use Rattle.multibody.specs.Rules.{refusal, all}
use Rattle.multibody.specs.JointRows.{joint_ids, row_count, row_masks_at}
use Rattle.multibody.specs.Counts.{body_count, joint_count, row_capacity, rows_before, Room}
use Rattle.multibody.specs.Finite.{passes, passes_from}
use Rattle.multibody.specs.Refusals.{present_or_world, bodies_present, bodies_apart, finite_params, finite_body, finite_joint, model_rules_with, storage_rule, joint_rule}
use Rattle.multibody.specs.Calls.{rules_of}
use Rattle.multibody.specs.Calls.Call.{set_masks}
use Rattle.multibody.specs.Traces.{AtEach, AtSome}
use Rattle.multibody.specs.Studies.{Enough, Agree, GrantedAlike, Names, Compared, Noninterference}
use Rattle.multibody.proofs.RefusedExactly.{told}
use Rattle.multibody.proofs.Premises.{Turn, recorded, recorded-returns}
use Rattle.model.specs.Store.{put_masks, masks_at, body1_at, body2_at, enabled_at, center_at}
use Rattle.model.specs.Refusals.{masks_fit, new_masks_fit, angle_fits, center_fits}
use Rattle.model.specs.Planar.{plane, planar}
use Rattle.model.specs.Studies.{planar_calls}
use Rattle.model.proofs.PlanarLaws.{planar-laws, planar-two-studies}
use Rattle.model.proofs.StudyPair.{o, m, m', s, s', storage, set, ts, agree, loaded, loaded', same_numbers}

-- masks that lock some axes
abbrev pub locks : ℕ → Masks
locks axes = record { locked_axes = axes; limit_axes = 0; motor_axes = 0; coupled_axes = 0 }

abbrev pub turns : List (Turn planar_calls)
turns = record { call = set_masks 0 (locks 1); lent = storage; lent' = storage } ∷ []

-- storage of five rows
abbrev pub five : List Float
five = replicate 90 o

-- what the call's rules come to: one axis in storage of six rows, three axes in storage of five
comes : ((refusal (rules_of planar (set_masks 0 (locks 1)) m storage) ≡ 0) × (refusal (rules_of planar (set_masks 0 (locks 1)) m' storage) ≡ 0))
    × ((refusal (rules_of planar (set_masks 0 (locks 7)) m five) ≡ 8) × (refusal (rules_of planar (set_masks 0 (locks 7)) m' five) ≡ 0))
unfolding rules_of refusal all model_rules_with storage_rule joint_rule new_masks_fit put_masks masks_fit present_or_world bodies_present bodies_apart passes passes_from finite_params finite_body finite_joint angle_fits center_fits center_at angle_too_large abs_of is_finite is_nan lt of_bits body_count joint_count row_capacity rows_before row_count joint_ids row_masks_at enabled_at masks_at body1_at body2_at has_axis row_ids
comes = ((refl, refl), (refl, refl))

-- granted in both
pub granted : (refusal (rules_of planar (set_masks 0 (locks 1)) m storage) ≡ 0) × (refusal (rules_of planar (set_masks 0 (locks 1)) m' storage) ≡ 0)
granted = comes.0

-- refused with 8 in the one and granted in the other, though the storage holds both totals
pub one-alone : (refusal (rules_of planar (set_masks 0 (locks 7)) m five) ≡ 8) × (refusal (rules_of planar (set_masks 0 (locks 7)) m' five) ≡ 0)
one-alone = comes.1

pub room : Room plane m five × Room plane m' five
unfolding joint_count row_capacity rows_before row_count joint_ids row_masks_at enabled_at masks_at has_axis row_ids
room = (lit≤ tt, lit≤ tt)

-- ---- the premises

enough : AtEach (Enough planar_calls) (recorded planar_calls turns s s') s s'
unfolding AtEach recorded joint_count row_capacity rows_before row_count joint_ids row_masks_at enabled_at masks_at has_axis row_ids
enough = (λ e. (lit≤ tt, lit≤ tt), tt)

granted-alike : AtEach (GrantedAlike planar_calls) (recorded planar_calls turns s s') s s'
unfolding AtEach recorded
granted-alike =
    let t = told planar-laws (set_masks 0 (locks 1)) m storage in
    let t' = told planar-laws (set_masks 0 (locks 1)) m' storage in
    ((λ e. t' ∙ granted.1, λ e. t ∙ granted.0), tt)

-- no rows are made, so that nothing is named
unnamed : (j : ℕ) (id : WritebackId) → Names planar_calls (recorded planar_calls turns s s') s s' j id → Names planar_calls (recorded planar_calls ts s s') s s' j id
unfolding AtSome recorded
unnamed j id h = absurd (⊎_elim (λ n. ⊎_elim (λ k. false≢true k.0.0) (λ k. false≢true k.0.0) n) (λ e. e) h)

agrees : Agree plane set (Names planar_calls (recorded planar_calls turns s s') s s') m m'
agrees = record {
  params = agree.params;
  closed = agree.closed;
  closed' = agree.closed';
  present = agree.present;
  poses = agree.poses;
  velocities = agree.velocities;
  joints = agree.joints;
  joints' = agree.joints';
  bodies1 = agree.bodies1;
  bodies2 = agree.bodies2;
  contents = λ j t. planar-laws.fewer-named _ _ (unnamed j) (agree.contents j t);
}

pub compared : Compared planar_calls set (recorded planar_calls turns s s') s s'
compared = record { loaded = loaded; loaded' = loaded'; agree = agrees; storage = enough; alike = granted-alike; traces = recorded-returns planar_calls turns s s' }

pub shared : Noninterference planar_calls set (recorded planar_calls turns s s') s s'
shared = planar-two-studies set (recorded planar_calls turns s s') s s' same_numbers compared
