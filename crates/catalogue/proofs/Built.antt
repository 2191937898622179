-- The listed ids are those that a build gives an enabled joint (`gives`), and each enabled joint of a model that a build does not refuse has its line (`catalogued`).
use Rattle.std.specs.Prelude.{Option}
use Prim.Native.Nat.{ℕ, ◌+◌, ◌≤◌, ◌<◌}
use mathlib.Core.Path.{◌≡◌, refl, sym, ap, ◌∙◌}
use mathlib.Core.Bool.{true, not}
use mathlib.Core.List.{List, [], ◌∷◌, ◌++◌, map}
use native.Mathlib.Omega.{arith}
use borrow.Author.Tests.{lt-ltb, le-ltb}
use lib.ListN.{length}
use lib.Ieee.{Float}
use Rattle.rows.specs.RowIds.{row_ids, group_one, group_two}
use Rattle.rows.specs.Finalize.{finalize_of}
use Rattle.rows.specs.Update.{row_of, update_of}
use Rattle.rows.specs.Builder.{warmed_all, builder_update_of}
use Rattle.rows.specs.declared.generic_joint.GenericJoint.{GenericJoint}
use Rattle.rows.specs.declared.generic_joint.Masks.{Masks}
use Rattle.rows.proofs.WarmedRows.{context-joint}
use Rattle.model.specs.Layout.{words_width, masks_place}
use Rattle.model.specs.Records.{word}
use Rattle.model.specs.Store.{joint_at, masks_at}
use Rattle.multibody.specs.JointRows.{joint_ids, row_count, built_rows}
use Rattle.multibody.specs.Model.{Model, with_mark}
use Rattle.multibody.specs.Counts.{joint_count, row_capacity, Room}
use Rattle.multibody.specs.Rules.{Rule, refusal, at_most}
use Rattle.multibody.specs.Refusals.{finite_warm, model_rules, storage_rule, built_rule, joint_rule}
use Rattle.multibody.specs.Calls.{Outcome, outcome, refusal_of, first_rules, own_rules, rules_of, granted_of, rows_of, run}
use Rattle.multibody.specs.Calls.Call.{build, read_rows}
use Rattle.multibody.specs.Calls.Answer.{rows_read}
use Rattle.model.specs.Planar.{plane, planar}
use Rattle.model.proofs.PlanarLaws.{planar-laws}
use Rattle.model.specs.Refusals.{all_axes, masks_fit}
use Rattle.multibody.proofs.JointRowsLaws.{masks-enabled}
use Rattle.multibody.proofs.RuleLaws.{Hold, all_hold, hold-granted, all-at, all-below, at-most}
use Rattle.multibody.proofs.RefusalLaws.{call-numbered, model-numbered, RulesHold, rules-hold, rules-granted, room_of}
use Rattle.multibody.proofs.CallLaws.{run-granted}
use Rattle.multibody.proofs.RefusedExactly.{told, exactly-granted}
use Rattle.multibody.proofs.RowWorks.{made_of, length-made}
use Rattle.catalogue.specs.Choices.{entry, Legal}
use Rattle.catalogue.specs.Built.{listed_ids, OnLine, context_at, last_at, Gives, Catalogued}
use Rattle.catalogue.proofs.ChoicesLaws.{once}
use Rattle.catalogue.proofs.BuildLaws.{final-length, built-rows}

-- ---- rules one after the other

pub hold-first : (qs rs : List Rule) → Hold (qs ++ rs) → Hold qs
hold-first [] rs h = tt
hold-first (q ∷ qs) rs h = (h.0, hold-first qs rs h.1)

pub hold-second : (qs rs : List Rule) → Hold (qs ++ rs) → Hold rs
hold-second [] rs h = h
hold-second (q ∷ qs) rs h = hold-second qs rs h.1

pub hold-both : (qs rs : List Rule) → Hold qs → Hold rs → Hold (qs ++ rs)
hold-both [] rs h k = k
hold-both (q ∷ qs) rs h k = (h.0, hold-both qs rs h.1 k)

-- ---- a build that is not refused

module _ (m : Model) (warm : Option Float) (substep : ℕ) (rows : List Float) (granted : refusal_of (run planar (build warm substep) m rows).answer ≡ 0) where
  no-rule : refusal (rules_of planar (build warm substep) m rows) ≡ 0
  no-rule = sym (told planar-laws (build warm substep) m rows) ∙ granted

  first-held : Hold (model_rules planar m (finite_warm warm) ++ (storage_rule plane m rows ∷ []))
  unfolding rules_of
  first-held =
      hold-first (first_rules planar (build warm substep) m rows) (own_rules planar (build warm substep) m)
      (all_hold (rules_of planar (build warm substep) m rows) (call-numbered planar-laws m (build warm substep) rows) no-rule)

  rules : RulesHold planar-laws m
  rules =
      rules-hold planar-laws m (finite_warm warm)
      (hold-granted (model_rules planar m (finite_warm warm)) (hold-first (model_rules planar m (finite_warm warm)) (storage_rule plane m rows ∷ []) first-held))

  room : Room plane m rows
  room = room_of planar-laws m rows (hold-granted (storage_rule plane m rows ∷ []) (hold-second (model_rules planar m (finite_warm warm)) (storage_rule plane m rows ∷ []) first-held))

  -- it leaves the model marked, and its rows in the storage
  abbrev after : Outcome plane
  after = granted_of planar (build warm substep) m rows

  ran : run planar (build warm substep) m rows ≡ after
  ran = sym (run-granted (build warm substep) m rows no-rule)

  -- rule 3: each joint's masks are legal
  legal-masks : (j : ℕ) → j < joint_count plane m.words m.numbers → Legal (masks_at m.words j)
  unfolding masks_fit masks_at
  legal-masks j h =
      let fit = all-below (masks_fit m.words) _ rules.masks.0 j h in
      let mask : (c : ℕ) → masks_place ≤ c → c < masks_place + 4 → word words_width m.words j c ≤ all_axes =
      λ c l u. at-most all_axes _ (all-at (λ c. at_most all_axes (word words_width m.words j c)) masks_place 4 fit c l u) in
      record {
        locked = mask masks_place (omega arith) (omega arith);
        limit = mask (masks_place + 1) (omega arith) (omega arith);
        motor = mask (masks_place + 2) (omega arith) (omega arith);
        coupled = mask (masks_place + 3) (omega arith) (omega arith);
      }

  -- ---- a row read after it

  module _ (j : ℕ) (h : j < joint_count plane m.words m.numbers) where
    after-room : Room plane m after.rows
    unfolding granted_of row_capacity
    after-room = omega (arith, room, final-length m warm substep rows room j h)

    read_held : Hold (rules_of planar (read_rows j) after.after after.rows)
    unfolding granted_of rules_of storage_rule built_rule joint_rule
    read_held =
        hold-both (model_rules planar (with_mark m true) true ++ (storage_rule plane (with_mark m true) after.rows ∷ [])) _
        (hold-both (model_rules planar (with_mark m true) true) (storage_rule plane (with_mark m true) after.rows ∷ [])
        (all_hold (model_rules planar (with_mark m true) true) (model-numbered planar-laws (with_mark m true) true true) (rules-granted planar-laws (with_mark m true) true marked refl))
        (ap not (le-ltb _ _ after-room), tt))
        (refl, (lt-ltb _ _ h, tt))
      where
        marked : RulesHold planar-laws (with_mark m true)
        marked = record {
          bodies = rules.bodies;
          joints = rules.joints;
          masks = rules.masks;
          present = rules.present;
          apart = rules.apart;
          finite-params = rules.finite-params;
          finite-bodies = rules.finite-bodies;
          finite-joints = rules.finite-joints;
          contents = rules.contents;
          dt = rules.dt;
        }

    read-run : run planar (read_rows j) after.after after.rows ≡ outcome (rows_read (joint_ids plane m.words j) (rows_of plane m.words after.rows j)) after.after after.rows
    unfolding granted_of
    read-run = exactly-granted planar-laws (read_rows j) after.after after.rows read_held

    module _ (n : ℕ) (on : OnLine m j n) where
      ids-listed : joint_ids plane m.words j ≡ listed_ids n
      unfolding joint_ids
      ids-listed = ap (row_ids 2 1) (masks-enabled planar-laws m.words j on.enabled ∙ on.masks)

      rows_made : rows_of plane m.words after.rows j ≡ made_of planar-laws m warm substep j rows
      unfolding granted_of
      rows_made = built-rows m warm substep rows room j h

      joint-masks : (joint_at m.words m.numbers j).«data».masks ≡ entry n
      unfolding joint_at masks_at
      joint-masks = on.masks

      -- the rows of a joint that is enabled, by the ids of its masks
      made-by-ids : made_of planar-laws m warm substep j rows
          ≡ warmed_all warm substep (joint_at m.words m.numbers j) (listed_ids n) (last_at m j rows)
          (finalize_of (map (row_of (context_at m j)) (group_one 2 1 (entry n))) ++ finalize_of (map (row_of (context_at m j)) (group_two 2 1 (entry n))))
      unfolding built_rows builder_update_of update_of
      made-by-ids =
          rw on.enabled
          (ap
          (λ (k : Masks).
          warmed_all warm substep (joint_at m.words m.numbers j) (row_ids 2 1 (joint_at m.words m.numbers j).«data».masks) (last_at m j rows)
          (finalize_of (map (row_of (context_at m j)) (group_one 2 1 k)) ++ finalize_of (map (row_of (context_at m j)) (group_two 2 1 k))))
          (ap (λ (g : GenericJoint). g.masks) (context-joint m.params _ _ (joint_at m.words m.numbers j)) ∙ joint-masks)
          ∙ ap
          (λ (k : Masks).
          warmed_all warm substep (joint_at m.words m.numbers j) (row_ids 2 1 k) (last_at m j rows)
          (finalize_of (map (row_of (context_at m j)) (group_one 2 1 (entry n))) ++ finalize_of (map (row_of (context_at m j)) (group_two 2 1 (entry n)))))
          joint-masks)

      count-listed : row_count plane m.words j ≡ length (listed_ids n)
      unfolding row_count
      count-listed = ap length ids-listed

      pub gives : Gives m warm substep rows j (listed_ids n)
      unfolding row_ids
      gives = record {
        one = group_one 2 1 (entry n);
        two = group_two 2 1 (entry n);
        groups = refl;
        made = made_of planar-laws m warm substep j rows;
        by_ids = made-by-ids;
        count = length-made planar-laws m warm substep j rows ∙ count-listed;
        read = rw ran (read-run ∙ rw (ids-listed, rows_made));
      }

-- each enabled joint has its line
pub catalogued : Catalogued
catalogued m warm substep rows granted j h enabled =
    let k : Masks = masks_at m.words j in
    let o = once k (legal-masks m warm substep rows granted j h) in
    let on : OnLine m j o.place = record { there = h; enabled = enabled; masks = sym o.there } in
    record { line = o.place; inside = o.inside; on = on; gives = gives m warm substep rows granted j h o.place on }
