use mathlib.Core.Path.{refl, sym, ◌∙◌}
use native.Mathlib.Nat.{sub-zero}
use native.Mathlib.Omega.{arith}
use lib.ListN.{length-set}
use Rattle.model.specs.Store.{put_first}
use Rattle.model.specs.Planar.{plane}
use Rattle.multibody.proofs.JointRowsLaws.{few-rows}
use Rattle.multibody.proofs.CountLaws.{rows_before-none}
use Rattle.multibody.proofs.StoredFirsts.{no-first, next-first, first_next, first_small}
use Rattle.model.proofs.PlanarLaws.{planar-laws}
use Rattle.model.proofs.counts.store_firsts.Goals as goal

pub loop-j-init : goal.loop-j-init
loop-j-init c = (omega arith, refl, sym (rows_before-none plane _), rw sub-zero)

pub overflow_cast-words : goal.overflow_cast-words
overflow_cast-words c = omega (arith, first_small planar-laws _ _ _ _ c.loop-j.invariant.2 c.loop-j-test.true c.requires.n_le_most_joints)

pub bounds-words-j : goal.bounds-words-j
bounds-words-j c = omega (arith, c.loop-j-test.true, c.loop-j.invariant.1, c.requires.words_width_in_bounds)

pub count_at-first-requires : goal.count_at-first-requires
count_at-first-requires c = simp length-set (omega (arith, c.loop-j-test.true, c.loop-j.invariant.1, c.requires.words_width_in_bounds))

pub overflow_add-first : goal.overflow_add-first
overflow_add-first c =
    omega (arith, first_small planar-laws _ _ _ _ c.loop-j.invariant.2 c.loop-j-test.true c.requires.n_le_most_joints, few-rows planar-laws _ _ c.count_at-first.ensures.value)

pub loop-j-preserved : goal.loop-j-preserved
unfolding put_first
loop-j-preserved c =
    let v = c.loop-j.invariant in (
      omega (arith, c.loop-j-test.true),
      simp length-set v.1,
      first_next planar-laws _ _ _ _ v.2 c.count_at-first.ensures.value,
      sym (next-first plane _ _ _ c.loop-j-test.true v.2) ∙ v.3,
    )

pub returns : goal.returns
returns c = sym (no-first plane _ _ _ c.loop-j-test.false) ∙ c.loop-j.invariant.3
