use mathlib.Core.Path.{refl, sym, ◌∙◌}
use native.Mathlib.Nat.{sub-zero}
use Rattle.multibody.proofs.AllJointsLaws.{next-round, no-round, still-sound, still-room}
use borrow.Author.Rules.{rules}
use Rattle.multibody.proofs.all_joints.sweep_all.Goals as goal

pub loop-round-init : goal.loop-round-init
loop-round-init g c = (search rules, refl, refl, refl, rw sub-zero)

pub sweep_round-requires : goal.sweep_round-requires
sweep_round-requires g c =
    record { fact = still-sound (g.K.Kind.system.store) _ _ c.loop-round.invariant.1 c.requires.fact; fact_2 = still-room (g.K.Kind.system.store) _ _ c.loop-round.invariant.2 c.requires.fact_2; numbers_in_bounds = rw c.loop-round.invariant.3 c.requires.numbers_in_bounds }

pub loop-round-preserved : goal.loop-round-preserved
loop-round-preserved g c =
    let v = c.loop-round.invariant in (
      search rules,
      c.sweep_round.auto.bodies ∙ v.1,
      c.sweep_round.auto.rows ∙ v.2,
      c.sweep_round.auto.counts ∙ v.3,
      next-round _ _ _ _ c.loop-round-test.true c.sweep_round.ensures ∙ v.4,
    )

pub returns : goal.returns
returns g c = sym (no-round _ _ _ _ c.loop-round-test.false) ∙ c.loop-round.invariant.4
