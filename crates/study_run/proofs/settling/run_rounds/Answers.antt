use mathlib.Core.Path.{refl, sym, ◌∙◌}
use native.Mathlib.Numerals.{unary_clauses}
use Rattle.study_run.proofs.SettledLaws.{rounds-settled, rounds-next, rounds-done}
use Rattle.study_run.proofs.settling.run_rounds.Goals as goal

pub loop-many-init : goal.loop-many-init
loop-many-init c = (refl, refl, simp unary_clauses)

pub returns-then-joints_settled : goal.returns-then-joints_settled
returns-then-joints_settled c = sym (rounds-settled _ _ _ _ _ c.loop-many-test.true c.joints_settled.ensures c.if-joints_settled.true) ∙ c.loop-many.invariant.2

pub loop-many-preserved : goal.loop-many-preserved
loop-many-preserved c =
    let v = c.loop-many.invariant in (
      c.one_round-found.auto.bodies ∙ v.0,
      c.one_round-found.auto.rows ∙ v.1,
      sym (rounds-next _ _ _ _ _ c.loop-many-test.true c.joints_settled.ensures c.if-joints_settled.false c.one_round-found.ensures) ∙ v.2,
    )

pub returns : goal.returns
returns c = sym (rounds-done _ _ _ _ _ c.loop-many.auto.many-end c.loop-many-test.false) ∙ c.loop-many.invariant.2
