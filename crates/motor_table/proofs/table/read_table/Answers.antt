use Rattle.std.proofs.Common.{sym, refl, ◌∙◌, arith}
use Rattle.std.proofs.lemmas.Result.{err_from_is_err_and}
use borrow.Author.Tests.{not-true, not-false}
use Rattle.motor_table.specs.Tables.{most_records}
use Rattle.motor_table.proofs.TableLaws.{answer-end, answer-full, answer-next, answer-absent, answer-faulty}
use Rattle.motor_table.proofs.table.read_table.Goals as goal

pub loop-at-init : goal.loop-at-init
loop-at-init c = (omega arith, refl)

pub returns-then-count-eq-MOST_RECORDS : goal.returns-then-count-eq-MOST_RECORDS
returns-then-count-eq-MOST_RECORDS c = sym (answer-full c.args.joints most_records c.loop-at.count c.args.s.now c.loop-at.at c.loop-at-test.true c.if-count-eq-MOST_RECORDS.true) ∙ c.loop-at.invariant.1

pub returns-in_err-read : goal.returns-in_err-read
returns-in_err-read c = let p = err_from_is_err_and c.from_residual.result c.from_residual.ensures.1 in rw (p.1, p.2) (sym (answer-faulty c.args.joints most_records c.loop-at.count c.args.s.now c.loop-at.at c.loop-at-test.true (omega arith) _ (sym c.record_at.ensures ∙ c.in_err-read.was)) ∙ c.loop-at.invariant.1)

pub returns-then-not-is_present : goal.returns-then-not-is_present
returns-then-not-is_present c = sym (answer-absent c.args.joints most_records c.loop-at.count c.args.s.now c.loop-at.at c.loop-at-test.true (omega arith) _ (sym c.record_at.ensures ∙ c.in_ok-read.was) (sym c.is_present.ensures ∙ not-true _ c.if-not-is_present.true-raw)) ∙ c.loop-at.invariant.1

pub overflow_add-count : goal.overflow_add-count
overflow_add-count c = omega arith

pub loop-at-smaller : goal.loop-at-smaller
loop-at-smaller c = omega arith

pub loop-at-preserved : goal.loop-at-preserved
loop-at-preserved c = (omega arith, sym (answer-next c.args.joints most_records c.loop-at.count c.args.s.now c.loop-at.at c.loop-at-test.true (omega arith) _ (sym c.record_at.ensures ∙ c.in_ok-read.was) (sym c.is_present.ensures ∙ not-false _ c.if-not-is_present.false-raw)) ∙ c.loop-at.invariant.1)

pub returns : goal.returns
returns c = sym (answer-end c.args.joints most_records c.loop-at.count c.args.s.now c.loop-at.at c.loop-at-test.false) ∙ c.loop-at.invariant.1
