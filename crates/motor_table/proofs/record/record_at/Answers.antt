use Rattle.std.proofs.Common.{length, drop, sym, ap, ◌∙◌, arith}
use Rattle.motor_table.specs.Scan.{finish_of, scan_from}
use Rattle.motor_table.specs.declared.record.Fields.{Fields}
use Rattle.motor_table.specs.declared.record.Scan.{Scan}
use Rattle.motor_table.proofs.ScanLaws.{scan-is-read, scan-going, scan-ended, scan-fault, scan-stop, scan-open}
use Rattle.motor_table.proofs.record.record_at.Goals as goal

pub loop-i-init : goal.loop-i-init
loop-i-init c = ap (λ (v : Scan). scan_from (length c.args.s.now) v (drop c.args.at c.args.s.now)) c.start-scan.ensures ∙ scan-is-read c.args.s.now c.args.at

pub bounds-s-i : goal.bounds-s-i
bounds-s-i c = omega arith

pub overflow_add-i : goal.overflow_add-i
overflow_add-i c = omega arith

pub returns-in-Ended : goal.returns-in-Ended
returns-in-Ended c = c.finish.ensures ∙ sym (scan-ended c.args.s.now c.loop-i.i c.loop-i.scan c.loop-i-test.true _ (sym c.advance.ensures ∙ c.in-Ended.is)) ∙ c.loop-i.invariant

pub returns-in-Fault : goal.returns-in-Fault
returns-in-Fault c = sym (scan-fault c.args.s.now c.loop-i.i c.loop-i.scan c.loop-i-test.true (sym c.advance.ensures ∙ c.in-Fault.is)) ∙ c.loop-i.invariant

pub loop-i-preserved : goal.loop-i-preserved
loop-i-preserved c = sym (scan-going c.args.s.now c.loop-i.i c.loop-i.scan c.loop-i-test.true _ (sym c.advance.ensures ∙ c.in-Going.is)) ∙ c.loop-i.invariant

pub returns-then-may_end : goal.returns-then-may_end
returns-then-may_end c = c.finish-then-may_end.ensures ∙ ap (λ (e : Fields). finish_of e (length c.args.s.now)) c.close.ensures ∙ sym (scan-stop c.args.s.now c.loop-i.i c.loop-i.scan c.loop-i-test.false (sym c.may_end.ensures ∙ c.if-may_end.true)) ∙ c.loop-i.invariant

pub returns : goal.returns
returns c = sym (scan-open c.args.s.now c.loop-i.i c.loop-i.scan c.loop-i-test.false (sym c.may_end.ensures ∙ c.if-may_end.false)) ∙ c.loop-i.invariant
