use Rattle.std.proofs.Common.{ℕ, length, sym, ap, ◌∙◌, arith}
use native.Mathlib.Nat.{sub-zero}
use borrow.Author.Tests.{not-true, not-false}
use Rattle.motor_table.specs.Records.{is_present}
use Rattle.motor_table.specs.Tables.{most_records}
use Rattle.motor_table.specs.Text.{entries_from, records_in, granting, refusal_in, is_sized}
use Rattle.motor_table.proofs.TextLaws.{thirds}
use Rattle.motor_table.proofs.WriteLaws.{at-end, at-full, at-large, at-absent, at_next}
use Rattle.motor_table.proofs.text.table_refusal.Goals as goal

pub loop-k-init : goal.loop-k-init
loop-k-init c = (omega arith, ap (λ (n : ℕ). refusal_in (granting c.args.joints most_records (entries_from c.args.table.now 0 n))) (sub-zero (records_in c.args.table.now)))

pub returns-then-k : goal.returns-then-k
returns-then-k c = sym (at-full c.args.joints most_records (records_in c.args.table.now) c.args.table.now _ c.loop-k-test.true c.if-k.true) ∙ c.loop-k.invariant.1

pub entry_at-e-requires : goal.entry_at-e-requires
entry_at-e-requires c = omega (arith, thirds (length c.args.table.now), c.loop-k-test.true)

pub returns-then-not-is_sized : goal.returns-then-not-is_sized
returns-then-not-is_sized c = sym (at-large c.args.joints most_records (records_in c.args.table.now) c.args.table.now _ c.loop-k-test.true (omega arith) (sym (ap is_sized c.entry_at-e.ensures) ∙ sym c.is_sized.ensures ∙ not-true _ c.if-not-is_sized.true-raw)) ∙ c.loop-k.invariant.1

pub returns-then-not-is_present : goal.returns-then-not-is_present
returns-then-not-is_present c = sym (at-absent c.args.joints most_records (records_in c.args.table.now) c.args.table.now _ c.loop-k-test.true (omega arith) (sym (ap is_sized c.entry_at-e.ensures) ∙ sym c.is_sized.ensures ∙ not-false _ c.if-not-is_sized.false-raw) (sym (ap (is_present c.args.joints) c.entry_at-e.ensures) ∙ sym c.is_present.ensures ∙ not-true _ c.if-not-is_present.true-raw)) ∙ c.loop-k.invariant.1

pub loop-k-preserved : goal.loop-k-preserved
loop-k-preserved c = (omega arith, sym (at_next c.args.joints most_records (records_in c.args.table.now) c.args.table.now _ c.loop-k-test.true (omega arith) (sym (ap is_sized c.entry_at-e.ensures) ∙ sym c.is_sized.ensures ∙ not-false _ c.if-not-is_sized.false-raw) (sym (ap (is_present c.args.joints) c.entry_at-e.ensures) ∙ sym c.is_present.ensures ∙ not-false _ c.if-not-is_present.false-raw)) ∙ c.loop-k.invariant.1)

pub returns : goal.returns
returns c = sym (at-end c.args.joints most_records (records_in c.args.table.now) c.args.table.now _ c.loop-k-test.false) ∙ c.loop-k.invariant.1
