use Rattle.std.proofs.Common.{length, sym, refl, ap, ◌∙◌, arith}
use Rattle.texts.proofs.SinkLaws.{appended-none, appended_then, appended-text, put-length}
use Rattle.motor_table.specs.Text.{record_text}
use Rattle.motor_table.proofs.TextLaws.{rest-none, rest_all, rest_more, thirds}
use Rattle.motor_table.proofs.text.put_table.Goals as goal

pub loop-k-init : goal.loop-k-init
loop-k-init c = (refl, λ last r s. appended-text (rest_all c.args.table.now) s)

pub entry_at-requires : goal.entry_at-requires
entry_at-requires c = omega (arith, thirds (length c.args.table.now), c.loop-k-test.true)

pub loop-k-preserved : goal.loop-k-preserved
loop-k-preserved c = (ap length c.put_record-end.ensures.holds ∙ put-length _ _ _ ∙ c.loop-k.invariant.0, λ last r s. c.loop-k.invariant.1 last r (appended-text (sym (rest_more c.args.table.now _ c.loop-k-test.true)) (appended_then (appended-text (ap record_text c.entry_at.ensures) c.put_record-end.ensures) s)))

pub shape_of-out : goal.shape_of-out
shape_of-out c = c.loop-k.invariant.0

pub returns : goal.returns
returns c = c.loop-k.invariant.1 _ _ (appended-text (sym (rest-none c.args.table.now _ c.loop-k-test.false)) (appended-none _ _))
