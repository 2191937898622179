use mathlib.Core.Path.{ap, ◌∙◌}
use native.Mathlib.Omega.{arith}
use lib.ListN.{length, take}
use Rattle.texts.proofs.SinkLaws.{put-length}
use Rattle.catalogue.proofs.TextLaws.{appended-first, named, named-appended, ids-few, ids-turn, ids-end}
use Rattle.catalogue.proofs.text.put_ids.Goals as goal

pub loop-next-init : goal.loop-next-init
loop-next-init c = appended-first named (take c.row_ids-made.result.len c.row_ids-made.result.ids)

pub offset_bounds-made-next : goal.offset_bounds-made-next
offset_bounds-made-next c = omega (arith, ids-few c.args.k c.row_ids-made.ensures)

pub bounds-made-next : goal.bounds-made-next
bounds-made-next c = omega (arith, ids-few c.args.k c.row_ids-made.ensures)

pub loop-next-preserved : goal.loop-next-preserved
loop-next-preserved c = ids-turn c.args.k c.row_ids-made.ensures _ c.loop-next.invariant c.loop-next-test.true (named-appended _ c.put_byte-a.ensures c.put_id-end.ensures)

pub shape_of-out : goal.shape_of-out
shape_of-out c = ap length c.loop-next.invariant.holds ∙ put-length _ _ _

pub returns : goal.returns
returns c = ids-end c.args.k c.row_ids-made.ensures _ c.loop-next.invariant c.loop-next-test.false
