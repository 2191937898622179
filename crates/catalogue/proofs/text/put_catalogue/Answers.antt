use mathlib.Core.Path.{ap, ◌∙◌}
use lib.ListN.{length}
use Rattle.texts.proofs.SinkLaws.{put-length}
use Rattle.catalogue.specs.Choices.{choices}
use Rattle.catalogue.specs.Text.{line_text}
use Rattle.catalogue.proofs.TextLaws.{appended-first, lines-turn, lines_end}
use Rattle.catalogue.proofs.text.put_catalogue.Goals as goal

pub loop-n-init : goal.loop-n-init
loop-n-init c = appended-first line_text choices

pub loop-n-preserved : goal.loop-n-preserved
loop-n-preserved c = lines-turn _ c.loop-n.invariant c.loop-n-test.true c.put_line-end.ensures

pub shape_of-out : goal.shape_of-out
shape_of-out c = ap length c.loop-n.invariant.holds ∙ put-length _ _ _

pub returns : goal.returns
returns c = lines_end _ c.loop-n.invariant c.loop-n-test.false
