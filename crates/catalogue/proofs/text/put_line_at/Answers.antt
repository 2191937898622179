-- `put_line_at` meets its contract.
use mathlib.Core.Path.{sym}
use Rattle.texts.proofs.SinkLaws.{appended-none, appended-text}
use Rattle.catalogue.proofs.TextLaws.{there-line, no_line}
use Rattle.catalogue.proofs.text.put_line_at.Goals as goal

pub returns-then-n-lt-CHOICES : goal.returns-then-n-lt-CHOICES
returns-then-n-lt-CHOICES c = appended-text (sym (there-line _ c.if-n-lt-CHOICES.true)) c.put_line.ensures

pub returns-else-n-lt-CHOICES : goal.returns-else-n-lt-CHOICES
returns-else-n-lt-CHOICES c = appended-text (sym (no_line c.args.n c.if-n-lt-CHOICES.false)) (appended-none c.args.out.now 0)
