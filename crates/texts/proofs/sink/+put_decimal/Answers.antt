-- The digits of n / 10, and then the last one.
use Rattle.texts.proofs.SinkLaws.{appended_then, appended-text, decimal-one, decimal-more}
use Rattle.texts.proofs.sink.+put_decimal.Goals as goal

pub returns-then-n-lt10 : goal.returns-then-n-lt10
returns-then-n-lt10 t c = appended-text (decimal-one _ c.if-n-lt10.true) c.put_byte.ensures

pub returns : goal.returns
returns t c = appended-text (decimal-more _ c.if-n-lt10.false) (appended_then c.put_decimal-a.ensures c.put_byte-2.ensures)
