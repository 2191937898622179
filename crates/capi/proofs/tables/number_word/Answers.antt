-- `number_word` meets its contract, test by test.
use Rattle.capi.proofs.TableExportsLaws.{word_below, word-zero, word-above}
use Rattle.capi.proofs.tables.number_word.Goals as goal
use Rattle.capi.proofs.tables.number_word.Goals.{else-n-via-then-n+else-n-gt0, else-n-via-else-n}

pub returns-then-n-gt0 : goal.returns-then-n-gt0
returns-then-n-gt0 c = word_below c.args.n c.if-n.true c.if-n-gt0.true

pub returns-else-n : goal.returns-else-n
returns-else-n c =
    elim c.else-n.branch [ else-n-via-then-n+else-n-gt0 w ↦ word-zero c.args.n w.if-n.true w.if-n-gt0.false | else-n-via-else-n w ↦ word-above c.args.n w.if-n.false ]
