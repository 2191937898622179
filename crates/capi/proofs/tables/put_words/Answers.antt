-- `put_words` meets its contract: three stores where there is room.
use native.Mathlib.Omega.{arith}
use lib.ListN.{length-set}
use Rattle.capi.proofs.TableExportsLaws.{words-put, words-kept}
use Rattle.capi.proofs.tables.put_words.Goals as goal

pub bounds-words-1 : goal.bounds-words-1
bounds-words-1 c = simp length-set (omega arith)

pub returns-then-words-ge3 : goal.returns-then-words-ge3
returns-then-words-ge3 c = words-put c.args.words.now c.args.e _ _ _ c.if-words-ge3.true c.number_word.ensures c.number_word-then-words-ge3.ensures c.number_word-then-words-ge3-2.ensures

pub returns-else-words-ge3 : goal.returns-else-words-ge3
returns-else-words-ge3 c = words-kept c.args.words.now c.args.e c.if-words-ge3.false
