-- `put_spelled` meets its contract.
use mathlib.Core.Path.{sym}
use lib.Seq.{length-take-le}
use Rattle.decimals.specs.Spelled.{spelled_text}
use Rattle.decimals.proofs.SpelledLaws.{inside, taken}
use Rattle.texts.proofs.SinkLaws.{appended-text}
use Rattle.study_text.proofs.number.put_spelled.Goals as goal

pub slice_bounds-bytes-end : goal.slice_bounds-bytes-end
slice_bounds-bytes-end c = inside (spelled_text c.args.x) c.spelled-word.ensures

pub slice_bounds-put_text-end : goal.slice_bounds-put_text-end
slice_bounds-put_text-end c = sym (length-take-le _ _ (inside (spelled_text c.args.x) c.spelled-word.ensures))

pub returns : goal.returns
returns c = appended-text (taken (spelled_text c.args.x) c.spelled-word.ensures) c.put_text.ensures
