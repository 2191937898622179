-- `put_byte` meets its contract.
use Rattle.texts.proofs.SinkLaws.{appended-byte}
use Rattle.texts.proofs.sink.put_byte.Goals as goal

pub returns : goal.returns
returns c = appended-byte _ _ _ _ _ c.set_byte.ensures c.place_after.ensures
