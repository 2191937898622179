-- `katydidzinc_read_study` meets its contract: the test decides the specification's; past it, what is said and left follows from what the callees ensure.
use mathlib.Core.Path.{sym, ◌∙◌}
use Rattle.study_capi.proofs.ReadLaws.{parts, left-read, left-unread}
use Rattle.study_capi.proofs.read.katydidzinc_read_study.Goals as goal

pub returns-then-is_room : goal.returns-then-is_room
returns-then-is_room c =
    let p = parts (left-read c.args.text.now c.args.numbers.now c.args.origins.now c.args.words.now c.args.names.now (sym c.is_room.ensures ∙ c.if-is_room.true) c.read_cleared.ensures c.told.ensures) in
    record { value = p.0; numbers_after = p.1.0; origins_after = p.1.1.0; words_after = p.1.1.1.0; names_after = p.1.1.1.1 }

pub returns-else-is_room : goal.returns-else-is_room
returns-else-is_room c =
    let p = parts (left-unread c.args.text.now c.args.numbers.now c.args.origins.now c.args.words.now c.args.names.now (sym c.is_room.ensures ∙ c.if-is_room.false) c.short_read.ensures) in
    record { value = p.0; numbers_after = p.1.0; origins_after = p.1.1.0; words_after = p.1.1.1.0; names_after = p.1.1.1.1 }
