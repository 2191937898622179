-- `katydidzinc_seeded` meets its contract: the test decides the specification's; past it, what is said and left follows from what the callees ensure.
use Rattle.capi.proofs.SeedExportsLaws.{short-drawn, room-drawn}
use Rattle.capi.proofs.seeds.katydidzinc_seeded.Goals as goal

pub returns-then-settings-lt-SEEDED_SETTINGS : goal.returns-then-settings-lt-SEEDED_SETTINGS
returns-then-settings-lt-SEEDED_SETTINGS c =
    let d = short-drawn c.args.seed c.args.settings.now c.args.bodies.now c.args.words.now c.args.numbers.now c.if-settings-lt-SEEDED_SETTINGS.true in
    record { value = d.told; settings_after = d.settings; bodies_after = d.bodies; words_after = d.words; numbers_after = d.numbers }

pub returns : goal.returns
returns c =
    let d = room-drawn c.args.seed c.args.settings.now c.args.bodies.now c.args.words.now c.args.numbers.now c.if-settings-lt-SEEDED_SETTINGS.false c.seeded.ensures c.put_answer.ensures.value c.put_answer.ensures.settings_after in
    record { value = d.told; settings_after = d.settings; bodies_after = d.bodies; words_after = d.words; numbers_after = d.numbers }
