-- `put_answer` meets its contract: the answer's kind decides the specification's.
use Rattle.capi.proofs.SeedExportsLaws.{answer-told, settings-told}
use Rattle.capi.proofs.seeds.put_answer.Goals as goal

pub returns-in-Some : goal.returns-in-Some
returns-in-Some c =
    let e = c.in-Some.is in
    record { value = answer-told e; settings_after = settings-told _ e c.put_three.ensures }
