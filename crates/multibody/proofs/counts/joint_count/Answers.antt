use Rattle.multibody.specs.Counts.{joint_count}
use Rattle.multibody.proofs.CountLaws.{lesser}
use Rattle.multibody.proofs.counts.joint_count.Goals as goal

pub returns : goal.returns
unfolding joint_count
returns g c =
    let k = g.met.K.Kind.widths in
    rw (c.min.ensures, c.WORDS_WIDTH.ensures, c.NUMBERS_WIDTH.ensures, k.words, k.numbers) (lesser _ _)
