use Rattle.plasma_tx.proofs.OpeningTexts.{HasOpeningLength-read}
use Rattle.plasma_tx.proofs.opening.RawOpening.open_up_with_defaults.Goals as goal

pub returns-in_err-copy_of-clause-memory : goal.returns-in_err-copy_of-clause-memory
returns-in_err-copy_of-clause-memory g c = λ _.
    HasOpeningLength-read (g.H.Hash32.digest_of c.args.h.now) c.args.self.now.bytes c.as_slice.result.now
    c.in-Some.rest.now c.in-Ok.proof c.as_slice.ensures c.in-Some.ensures.0 c.in-Some.ensures.2
    (c.in-Ok.ensures.read (λ wrong. cc wrong))
