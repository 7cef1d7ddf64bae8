use Rattle.proof_archive.proofs.SpellLaws.{spell-copied}
use Rattle.proof_archive.proofs.coin.CoinArchive.up_to.Goals as goal

pub returns-clause-spellable : goal.returns-clause-spellable
returns-clause-spellable c =
    spell-copied c.copies_up_to.result c.args.tip c.self.inside.openings.items c.as_slice.result.now c.self.invariant
    c.as_slice.ensures.value c.copies_up_to.ensures.copied
