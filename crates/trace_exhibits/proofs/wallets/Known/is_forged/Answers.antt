use Rattle.std.proofs.Common.{◌∙◌}
use Rattle.trace_exhibits.proofs.KeptWallets.{forged-none, forged-some}
use Rattle.trace_exhibits.proofs.wallets.Known.is_forged.Goals as goal

pub returns-in-None : goal.returns-in-None
returns-in-None c = λ events keeps.
    forged-none c.args.tag.now events c.args.one.now c.args.count
    (rw (c.in-None.is, c.leaf_in-leaf.ensures, c.as_slice.ensures, c.opening-opening.ensures, c.coin.ensures) at
    c.in_ok-leaf_tx.ensures)

pub returns-in-Some : goal.returns-in-Some
returns-in-Some c = λ events keeps.
    c.some_signs.ensures ∙ forged-some c.args.tag.now events c.args.one.now c.args.self.now c.in-Some.tx c.args.count keeps
    (rw (c.in-Some.is, c.leaf_in-leaf.ensures, c.as_slice.ensures, c.opening-opening.ensures, c.coin.ensures) at
    c.in_ok-leaf_tx.ensures)
