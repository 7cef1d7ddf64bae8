use Rattle.std.proofs.Common.{refl}
use Rattle.plasma_tx.proofs.Keeps.{keeps-nothing}
use Rattle.plasma_tx.proofs.kept.Kept.new.Goals as goal

pub returns : goal.returns
returns c =
    keeps-nothing _ refl c.new.ensures.items c.new-2.ensures.items c.new-3.ensures c.new-4.ensures.empty
    c.new-5.ensures.empty c.new-6.ensures.empty
