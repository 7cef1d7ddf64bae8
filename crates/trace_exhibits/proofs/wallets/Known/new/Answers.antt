use Rattle.trace_exhibits.proofs.KeptWallets.{keeps-nothing}
use Rattle.trace_exhibits.proofs.wallets.Known.new.Goals as goal

pub returns : goal.returns
returns c = keeps-nothing _ c.new.ensures.items c.new-2.ensures.empty
