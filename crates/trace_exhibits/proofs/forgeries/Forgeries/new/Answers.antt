use Rattle.std.proofs.Common.{[]}
use Rattle.trace_exhibits.proofs.Lined.{no-forgery}
use Rattle.trace_exhibits.proofs.forgeries.Forgeries.new.Goals as goal

pub returns : goal.returns
returns c tag met =
    record { none = no-forgery tag; wallets = c.new.ensures; tested = c.new-2.ensures tag [] met }
