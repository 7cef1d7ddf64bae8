use Rattle.std.proofs.Common.{◌∙◌, sym, ap}
use Rattle.world_core.specs.Lines.{name_in}
use Rattle.world_core.proofs.NameLines.{no_name}
use Rattle.world_core.proofs.stepping.name_in.Goals as goal

pub returns-in-Wallet : goal.returns-in-Wallet
returns-in-Wallet c = c.as_slice.ensures ∙ ap name_in (sym c.in-Wallet.is)

pub returns-in_default : goal.returns-in_default
returns-in_default c = no_name c.args.line.now c.in_default.not-Wallet
