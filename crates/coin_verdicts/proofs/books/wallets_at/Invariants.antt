use Rattle.std.proofs.Common.{◌≡◌, take}
use Rattle.coin_verdicts.specs.Notes.{wallets_at}
use Rattle.coin_verdicts.specs.Quiet.{is_quiet_at}
use Rattle.coin_verdicts.proofs.books.wallets_at.Given as goal

abbrev pub invariant-loop-wallet : goal.invariant-loop-wallet
invariant-loop-wallet l = l.quiet.items ≡ wallets_at (is_quiet_at l.nodes l.coin) (take l.wallet-index l.wallets)
