use Rattle.std.proofs.Common.{◌≡◌, false, List, take}
use Rattle.std.specs.List.{list_any}
use Rattle.world_rules.specs.Events.{Event}
use Rattle.trace_exhibits.specs.Wallets.{KeepsWallets, is_forged_in}
use Rattle.trace_exhibits.specs.Tested.{KeepsTested}
use Rattle.trace_exhibits.proofs.forgeries.show_forgery.Given as goal

abbrev pub invariant-loop-one : goal.invariant-loop-one
invariant-loop-one l = (events : List Event) → KeepsWallets events l.known
    → KeepsTested l.tag events l.met l.fn.tested
    → (list_any (is_forged_in l.tag events) (take l.one-index l.shown) ≡ false)
    × KeepsTested l.tag events l.met l.tested
