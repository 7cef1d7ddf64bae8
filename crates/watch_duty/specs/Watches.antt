-- A coin that is watched: what the rules of the calls that are due read of it.
use Rattle.std.specs.Prelude.{◌≡◌, Bool, List, [], ◌++◌, Option, is_some, unwrap_or}
use Rattle.plasma_tx.specs.{declared.links.Links.{Links}, declared.call.RootCall.{RootCall}}
use Rattle.watch_duty.specs.{declared.guard.Guard.{Guard}, declared.watch.Watch.{Watch}, Duty.{guard_of}}

-- the log's calls
abbrev pub log_of : Watch → List RootCall
log_of watch = watch.log.now.log

-- the coin as a guard, and its links
abbrev pub guard_in : Watch → Guard
guard_in watch = guard_of watch.coin watch.deposit watch.spends.now

abbrev pub links_of : Watch → Links
links_of watch = (guard_in watch).links

-- the rule was tried: whether it speaks of the exit, and its calls were added
abbrev pub IsTried : Option (List RootCall) → List RootCall → List RootCall → Bool → Type 0
IsTried rule old new speaks = (speaks ≡ is_some rule) × (new ≡ old ++ unwrap_or rule [])
