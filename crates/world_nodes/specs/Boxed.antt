-- What the parts of a node are, as they are held.
use Rattle.std.specs.Prelude.{ℕ, List}
use Rattle.world_nodes.specs.{declared.boxed.Held.{Held}, declared.boxed.HeldMember.{HeldMember}, declared.down.DownNode.TheVariants.{Watcher as WatcherDown}}
use Rattle.world_nodes.specs.{declared.up.UpNode.TheVariants.{Wallet as WalletUp, Watcher as WatcherUp, Operator as OperatorUp}, declared.entry.Site.{Site}, declared.entry.Site.TheVariants.{Up, Down, Gone}, declared.entry.Member.{Member}}
use Rattle.world_nodes.specs.{declared.entry.Member.TheVariants.{Watcher as WatcherMember, Operator as OperatorMember}, Nodes.{role_of, AreOf}, Inside.{records_in, up_halves, up_hash, up_kind}}

-- the site that is held
abbrev pub site_in : {H : Type 0} → Held H → Site H
site_in (Held.Wallet node) = Up (WalletUp node.value)
site_in (Held.Watcher node) = Up (WatcherUp node.value)
site_in (Held.Operator node) = Up (OperatorUp node.value)
site_in (Held.DownWatcher notes) = Down (WatcherDown notes.value)
site_in (Held.Down down) = Down down.value
site_in Held.Gone = Gone

-- the member that is held
abbrev pub member_in : HeldMember → Member
member_in (HeldMember.Wallet member) = member.value
member_in HeldMember.Watcher = WatcherMember
member_in HeldMember.Operator = OperatorMember

-- the records of a node that is up are of its role
abbrev pub IsWholeSite : {H : Type 0} → (H → List ℕ → List ℕ) → Site H → Type 0
IsWholeSite digest (Up node) = AreOf (digest (up_hash node)) (role_of (up_kind node)) (records_in (up_halves node))
IsWholeSite digest site = Unit {0}
