use Rattle.std.proofs.Common.{◌≡◌, ℕ, List, Option, sym, ◌∙◌, ap, subst₂}
use Rattle.leaf_journal.specs.Leaves.{marker_effect, migrate_stop}
use Rattle.node_journal.specs.Notes.{Did}
use Rattle.node_journal.specs.declared.stop.Stop.{Stop}
use Rattle.std.specs.Prelude.{Result}
use Rattle.node_rules.specs.declared.refusal.WalletRefusal.{WalletRefusal}
use Rattle.node_rules.specs.Wallet.{migrate_effect}
use Rattle.wallet_node.specs.State.{WalletState, stop_in, wallet_stop}
use Rattle.wallet_node.proofs.Parts.{open-both, leaf-done}
use Rattle.wallet_node.proofs.Leaves.{migrate-same, migrate-stops}
use Rattle.wallet_node.proofs.node.WalletNode.migrate.Goals.{in-Ok, in-Err}
use Rattle.wallet_node.proofs.node.WalletNode.migrate.Goals as goal

pub returns-clause-did : goal.returns-clause-did
returns-clause-did g c =
    let inside = c.self.inside in
    let both = open-both inside.notes.notes.closed inside.leaves.notes.closed
    (ap (λ (s : WalletState _ _). s.closed) c.self.view_is ∙ sym c.is_closed.ensures ∙ c.if-is_closed.false) in
    let stop : migrate_stop c.migrate.result ≡ wallet_stop c.match-migrate.result = elim c.match-migrate.branch [
      | in-Ok w ↦ ap migrate_stop w.in-Ok.is
          ∙ ap (λ (r : Result (Unit {0}) WalletRefusal). wallet_stop r) (sym w.result-is)
      | in-Err w ↦ ap migrate_stop w.in-Err.is ∙ migrate-stops w.in-Err.why
          ∙ ap (λ (why : WalletRefusal). stop_in why) (sym w.migrate_refusal.ensures)
          ∙ ap (λ (r : Result (Unit {0}) WalletRefusal). wallet_stop r) (sym w.result-is)
    ] in
    let note : (marker_effect inside.leaves.notes.records).note ≡ (migrate_effect c.args.self.now.records).leaf =
    migrate-same (record { notes = inside.notes.notes.records; leaves = inside.leaves.notes.records })
    ∙ ap (λ (s : WalletState _ _). (migrate_effect s.records).leaf) c.self.view_is in
    leaf-done g.D.Disk.told g.D.Disk.plan g.D.Disk.faults (migrate_effect c.args.self.now.records).leaf
    (wallet_stop c.match-migrate.result) inside.leaves.notes c.migrate.new.self.notes inside.hash
    c.args.self.now inside.notes.notes.disk inside.notes.notes.closed inside.notes.notes.records c.self.view_is both.0
    (subst₂ (λ (added : Option (List ℕ)) (stopped : Option Stop). Did g.D.Disk.told g.D.Disk.plan g.D.Disk.faults added
    inside.leaves.notes stopped c.migrate.new.self.notes) note stop
    c.migrate.ensures.did)
