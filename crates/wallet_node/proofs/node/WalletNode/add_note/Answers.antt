use Rattle.std.proofs.Common.{◌≡◌, true, None, Some, sym, ◌∙◌, ap, subst}
use Rattle.std.specs.Option.{option_map}
use Rattle.node_journal.specs.Role.{are_of, may_follow}
use Rattle.node_rules.specs.WalletRecords.{wallet_kinds, note_in, leaves_in}
use Rattle.node_rules.specs.Wallet.{who}
use Rattle.wallet_node.specs.declared.role.WalletRole.{WalletRole}
use Rattle.wallet_node.specs.State.{WalletState}
use Rattle.wallet_node.specs.Inside.{change_of, is_bound_change}
use Rattle.wallet_node.proofs.Parts.{open-both, note-done}
use Rattle.wallet_node.proofs.Added.{change-follows, kept-more}
use Rattle.wallet_node.proofs.node.WalletNode.add_note.Goals as goal

pub add-requires-clause-kind : goal.add-requires-clause-kind
add-requires-clause-kind g c =
    let inside = c.self.inside in
    let records = inside.notes.notes.records in
    let dig = g.H.Hash32.digest_of inside.hash in
    let spells = subst (λ (s : WalletState _ _). Some c.args.change
    ≡ option_map (change_of (who s.records).tag)
    (note_in (g.H.Hash32.digest_of s.hash) (who s.records).tag c.args.body)) (sym c.self.view_is) c.requires.spells in
    let role : are_of (wallet_kinds dig) records ≡ true =
    ap (λ (r : WalletRole _). are_of (wallet_kinds (g.H.Hash32.digest_of r.hash)) records) (sym c.self.invariant.1)
    ∙ c.is_whole.ensures.role in
    ap (λ (r : WalletRole _). may_follow (wallet_kinds (g.H.Hash32.digest_of r.hash)) records c.args.body)
    c.self.invariant.1
    ∙ change-follows dig records c.args.body c.args.change role spells

pub invariant_of-self-in-Ok : goal.invariant_of-self-in-Ok
invariant_of-self-in-Ok g c =
    let inside = c.self.inside in
    let records = inside.notes.notes.records in
    let dig = g.H.Hash32.digest_of inside.hash in
    let spells = subst (λ (s : WalletState _ _). Some c.args.change
    ≡ option_map (change_of (who s.records).tag)
    (note_in (g.H.Hash32.digest_of s.hash) (who s.records).tag c.args.body)) (sym c.self.view_is) c.requires.spells in
    let role : are_of (wallet_kinds dig) records ≡ true =
    ap (λ (r : WalletRole _). are_of (wallet_kinds (g.H.Hash32.digest_of r.hash)) records) (sym c.self.invariant.1)
    ∙ c.is_whole.ensures.role in
    let may = ap (λ (s : WalletState _ _). is_bound_change (leaves_in s.records.leaves) c.args.change) c.self.view_is
    ∙ c.requires.bound in (
      kept-more dig records inside.leaves.notes.records c.args.body c.add.new.self.notes.records inside.who inside.key
          inside.leaves.key inside.memory c.try_over.new.self inside.bodies.items c.args.change role
          c.in-Ok.ensures.did.records spells may c.in_ok-undo.ensures.ok c.self.invariant.0,
      c.add.ensures.role ∙ c.self.invariant.1,
    )

pub returns-in-Ok : goal.returns-in-Ok
returns-in-Ok g c =
    let inside = c.self.inside in
    let both = open-both inside.notes.notes.closed inside.leaves.notes.closed
    (ap (λ (s : WalletState _ _). s.closed) c.self.view_is ∙ sym c.is_closed.ensures ∙ c.if-is_closed.false) in
    note-done g.D.Disk.told g.D.Disk.plan g.D.Disk.faults (Some c.args.body) None inside.notes.notes
    c.add.new.self.notes inside.hash c.args.self.now inside.leaves.notes.disk inside.leaves.notes.closed inside.leaves.notes.records
    c.self.view_is both.1 c.in-Ok.ensures.did

pub returns-in-Err : goal.returns-in-Err
returns-in-Err g c =
    let inside = c.self.inside in
    let both = open-both inside.notes.notes.closed inside.leaves.notes.closed
    (ap (λ (s : WalletState _ _). s.closed) c.self.view_is ∙ sym c.is_closed.ensures ∙ c.if-is_closed.false) in
    note-done g.D.Disk.told g.D.Disk.plan g.D.Disk.faults (Some c.args.body) (Some c.in-Err.stop) inside.notes.notes
    c.add.new.self.notes inside.hash c.args.self.now inside.leaves.notes.disk inside.leaves.notes.closed inside.leaves.notes.records
    c.self.view_is both.1 c.in-Err.ensures.did
