use Rattle.std.proofs.Common.{rules, ◌≡◌, ◌<◌, ℕ, List, [], ◌∷◌, ◌++◌, length, true, None, Some, Err, Option, refl, sym, ◌∙◌, ap, subst, subst₂}
use Rattle.std.specs.Prelude.{IfSome}
use Rattle.lms_sign.specs.Types.{leaf_count}
use Rattle.plasma_tx.specs.declared.body.Body.{Body}
use Rattle.plasma_tx.specs.Spelling.{body_text, body_at_start}
use Rattle.leaf_journal.specs.Records.{binding_record, is_marked, MayBind, messages_of}
use Rattle.leaf_journal.specs.Leaves.{leaves_of, bind_stop}
use Rattle.leaf_journal.proofs.Binding.{bind-did, bind-fails, bind-stays}
use Rattle.node_journal.specs.Notes.{Did}
use Rattle.node_journal.specs.declared.stop.Stop.{Stop}
use Rattle.node_rules.specs.WalletRecords.{is_body}
use Rattle.node_rules.specs.Wallet.{who, used}
use Rattle.wallet_node.specs.State.{WalletState, stop_in}
use Rattle.wallet_node.proofs.Parts.{open-both, leaf-done}
use Rattle.wallet_node.proofs.Leaves.{bind-stops, body-binds, kept-bound, kept-same}
use Rattle.wallet_node.proofs.node.WalletNode.send_body.Goals as goal

pub bind-requires : goal.bind-requires
bind-requires g c =
    let form = subst (λ (s : WalletState _ _). IfSome c.args.body.last (λ last. is_marked s.records.leaves ≡ true))
    (sym c.self.view_is) c.requires.form in
    subst (MayBind c.self.inside.leaves.notes.records) (sym (c.as_slice-3.ensures ∙ c.write-message.ensures))
    (body-binds c.self.inside.leaves.notes.records c.args.body c.read_back-body.ensures.tag c.read_back-body.ensures.key
    form)

pub invariant_of-self-in-Ok-bind : goal.invariant_of-self-in-Ok-bind
invariant_of-self-in-Ok-bind g c =
    let inside = c.self.inside in
    let leaves = inside.leaves.notes.records in
    let message = c.as_slice-3.result.now in
    let form = subst (λ (s : WalletState _ _). IfSome c.args.body.last (λ last. is_marked s.records.leaves ≡ true))
    (sym c.self.view_is) c.requires.form in
    let may : MayBind leaves message = subst (MayBind leaves) (sym (c.as_slice-3.ensures ∙ c.write-message.ensures))
    (body-binds leaves c.args.body c.read_back-body.ensures.tag c.read_back-body.ensures.key form) in
    let same = c.as_slice-3.ensures ∙ sym c.as_slice.ensures in
    let left : length (messages_of inside.leaves.notes.records) < leaves_of inside.leaves.key =
    subst (λ (n : ℕ). length (messages_of inside.leaves.notes.records) < n) (sym c.self.invariant.0.count)
    (subst (λ (s : WalletState _ _). used s.records < leaf_count (who s.records).types) (sym c.self.view_is)
    c.requires.left) in
    let added = bind-did inside.leaves.key leaves message left g.D.Disk.told g.D.Disk.plan g.D.Disk.faults
    inside.leaves.notes c.bind.new.self.notes None c.in-Ok-bind.ensures.did in
    let pushed : c.push.new.self.items ≡ inside.bodies.items ++ record { body = c.read_back-body.result } ∷ [] = search
    (rules, c.unwrap.ensures, c.push.ensures.items, c.reserve.ensures.items) in (
      kept-same (g.H.Hash32.digest_of inside.hash) inside.notes.notes.records c.bind.new.self.notes.records
          c.bind.new.self.notes.records inside.who inside.key inside.leaves.key c.bind.new.self.key inside.memory
          c.push.new.self.items c.push.new.self.items refl c.bind.ensures.key refl
          (kept-bound (g.H.Hash32.digest_of inside.hash) inside.notes.notes.records leaves message
          c.bind.new.self.notes.records inside.who inside.key inside.leaves.key inside.memory inside.bodies.items
          c.push.new.self.items may (ap is_body same ∙ c.read_back-body.ensures.is_body)
          added.records c.in-Ok-bind.ensures.messages
          (pushed ∙ ap (λ (b : Body). inside.bodies.items ++ record { body = b } ∷ [])
          (c.read_back-body.ensures.read ∙ ap body_at_start (sym same)))
          c.self.invariant.0),
      c.self.invariant.1,
    )

pub invariant_of-self-in-Err-bind : goal.invariant_of-self-in-Err-bind
invariant_of-self-in-Err-bind g c =
    let inside = c.self.inside in
    let left : length (messages_of inside.leaves.notes.records) < leaves_of inside.leaves.key =
    subst (λ (n : ℕ). length (messages_of inside.leaves.notes.records) < n) (sym c.self.invariant.0.count)
    (subst (λ (s : WalletState _ _). used s.records < leaf_count (who s.records).types) (sym c.self.view_is)
    c.requires.left) in
    let same = bind-stays inside.leaves.key inside.leaves.notes.records c.as_slice-3.result.now left g.D.Disk.told
    g.D.Disk.plan g.D.Disk.faults inside.leaves.notes c.bind.new.self.notes c.in-Err-bind.why
    c.in-Err-bind.ensures.answer c.in-Err-bind.ensures.did in (
      kept-same (g.H.Hash32.digest_of inside.hash) inside.notes.notes.records inside.leaves.notes.records
          c.bind.new.self.notes.records inside.who inside.key inside.leaves.key c.bind.new.self.key inside.memory
          inside.bodies.items c.reserve.new.self.items same c.bind.ensures.key c.reserve.ensures.items c.self.invariant.0,
      c.self.invariant.1,
    )

pub returns-in-Ok-bind-clause-did : goal.returns-in-Ok-bind-clause-did
returns-in-Ok-bind-clause-did g c =
    let inside = c.self.inside in
    let both = open-both inside.notes.notes.closed inside.leaves.notes.closed
    (ap (λ (s : WalletState _ _). s.closed) c.self.view_is ∙ c.requires.open) in
    let message_is = c.as_slice-3.ensures ∙ c.write-message.ensures in
    let left : length (messages_of inside.leaves.notes.records) < leaves_of inside.leaves.key =
    subst (λ (n : ℕ). length (messages_of inside.leaves.notes.records) < n) (sym c.self.invariant.0.count)
    (subst (λ (s : WalletState _ _). used s.records < leaf_count (who s.records).types) (sym c.self.view_is)
    c.requires.left) in
    let noted = ap (λ (m : List ℕ). Some (binding_record inside.leaves.notes.records m)) message_is
    ∙ ap (λ (s : WalletState _ _). Some (binding_record s.records.leaves (body_text c.args.body))) c.self.view_is in
    leaf-done g.D.Disk.told g.D.Disk.plan g.D.Disk.faults
    (Some (binding_record c.args.self.now.records.leaves (body_text c.args.body))) None inside.leaves.notes
    c.bind.new.self.notes inside.hash c.args.self.now inside.notes.notes.disk inside.notes.notes.closed
    inside.notes.notes.records c.self.view_is both.0
    (subst (λ (added : Option (List ℕ)). Did g.D.Disk.told g.D.Disk.plan g.D.Disk.faults added inside.leaves.notes
    None c.bind.new.self.notes) noted
    (bind-did inside.leaves.key inside.leaves.notes.records c.as_slice-3.result.now left g.D.Disk.told g.D.Disk.plan
    g.D.Disk.faults inside.leaves.notes c.bind.new.self.notes None c.in-Ok-bind.ensures.did))

pub returns-in-Err-bind-clause-answer : goal.returns-in-Err-bind-clause-answer
returns-in-Err-bind-clause-answer g c none =
    let inside = c.self.inside in
    let left : length (messages_of inside.leaves.notes.records) < leaves_of inside.leaves.key =
    subst (λ (n : ℕ). length (messages_of inside.leaves.notes.records) < n) (sym c.self.invariant.0.count)
    (subst (λ (s : WalletState _ _). used s.records < leaf_count (who s.records).types) (sym c.self.view_is)
    c.requires.left) in
    absurd (bind-fails inside.leaves.key inside.leaves.notes.records c.as_slice-3.result.now left c.in-Err-bind.why
    c.in-Err-bind.ensures.answer (bind-stops c.in-Err-bind.why ∙ ap stop_in (sym c.bind_refusal.ensures) ∙ none))

pub returns-in-Err-bind-clause-did : goal.returns-in-Err-bind-clause-did
returns-in-Err-bind-clause-did g c =
    let inside = c.self.inside in
    let both = open-both inside.notes.notes.closed inside.leaves.notes.closed
    (ap (λ (s : WalletState _ _). s.closed) c.self.view_is ∙ c.requires.open) in
    let left : length (messages_of inside.leaves.notes.records) < leaves_of inside.leaves.key =
    subst (λ (n : ℕ). length (messages_of inside.leaves.notes.records) < n) (sym c.self.invariant.0.count)
    (subst (λ (s : WalletState _ _). used s.records < leaf_count (who s.records).types) (sym c.self.view_is)
    c.requires.left) in
    let message_is = c.as_slice-3.ensures ∙ c.write-message.ensures in
    let noted = ap (λ (m : List ℕ). Some (binding_record inside.leaves.notes.records m)) message_is
    ∙ ap (λ (s : WalletState _ _). Some (binding_record s.records.leaves (body_text c.args.body))) c.self.view_is in
    leaf-done g.D.Disk.told g.D.Disk.plan g.D.Disk.faults
    (Some (binding_record c.args.self.now.records.leaves (body_text c.args.body))) (stop_in c.bind_refusal.result)
    inside.leaves.notes c.bind.new.self.notes inside.hash c.args.self.now inside.notes.notes.disk
    inside.notes.notes.closed inside.notes.notes.records c.self.view_is both.0
    (subst₂ (λ (added : Option (List ℕ)) (stopped : Option Stop). Did g.D.Disk.told g.D.Disk.plan g.D.Disk.faults added
    inside.leaves.notes stopped c.bind.new.self.notes) noted
    (bind-stops c.in-Err-bind.why ∙ ap stop_in (sym c.bind_refusal.ensures))
    (bind-did inside.leaves.key inside.leaves.notes.records c.as_slice-3.result.now left g.D.Disk.told g.D.Disk.plan
    g.D.Disk.faults inside.leaves.notes c.bind.new.self.notes (bind_stop (Err c.in-Err-bind.why))
    c.in-Err-bind.ensures.did))
