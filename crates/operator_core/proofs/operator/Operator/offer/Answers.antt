use Rattle.operator_core.proofs.Words.{sym, ap, ◌∙◌, offer_effect}
use Rattle.operator_core.proofs.Offers.{offer_stop-refusal, offered_note, offered_adds, offered_there, refused_note, did_refused}
use Rattle.operator_core.proofs.operator.Operator.offer.Goals as goal

pub returns-in-Err-clause-did : goal.returns-in-Err-clause-did
returns-in-Err-clause-did g c =
    let dig = g.H.Hash32.digest_of c.walk_offered.new.self.hash in
    rw (← c.walk_offered.ensures) (did_refused g.D.Disk.told g.D.Disk.plan g.D.Disk.faults
    (offer_effect dig c.walk_offered.new.self.notes.records c.args.log.now.log c.args.tx.now).note
    c.walk_offered.new.self.notes c.in-Err.why
    (ap (λ s. s.notes.closed) c.walk_offered.ensures ∙ sym c.is_closed.ensures
    ∙ c.if-is_closed.false)
    (λ ruled. refused_note dig c.walk_offered.new.self.notes.records c.args.log.now.log c.args.tx.now c.in-Err.why
    (c.in-Err.ensures.value (λ e. ruled (cc e)))))

pub add_offer-requires : goal.add_offer-requires
add_offer-requires g c =
    offered_adds (g.H.Hash32.digest_of c.walk_offered.new.self.hash) c.walk_offered.new.self.notes.records
    c.args.log.now.log c.args.tx.now c.in-Ok.coin c.is_whole.ensures.role (c.in-Ok.ensures.value (λ e. cc e))

pub returns-in-Ok-add_offer-clause-did : goal.returns-in-Ok-add_offer-clause-did
returns-in-Ok-add_offer-clause-did g c =
    rw (
      ← c.walk_offered.ensures,
      offered_note (g.H.Hash32.digest_of c.walk_offered.new.self.hash)
          c.walk_offered.new.self.notes.records c.args.log.now.log
          c.args.tx.now c.in-Ok.coin (c.in-Ok.ensures.value (λ e. cc e)),
    ) c.in-Ok-add_offer.ensures.did

pub returns-in-Err-add_offer-clause-did : goal.returns-in-Err-add_offer-clause-did
returns-in-Err-add_offer-clause-did g c =
    rw (
      ← c.walk_offered.ensures,
      offered_note (g.H.Hash32.digest_of c.walk_offered.new.self.hash) c.walk_offered.new.self.notes.records
          c.args.log.now.log c.args.tx.now c.in-Ok.coin (c.in-Ok.ensures.value (λ e. cc e)),
      c.offer_refusal.ensures,
      offer_stop-refusal c.in-Err-add_offer.stop,
    ) c.in-Err-add_offer.ensures.did

pub returns-in-Err-add_offer-clause-memory : goal.returns-in-Err-add_offer-clause-memory
returns-in-Err-add_offer-clause-memory g c = λ any. rw (← c.walk_offered.ensures)
    (offered_there (g.H.Hash32.digest_of c.walk_offered.new.self.hash) c.walk_offered.new.self.notes.records
    c.args.log.now.log c.args.tx.now c.in-Ok.coin (c.in-Ok.ensures.value (λ e. cc e)))
