use Rattle.gate_journal.proofs.Words.{◌+◌, Bool, cond, sym, ◌∙◌, ap, with_spare}
use Rattle.gate_journal.proofs.journal.Journal.reserve_one.Goals as goal

pub returns-then-has_spare-clause-room : goal.returns-then-has_spare-clause-room
returns-then-has_spare-clause-room g c =
    let old = c.args.self.now in
    sym (ap (λ (b : Bool). cond b old (with_spare (old.spare_bodies + 1) c.args.bytes old.disk old))
    (sym c.has_spare.ensures ∙ c.if-has_spare.true))
