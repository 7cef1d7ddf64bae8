use Rattle.std.proofs.Common.{Result, sym, ◌∙◌}
use Rattle.std.proofs.lemmas.Bool.{false≢true}
use Rattle.gate_journal.specs.declared.refusal.InitRefusal.{InitRefusal}
use Rattle.node_journal.specs.Begin.{BeginsPair}
use Rattle.run_endings.specs.Faults.{CountsEither}
use Rattle.node_runs.proofs.FaultLaws.{pair-met}
use Rattle.node_runs.proofs.QuietLaws.{init-quiet, init-refused}
use Rattle.hss_runs.specs.Identity.{identity_text}
use Rattle.hss_runs.proofs.init.init_signer.Goals as goal

pub returns-clause-memory : goal.returns-clause-memory
returns-clause-memory g c = λ none is.
    let new_notes = c.begin_pair-notes.result.0 in
    let new_leaves = c.begin_pair-notes.result.1 in
    let answer = c.begin_pair-notes.result.2 in
    init-quiet (CountsEither g.D.Disk.faults c.args.notes c.args.leaves new_notes new_leaves) answer
    (λ fault. false≢true (sym none ∙ c.put_init_answer-status.ensures.memory fault is))
    (pair-met g.D.Disk.told g.D.Disk.plan g.D.Disk.faults (g.K.Sink.taken c.args.sink.now)
    (g.K.Sink.taken c.put_init_answer-status.new.sink) c.put_init_answer-status.result _ c.args.notes c.args.leaves
    new_notes new_leaves answer c.begin_pair-notes.ensures.inits)

pub returns-clause-unmade : goal.returns-clause-unmade
returns-clause-unmade g c = λ none is.
    let d = g.D.Disk in
    init-refused
    (λ (answer : Result Unit InitRefusal). BeginsPair d.told d.plan d.faults d.told d.plan d.faults
    (identity_text c.args.seed) c.args.notes c.args.leaves answer c.begin_pair-notes.result.0
    c.begin_pair-notes.result.1) c.begin_pair-notes.result.2
    (λ made. false≢true (sym none ∙ c.put_init_answer-status.ensures.made made is))
    (rw c.identity_record.ensures at c.begin_pair-notes.ensures.inits)
