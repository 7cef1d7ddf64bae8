use Rattle.std.proofs.Common.{None, Result, sym, ◌∙◌}
use Rattle.std.proofs.lemmas.Bool.{false≢true}
use Rattle.gate_journal.specs.declared.refusal.InitRefusal.{InitRefusal}
use Rattle.node_journal.specs.Begin.{Inits, init_steps}
use Rattle.operator_rules.specs.Records.{identity_text}
use Rattle.run_endings.specs.Faults.{Counts}
use Rattle.node_runs.proofs.QuietLaws.{init-quiet, init-refused}
use Rattle.node_runs.proofs.init.init_operator.Goals as goal

pub returns-clause-memory : goal.returns-clause-memory
returns-clause-memory g c = λ none is.
    init-quiet (Counts g.D.Disk.faults c.args.notes c.init-notes.result.0) c.init-notes.result.1
    (λ fault. false≢true (sym none ∙ c.put_init_answer-status.ensures.memory fault is)) c.init-notes.ensures.cause

pub returns-clause-unmade : goal.returns-clause-unmade
returns-clause-unmade g c = λ none is.
    init-refused
    (λ (answer : Result Unit InitRefusal). Inits g.D.Disk.told g.D.Disk.plan (init_steps
    (identity_text (record { tag = c.args.tag; account = c.args.account; key_seed = None }))) c.args.notes answer
    c.init-notes.result.0) c.init-notes.result.1
    (λ made. false≢true (sym none ∙ c.put_init_answer-status.ensures.made made is)) c.init-notes.ensures.inits
