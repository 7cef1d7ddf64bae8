-- What a run of an operator with a key gave out stands in the records that it left.
use Rattle.std.proofs.Common.{◌≡◌, ◌⊎◌, ◌<◌, ℕ, List, length, Option, Some, None, Ok, refl, sym, ap, subst, inl, inr, arith}
use Rattle.std.proofs.lemmas.Grind.{common_steps}
use Rattle.crash_disk.specs.Disk.{History, FaultPlan}
use Rattle.leaf_journal.specs.Records.{messages_of}
use Rattle.node_journal.specs.Notes.{NotesState, Opened}
use Rattle.node_journal.specs.Role.{are_of, role_in}
use Rattle.operator_rules.specs.Records.{operator_kinds, who_is}
use Rattle.plasma_tx.specs.declared.call.RootCall.{RootCall}
use Rattle.node_rules.specs.Wallet.{WalletRecords}
use Rattle.node_replies.specs.Roles.{Wallet, Watcher, Operator}
use Rattle.node_replies.specs.Orders.{with_record}
use Rattle.run_endings.specs.declared.status.Status.{Status}
use Rattle.streamed_lines.specs.Streams.{Stream}
use Rattle.streamed_lines.specs.Reading.{next_text}
use Rattle.node_lines.specs.declared.operator_line.OperatorLine.{OperatorLine}
use Rattle.node_lines.specs.Grammar.{operator_line_in}
use Rattle.node_lines.proofs.GrammarLaws.{operator_line_text-in}
use Rattle.plasma_tx.specs.Views.{blocks}
use Rattle.node_answers.specs.Answers.{Outcome}
use Rattle.node_answers.specs.Desks.{desk_records, desk_outcome, issue_outcome}
use Rattle.node_roles.specs.Notes.{NotesAt}
use Rattle.node_journal.specs.Parts.{both}
use Rattle.node_roles.specs.Nodes.{NodeAt, outcome_at}
use Rattle.node_roles.specs.Roles.{desk_commands}
use Rattle.node_sessions.specs.Sessions.{SessionState, begun, calls_of, commanded}
use Rattle.node_runs.specs.Sessions.{Outside, Begins}
use Rattle.node_runs.specs.Runs.{node_rules, node_found, NodeSession}
use Rattle.node_runs.specs.Operators.{desk_records_in, RunsBehind, RunsOperator}
use Rattle.node_lives.specs.Disks.{Pair, BothTell}
use Rattle.node_lives.specs.Calls.{Asked, ToBegin, ToRun, ToSign, ToUseNoDisk, RunsAs, DoesAsked, Starves, Call}
use Rattle.node_lives.specs.Standing.{GoOn, HasDigests, are_promised, Stand}
use Rattle.node_lives.specs.Answered.{kept_at, lines_answered}
use Rattle.node_lives.proofs.Seeds.{HasSeed, seed-on, seed-is, IsSeeded}
use Rattle.node_lives.proofs.Sessions.{spelled-in}
use Rattle.node_lives.proofs.Own.{with_added, IsOwn}
use Rattle.node_lives.proofs.DeskOrders.{IsDesk, desk-grows}
use Rattle.node_lives.proofs.OwnRuns.{desk-each, each-run, leaves-stand, desk-own, later-seed, notes}
use Rattle.key_lives.specs.Desks.{DeskRan, desk_parts, desk_left, issues_at, desk_ran_behind, desk_ran, desk_ran_by, desk_ran_in, GivesReceipt}
use Rattle.key_lives.proofs.DeskTexts.{IsOfDesk, receipt-stays, IsSaneLine, sane-line, issue-gives}
use Rattle.key_lives.proofs.Given.{session-holds}

module _ {D : Type 0} (told : D → Option History) (plan : D → Option FaultPlan) (faults : D → ℕ)
    (dig : List ℕ → List ℕ) where
  -- what a run gave out, as `GivesReceipt`
  pub record GivesIn (ran : DeskRan D) (q : ℕ) (receipt : List ℕ) : Type 0 where
    pub before : Stream (SessionState (NodeAt NotesAt))
    pub lines : Begins (node_rules told plan faults dig desk_commands (desk_parts ran))
        (begun (node_found told plan faults dig (desk_parts ran))) ran.lines.bytes before
    pub answered : before.count < ran.lines.stream.count
    pub line : OperatorLine
    pub spelled : commanded operator_line_in before.run (next_text ran.lines.bytes before) ≡ Some line
    pub transfer : List ℕ
    pub due : ℕ
    pub ordered : line ≡ OperatorLine.Receipt transfer due
    pub leaf : length (messages_of (kept_at before.run.node).leaves) ≡ q
    pub gives : (issues_at before.run transfer due).answer ≡ Ok (record { bytes = receipt })

  pub gives-in : (call : Call told plan faults dig) (q : ℕ) (receipt : List ℕ)
      (out : GivesReceipt told plan faults dig call q receipt) → GivesIn out.ran q receipt
  gives-in call q receipt out = grind (arith, common_steps) steps 150000

  -- what one line adds that is answered with a receipt
  module _ (seed : List ℕ) (digests : (bytes : List ℕ) → length (dig bytes) ≡ 32) (session : SessionState (NodeAt NotesAt))
      (first : WalletRecords) (own : IsOwn dig (IsDesk seed) first session.node) (line : OperatorLine)
      (transfer : List ℕ) (due : ℕ) (ordered : line ≡ OperatorLine.Receipt transfer due)
      (sane : IsSaneLine (OperatorLine.Receipt transfer due)) (q : ℕ) (receipt : List ℕ)
      (leaf : length (messages_of (kept_at session.node).leaves) ≡ q)
      (gives : (issues_at session transfer due).answer ≡ Ok (record { bytes = receipt })) where
    abbrev log : List RootCall
    log = calls_of session.log

    abbrev outcome : Outcome
    outcome = outcome_at desk_commands log session.node line

    outcome-is : outcome ≡ issue_outcome (blocks log) due (issues_at session transfer due)
    unfolding desk_outcome
    outcome-is =
        ap (desk_outcome session.node.dig log (desk_records (kept_at session.node).notes (kept_at session.node).leaves))
        ordered

    pub line-gives : IsOfDesk seed (with_added (kept_at session.node) outcome.note outcome.leaf).leaves q receipt
    line-gives =
        let at_digests : (bytes : List ℕ) → length (session.node.dig bytes) ≡ 32 =
        subst (λ (d : List ℕ → List ℕ). (bytes : List ℕ) → length (d bytes) ≡ 32) (sym own.dig_is) digests in
        let of = issue-gives seed session.node.dig at_digests log (kept_at session.node) own.good transfer due sane q
        receipt leaf gives in
        subst (λ (o : Outcome). IsOfDesk seed (with_record (kept_at session.node).leaves o.leaf) q receipt)
        (sym outcome-is) of

  -- What a run found on disks on which these records stood, and left.
  pub record DeskRun (first : WalletRecords) (seeded : IsSeeded dig first) (new : Pair D) (ran : DeskRan D) : Type 0
    where
      pub seed : List ℕ
      pub seed_is : seeded.seed ≡ Some seed
      pub on : GoOn first (desk_left ran)
      pub has : HasSeed seeded.seed (desk_left ran).notes
      pub left : Stand dig told Operator (desk_left ran) new
      pub gives : (q : ℕ) (receipt : List ℕ) → GivesIn ran q receipt → IsOfDesk seed (desk_left ran).leaves q receipt

  abbrev pub Runs : (first : WalletRecords) → IsSeeded dig first → Pair D → Option (DeskRan D) → Type 0
  Runs first seeded new ran = (one : DeskRan D) → ran ≡ Some one → DeskRun first seeded new one

  module _ (first : WalletRecords) (old new : Pair D) (outside : Outside) (status : Status)
      (tells : BothTell told old) (stand : Stand dig told Operator first old) (seeded : IsSeeded dig first) where
    abbrev Ran : Option (DeskRan D) → Type 0
    Ran ran = Runs first seeded new ran

    module _ (opened : NotesState D) (opens : Opened told plan faults (role_in operator_kinds) old.notes opened)
        (seed : List ℕ) (is : seeded.seed ≡ Some seed) (desk : NotesState D)
        (opens_desk : Opened told plan faults (desk_records_in seed) old.leaves desk) where
      own : IsOwn dig (IsDesk seed) first (node_found told plan faults dig (both opened desk))
      own = desk-own told plan faults dig first old new outside status tells stand seeded opened opens seed is desk
          opens_desk

      digests : (bytes : List ℕ) → length (dig bytes) ≡ 32
      digests = subst (HasDigests dig) is seeded.digests

      session-runs : (session : NodeSession told plan faults dig desk_commands (both opened desk)
          (both new.notes new.leaves) outside (Unit {0}) status)
          → DeskRun first seeded new (record { opened = opened; desk = desk; lines = lines_answered session })
      session-runs session =
          let run = each-run told plan faults dig (are_of operator_kinds) (are_promised seed) (IsDesk seed)
          (desk-each seed) desk_commands (desk-grows seed dig digests) (both opened desk) (both new.notes new.leaves)
          outside status first own session in
          record {
            seed = seed;
            seed_is = is;
            on = run.0.own.on;
            has = later-seed told plan faults dig first old new outside status tells stand seeded _ run.0.own.on;
            left = (
              run.0.stays.notes,
              leaves-stand told plan faults dig first old new outside status tells stand seeded (Some seed) is _
                  run.0.own.on run.0.stays.leaves,
            );
            gives =
                λ q receipt g.
                session-holds told plan faults dig desk_commands (IsDesk seed) (desk-grows seed dig digests)
                (both opened desk) (both new.notes new.leaves) outside (Unit {0}) status first own refl
                (λ (r : WalletRecords). IsOfDesk seed r.leaves q receipt)
                (λ one other more of. receipt-stays seed one.leaves other.leaves q receipt more.leaves of) session
                g.before g.lines g.answered g.line g.spelled
                (λ here few.
                let command = spelled-in operator_line_in g.before.run (next_text (lines_answered session).bytes
                g.before) g.line g.spelled in
                line-gives seed digests g.before.run first here g.line g.transfer g.due g.ordered
                (subst IsSaneLine g.ordered (sane-line g.line (operator_line_text-in _ g.line command).1)) q receipt
                g.leaf g.gives);
          }

    behind-runs : (opened : NotesState D) → Opened told plan faults (role_in operator_kinds) old.notes opened
        → (seed : Option (List ℕ)) → seeded.seed ≡ seed
        → (runs : RunsBehind told plan faults dig seed opened old.leaves new.notes new.leaves outside (Unit {0})
        status)
        → Ran (desk_ran_behind told plan faults dig seed opened old.leaves new.notes new.leaves outside status runs)
    unfolding desk_ran_behind
    behind-runs opened opens None is (session, same) one wrong = absurd (cc wrong)
    behind-runs opened opens (Some seed) is (inl (desk, opens_desk, session)) one named =
        (let ran : DeskRan D = record { opened = opened; desk = desk; lines = lines_answered session } in
        let same : ran ≡ one = cc named in
        subst (DeskRun first seeded new) same (session-runs opened opens seed is desk opens_desk session))
    behind-runs opened opens (Some seed) is (inr refused) one wrong = absurd (cc wrong)

    none-runs : Ran None
    none-runs one wrong = absurd (cc wrong)

    operator-runs : (runs : RunsAs told plan faults dig Operator old new outside status)
        → Ran (desk_ran told plan faults dig old.notes old.leaves new.notes new.leaves outside status runs)
    unfolding RunsOperator desk_ran
    operator-runs (inl (opened, opens, behind)) =
        behind-runs opened opens (who_is opened.records).key_seed
        (sym
        (seed-is seeded.seed opened.records
        (seed-on seeded.seed first.notes opened.records seeded.has
        ((notes told plan faults dig first old new outside status tells stand seeded).finds opened opens).on))) behind
    operator-runs (inr refused) = none-runs

    by-runs : (asked : Asked)
        → (did : DoesAsked told plan faults dig asked old new outside status ⊎ Starves old new status)
        → Ran (desk_ran_by told plan faults dig asked old new outside status did)
    unfolding desk_ran_by
    by-runs (ToRun Operator) (inl did) = operator-runs did
    by-runs (ToRun Operator) (inr starves) = none-runs
    by-runs (ToRun Wallet) did = none-runs
    by-runs (ToRun Watcher) did = none-runs
    by-runs (ToBegin disks identity) did = none-runs
    by-runs (ToSign message) did = none-runs
    by-runs ToUseNoDisk did = none-runs

  pub call-runs : (first : WalletRecords) (seeded : IsSeeded dig first) (call : Call told plan faults dig)
      → BothTell told call.old → Stand dig told Operator first call.old
      → Runs first seeded call.new (desk_ran_in told plan faults dig call)
  call-runs first seeded call tells stand =
      by-runs first call.old call.new call.outside call.status tells stand seeded call.asked call.did
