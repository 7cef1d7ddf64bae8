-- What a run of a node leaves on disks on which records of its role stand: they stand still, and so do those of the
-- lines that it answered.
use Rattle.std.proofs.Common.{◌≡◌, ℕ, Bool, true, List, [], Option, Some, None, is_some, Ok, refl, sym, ap, ◌∙◌, subst, inl, inr, arith}
use Rattle.std.proofs.lemmas.List.{append-nil}
use Rattle.std.proofs.lemmas.Grind.{common_steps}
use Rattle.crash_disk.specs.Disk.{History, FaultPlan}
use Rattle.gate_journal.specs.Image.{journal_in}
use Rattle.gate_journal.specs.Journal.{Keeps as KeepsRecords}
use Rattle.gate_journal.specs.Life.{Continue}
use Rattle.node_journal.specs.Notes.{NotesState, Opened}
use Rattle.node_journal.specs.Role.{Kinds, are_of, role_in}
use Rattle.gate_journal.specs.declared.refusal.JournalRefusal.{JournalRefusal}
use Rattle.gate_journal.specs.declared.refusal.JournalRefusal.TheVariants.{NotJournal as PlaceRefusal}
use Rattle.leaf_journal.specs.Records.{leaf_records_read_of}
use Rattle.receipt_audit.specs.Promises.{is_promise}
use Rattle.operator_rules.specs.Records.{operator_kinds, who_is}
use Rattle.node_rules.specs.Wallet.{WalletRecords}
use Rattle.node_replies.specs.Roles.{Role, Wallet, Watcher, Operator}
use Rattle.run_endings.specs.declared.status.Status.{Status}
use Rattle.run_endings.specs.declared.status.Status.TheVariants.{NotJournal}
use Rattle.node_journal.specs.Parts.{Parts, alone, both}
use Rattle.node_roles.specs.Nodes.{Commands}
use Rattle.node_roles.specs.Roles.{watcher_commands, operator_commands, desk_commands}
use Rattle.node_runs.specs.Sessions.{Outside}
use Rattle.node_runs.specs.Runs.{node_found, NodeSession, RunsWatcher, RunsWallet}
use Rattle.node_runs.specs.Operators.{desk_records_in, RefusesDesk, RunsBehind, RunsOperator}
use Rattle.node_lives.specs.Disks.{Pair, BothTell}
use Rattle.node_lives.specs.Calls.{RunsAs}
use Rattle.node_lives.specs.Standing.{GoOn, desk_leaves, are_promised, HasDigests, kinds_of, LeavesStay, Stand}
use Rattle.node_lives.specs.Answered.{lines_answered, Ran, behind_ran, watcher_ran, operator_ran, wallet_ran, ran_as}
use Rattle.node_lives.proofs.Quiet.{quiet-same}
use Rattle.node_lives.proofs.Stays.{StayTold}
use Rattle.node_lives.proofs.Roles.{ok-of, role-found}
use Rattle.node_lives.proofs.Statuses.{session-runs, refusal-runs}
use Rattle.node_lives.proofs.Seeds.{HasSeed, seed-on, seed-is, IsSeeded, Seeded}
use Rattle.node_lives.proofs.Own.{all-same, IsOwn, Leaves, Growing, session-leaves}
use Rattle.node_lives.proofs.OwnEach.{AreEach, EachStays, each-earlier, each-kept, each-fails}
use Rattle.node_lives.proofs.Opens.{tells-some, opened-quiet, Opening, opening}
use Rattle.node_lives.proofs.RoleKept.{AreAlone, watcher-grows, operator-grows}
use Rattle.node_lives.proofs.DeskOrders.{promised-all, IsDesk, desk-grows}
use Rattle.node_lives.proofs.OwnWallet.{both-earlier, wallet-leaves, opened-own, refused-stays, no-place as wallet-place}

none-on : (first : List (List ℕ)) → first ≡ [] → Continue first []
none-on first none = ([], sym (append-nil first ∙ none))

-- of nodes without leaves any are good
abbrev any : List (List ℕ) → Bool
any records = true

alone-each : (kinds : Kinds) (records : WalletRecords) → AreAlone kinds records → AreEach (are_of kinds) any records
alone-each kinds records is = record { notes = is.notes; leaves = refl }

pub desk-each : (seed : List ℕ) (records : WalletRecords) → IsDesk seed records
    → AreEach (are_of operator_kinds) (are_promised seed) records
desk-each seed records is = record { notes = is.notes; leaves = is.leaves }

-- the leaves of an operator's key are read of an image that keeps them
desk-found : (seed image : List ℕ) (records : List (List ℕ)) → KeepsRecords records image
    → are_promised seed records ≡ true → desk_records_in seed image ≡ Ok records
desk-found seed image records keeps is =
    ap (leaf_records_read_of is_promise (desk_leaves seed)) (ok-of (journal_in image) records keeps)
    ∙ promised-all seed records is

module _ {D : Type 0} (told : D → Option History) (plan : D → Option FaultPlan) (faults : D → ℕ)
    (dig : List ℕ → List ℕ) where
  -- what a run found and left, over disks on which these records stand
  pub record RanOn (role : Role) (first : WalletRecords) (new : Pair D) (ran : Ran) : Type 0 where
    pub found : GoOn first ran.found
    pub left : Stand dig told role ran.left new
    pub seeded : Seeded dig role ran.left

  -- a run over such disks, which opened them and answered lines, or didn't
  pub record RunOn (role : Role) (first : WalletRecords) (new : Pair D) (status : Status) (ran : Option Ran) : Type 0
    where
      pub runs : status ≡ NotJournal → ⊥
      pub stands : Stand dig told role first new
      pub goes : (one : Ran) → ran ≡ Some one → RanOn role first new one

  module _ (role : Role) (first : WalletRecords) (new : Pair D) (status : Status) (runs : status ≡ NotJournal → ⊥)
      (stands : Stand dig told role first new) where
    none-runs : RunOn role first new status None
    none-runs = record { runs = runs; stands = stands; goes = λ one is. absurd (cc is) }

    one-runs : (ran : Ran) → RanOn role first new ran → RunOn role first new status (Some ran)
    one-runs ran on = grind (arith, common_steps) steps 20000

  -- a session over disks of which each stays by itself
  pub each-run : {L : Type 0} (are others : List (List ℕ) → Bool) (Good : WalletRecords → Type 0)
      (each : (records : WalletRecords) → Good records → AreEach are others records) (commands : Commands L)
      (growing : Growing dig Good commands) (opened : Parts (NotesState D)) (disks : Parts D) (outside : Outside)
      (status : Status) (first : WalletRecords) → IsOwn dig Good first (node_found told plan faults dig opened)
      → (session : NodeSession told plan faults dig commands opened disks outside (Unit {0}) status)
      → Leaves dig Good (EachStays are others told disks) first (lines_answered session).stream.run.node
      × EachStays are others told disks first
  each-run are others Good each commands growing opened disks outside status first own session =
      let leaves = session-leaves dig Good commands growing told plan faults disks (EachStays are others told disks)
      (each-earlier are others told disks) (each-kept are others told disks faults Good each)
      (each-fails are others told disks faults Good each) opened outside (Unit {0}) status first own session in
      (leaves, each-earlier are others told disks first _ leaves.own.on leaves.stays)

  -- that of notes alone of a role, which were opened
  abbrev OpensRole : Kinds → WalletRecords → D → Type 0
  OpensRole kinds first old = Opening (are_of kinds) (role_in kinds) told plan faults first.notes old

  role-opening : (kinds : Kinds) (first : WalletRecords) (old : D) → is_some (told old) ≡ true
      → StayTold (are_of kinds) first.notes (told old) → OpensRole kinds first old
  role-opening kinds first old tells stay =
      opening (are_of kinds) (role_in kinds) told plan faults first.notes old (role-found kinds) tells stay

  alone-own : (kinds : Kinds) (first : WalletRecords) (old : D) → OpensRole kinds first old → first.leaves ≡ []
      → (opened : NotesState D) → Opened told plan faults (role_in kinds) old opened
      → IsOwn dig (AreAlone kinds) first (node_found told plan faults dig (alone opened))
  alone-own kinds first old notes none opened opens = grind (arith, common_steps, notes, none-on) steps 20000

  -- ---- an operator

  module _ (first : WalletRecords) (old new : Pair D) (outside : Outside) (status : Status)
      (tells : BothTell told old) (stand : Stand dig told Operator first old) (seeded : IsSeeded dig first) where
    abbrev On : Option Ran → Type 0
    On ran = RunOn Operator first new status ran

    pub notes : OpensRole operator_kinds first old.notes
    notes = role-opening operator_kinds first old.notes tells.0 stand.0

    -- records that go on have the seed
    pub later-seed : (later : WalletRecords) → GoOn first later → HasSeed seeded.seed later.notes
    later-seed later on = seed-on seeded.seed first.notes later.notes seeded.has on.notes

    -- the leaves stay by the seed, and by what the notes say
    module _ (seed : Option (List ℕ)) (is : seeded.seed ≡ seed) where
      pub leaves-stand : (later : WalletRecords) → GoOn first later → LeavesStay dig told seed later.leaves new.leaves
          → LeavesStay dig told (who_is later.notes).key_seed later.leaves new.leaves
      leaves-stand later on stay =
          subst (λ (s : Option (List ℕ)). LeavesStay dig told s later.leaves new.leaves)
          (sym (seed-is seeded.seed later.notes (later-seed later on) ∙ is)) stay

      leaves-stay : LeavesStay dig told seed first.leaves old.leaves
      leaves-stay =
          subst (λ (s : Option (List ℕ)). LeavesStay dig told s first.leaves old.leaves)
          (seed-is seeded.seed first.notes seeded.has ∙ is) stand.1

    -- behind its opened notes, without a key
    module _ (opened : NotesState D) (opens : Opened told plan faults (role_in operator_kinds) old.notes opened) where
      keyless-runs : seeded.seed ≡ None
          → (runs : RunsBehind told plan faults dig None opened old.leaves new.notes new.leaves outside (Unit {0})
          status)
          → On (behind_ran told plan faults dig None opened old.leaves new.notes new.leaves outside status runs)
      unfolding behind_ran
      keyless-runs is (session, same) =
          let own = alone-own operator_kinds first old.notes notes (seeded.none is) opened opens in
          let run = each-run (are_of operator_kinds) any (AreAlone operator_kinds) (alone-each operator_kinds)
          operator_commands (operator-grows dig) (alone opened) (alone new.notes) outside status first own session in
          one-runs Operator first new status (session-runs session)
          (run.1.notes, leaves-stand None is first (all-same first) tt) _
          (record {
            found = own.on;
            left = (run.0.stays.notes, leaves-stand None is _ run.0.own.on tt);
            seeded = record {
              seed = seeded.seed;
              has = later-seed _ run.0.own.on;
              digests = seeded.digests;
              none = λ unused. run.0.own.good.leaves;
            };
          })

      -- and with one
      module _ (seed : List ℕ) (is : seeded.seed ≡ Some seed) where
        key : Opening (are_promised seed) (desk_records_in seed) told plan faults first.leaves old.leaves
        key =
            opening (are_promised seed) (desk_records_in seed) told plan faults first.leaves old.leaves
            (desk-found seed) tells.1 (leaves-stay (Some seed) is)

        pub desk-own : (desk : NotesState D) → Opened told plan faults (desk_records_in seed) old.leaves desk
            → IsOwn dig (IsDesk seed) first (node_found told plan faults dig (both opened desk))
        desk-own desk opens_desk =
            let finds = notes.finds opened opens in
            let leaves = key.finds desk opens_desk in
            record {
              dig_is = refl;
              good = record {
                notes = finds.is;
                has =
                    subst (λ (s : Option (List ℕ)). HasSeed s opened.records) is
                    (seed-on seeded.seed first.notes opened.records seeded.has finds.on);
                leaves = leaves.is;
              };
              on = record { notes = finds.on; leaves = leaves.on };
            }

        desk-refused : (why : JournalRefusal) → RefusesDesk told plan faults dig seed old.leaves why new.leaves
            → ((place : ℕ) → why ≡ PlaceRefusal place → ⊥) × StayTold (are_promised seed) first.leaves (told new.leaves)
        desk-refused why (inl refuses) =
            (key.place why new.leaves refuses.refused, key.refused why new.leaves refuses.refused)
        desk-refused why (inr (none, same)) = (
          λ place wrong. cc (none, wrong),
          key.quiet new.leaves (quiet-same (told old.leaves) (told new.leaves) (ap told same)),
        )

        keyed-runs : (runs : RunsBehind told plan faults dig (Some seed) opened old.leaves new.notes new.leaves outside
            (Unit {0}) status)
            → On (behind_ran told plan faults dig (Some seed) opened old.leaves new.notes new.leaves outside status
            runs)
        unfolding behind_ran
        keyed-runs (inl (desk, opens_desk, session)) =
            let own = desk-own desk opens_desk in
            let run = each-run (are_of operator_kinds) (are_promised seed) (IsDesk seed) (desk-each seed) desk_commands
            (desk-grows seed dig (subst (HasDigests dig) is seeded.digests)) (both opened desk)
            (both new.notes new.leaves) outside status first own session in
            one-runs Operator first new status (session-runs session)
            (run.1.notes, leaves-stand (Some seed) is first (all-same first) run.1.leaves) _
            (record {
              found = own.on;
              left = (run.0.stays.notes, leaves-stand (Some seed) is _ run.0.own.on run.0.stays.leaves);
              seeded = record {
                seed = seeded.seed;
                has = later-seed _ run.0.own.on;
                digests = seeded.digests;
                none = λ keyless. absurd (cc (is, keyless));
              };
            })
        keyed-runs (inr (why, (refuses, same), refused)) =
            let leaves = desk-refused why refuses in
            none-runs Operator first new status (refusal-runs why outside status refused leaves.0) (
              notes.quiet new.notes
                  (opened-quiet told plan faults _ old.notes opened new.notes opens same),
              leaves-stand (Some seed) is first (all-same first) leaves.1,
            )

      behind-runs : (seed : Option (List ℕ)) → seeded.seed ≡ seed
          → (runs : RunsBehind told plan faults dig seed opened old.leaves new.notes new.leaves outside (Unit {0})
          status)
          → On (behind_ran told plan faults dig seed opened old.leaves new.notes new.leaves outside status runs)
      behind-runs None is runs = keyless-runs is runs
      behind-runs (Some seed) is runs = keyed-runs seed is runs

    operator-runs : (runs : RunsAs told plan faults dig Operator old new outside status)
        → On (ran_as told plan faults dig Operator old new outside status runs)
    unfolding RunsOperator ran_as operator_ran
    operator-runs (inl (opened, opens, behind)) =
        behind-runs opened opens (who_is opened.records).key_seed
        (sym
        (seed-is seeded.seed opened.records
        (seed-on seeded.seed first.notes opened.records seeded.has (notes.finds opened opens).on))) behind
    operator-runs (inr (why, (refuses, same), refused)) =
        none-runs Operator first new status
        (refusal-runs why outside status refused (notes.place why new.notes refuses.refused)) (
          notes.refused why new.notes refuses.refused,
          subst (LeavesStay dig told (who_is first.notes).key_seed first.leaves) (sym same) stand.1,
        )

  -- ---- a node of any role

  pub run-on : (role : Role) (first : WalletRecords) (old new : Pair D) (outside : Outside) (status : Status)
      → Seeded dig role first → BothTell told old → Stand dig told role first old
      → (runs : RunsAs told plan faults dig role old new outside status)
      → RunOn role first new status (ran_as told plan faults dig role old new outside status runs)
  unfolding RunsWatcher RunsWallet ran_as watcher_ran wallet_ran
  run-on Operator first old new outside status seeded tells stand runs =
      operator-runs first old new outside status tells stand seeded runs
  run-on Wallet first old new outside status seeded tells stand (inl (opened, opens, session)) =
      let n = tells-some (told old.notes) tells.0 in
      let l = tells-some (told old.leaves) tells.1 in
      let own = opened-own dig told plan faults first old.notes old.leaves n.0 l.0 n.1 l.1 (stand n.0 n.1 l.0 l.1)
      opened opens in
      let leaves = wallet-leaves dig told faults new.notes new.leaves plan opened outside (Unit {0}) status first own
      session in
      one-runs Wallet first new status (session-runs session)
      (both-earlier dig told faults new.notes new.leaves first _ leaves.own.on leaves.stays) _
      (record { found = own.on; left = leaves.stays; seeded = tt })
  run-on Wallet first old new outside status seeded tells stand (inr (why, refuses, refused)) =
      let n = tells-some (told old.notes) tells.0 in
      let l = tells-some (told old.leaves) tells.1 in
      let stay = stand n.0 n.1 l.0 l.1 in
      none-runs Wallet first new status
      (refusal-runs why outside status refused
      (wallet-place dig told plan faults first old.notes old.leaves n.0 l.0 n.1 l.1 stay new.notes new.leaves why
      refuses))
      (refused-stays dig told plan faults first old.notes old.leaves n.0 l.0 n.1 l.1 stay new.notes new.leaves why
      refuses)
  run-on Watcher first old new outside status none tells stand (inl (opened, opens, session), same) =
      let kinds = kinds_of dig Watcher in
      let own = alone-own kinds first old.notes (role-opening kinds first old.notes tells.0 stand) none opened opens in
      let run = each-run (are_of kinds) any (AreAlone kinds) (alone-each kinds) watcher_commands (watcher-grows dig)
      (alone opened) (alone new.notes) outside status first own session in
      one-runs Watcher first new status (session-runs session) run.1.notes _
      (record { found = own.on; left = run.0.stays.notes; seeded = run.0.own.good.leaves })
  run-on Watcher first old new outside status none tells stand (inr (why, refuses, refused), same) =
      let notes = role-opening (kinds_of dig Watcher) first old.notes tells.0 stand in
      none-runs Watcher first new status
      (refusal-runs why outside status refused (notes.place why new.notes refuses.refused))
      (notes.refused why new.notes refuses.refused)
