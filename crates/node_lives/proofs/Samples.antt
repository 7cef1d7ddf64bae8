-- A small life of a wallet is one: each of its calls did what its clause says.
use Rattle.std.proofs.Common.{◌≡◌, ◌++◌, ℕ, true, false, List, [], ◌∷◌, codes, Some, Result, Ok, Err, refl, sym, ap, ◌∙◌, subst, inl, inr, lit<, lit≤}
use Rattle.crash_disk.specs.Disk.{Step, content, synced_content, LeavesOnly}
use Rattle.crash_disk.specs.Calls.{WhereTold, passed, failed_after}
use Rattle.crash_disk.specs.declared.outcome.Outcome.TheVariants.{Old}
use Rattle.crash_disk.proofs.Images.{outcomes}
use Rattle.gate_journal.specs.Image.{journal_in}
use Rattle.gate_journal.specs.Journal.{IsSettled, KeepsWithOrWithout}
use Rattle.gate_journal.specs.Steps.{open_steps}
use Rattle.node_journal.specs.Notes.{Opened}
use Rattle.node_journal.specs.Role.{are_of, role_in}
use Rattle.node_journal.specs.Begin.{is_taken, journal_steps, init_steps, InitsOver, PassesInit}
use Rattle.gate_journal.specs.declared.refusal.InitRefusal.TheVariants.{DeviceFault as InitFault}
use Rattle.gate_journal.proofs.Rest.{settled_rests, course_leaves}
use Rattle.leaf_journal.specs.Records.{marker, leaf_records_of, leaf_records_read_of, leaf_records_in_of, records_behind_of}
use Rattle.node_rules.specs.WalletRecords.{wallet_kinds, is_body, identity_in, notes_of}
use Rattle.node_rules.specs.WalletOpening.{leaves_of}
use Rattle.wallet_node.specs.State.{leaves_part}
use Rattle.wallet_node.specs.Opening.{OpensWallet}
use Rattle.node_replies.specs.Roles.{Wallet}
use Rattle.node_lines.specs.Grammar.{wallet_line_in}
use Rattle.node_answers.specs.Answers.{Outcome}
use Rattle.node_roles.specs.Notes.{NotesAt}
use Rattle.node_journal.specs.Parts.{both}
use Rattle.node_roles.specs.Nodes.{NodeAt}
use Rattle.node_roles.specs.Roles.{wallet_parts, wallet_commands}
use Rattle.node_sessions.specs.Sessions.{SessionState, begun}
use Rattle.streamed_lines.specs.Bounds.{TakesFew}
use Rattle.streamed_lines.specs.Lines.{lines_in}
use Rattle.streamed_lines.specs.Streams.{Streamed, stream_of}
use Rattle.run_endings.specs.Outputs.{EndsAs}
use Rattle.run_endings.specs.Texts.{device_fault_text, refused_text}
use Rattle.run_endings.specs.declared.status.Status.{Status}
use Rattle.run_endings.specs.declared.status.Status.TheVariants.{Done, Refused, DeviceFault}
use Rattle.node_runs.specs.Disks.{Keeps, MayKeep, opened_at, KeepsNode, NodeFailed}
use Rattle.run_endings.specs.Endings.{session_output, last_text}
use Rattle.node_runs.specs.Inits.{InitsPair}
use Rattle.node_runs.specs.Sessions.{Outside}
use Rattle.node_runs.specs.Runs.{NodeSession, RunsWallet}
use Rattle.node_lives.specs.Disks.{Pair, Stays, Crashed}
use Rattle.node_lives.specs.Calls.{Asked, BothDisks, ToBegin, ToRun, DoesAsked}
use Rattle.node_lives.specs.Lives.{IsLife}
use Rattle.node_lives.specs.Answered.{kept_at, wallet_ran, ran_as, ran_by}
use Rattle.node_lives.specs.Samples.{Drive, told, foretold, met, identity, input, DriveCall, SmallLife}
use Rattle.node_lives.proofs.Roles.{ok-of, role-found}
use Rattle.node_lives.proofs.SampleLines.{migrate_order, migrate-spelled, log_text, migrate_line, migrates, wallet_with, found, rules, log_read, log-runs, may-next, next-is, answered-session, refused-session}
use Rattle.node_lives.proofs.Drives.{after, asked, made, all-passed, telling, blank, stopped_notes, begun_notes, begun_leaves, opened, faulted_leaves, crashed_notes, crashed_leaves, marked_leaves, opened_settled, begun_notes_settled, begun_leaves_settled, crashed_notes_settled, crashed_leaves_settled, marked_leaves_settled}

-- ---- the inits

init_stops : InitsPair told foretold met (Some []) (Some device_fault_text) DeviceFault identity blank blank
    stopped_notes blank
init_stops = record {
  answer = Err InitFault;
  inits = inl ((record { history = refl; fails = λ plan is. absurd (cc is); goes_on = refl }, refl), refl);
  begun = tt;
  empty = tt;
  ends = (refl, refl);
}

passes_init : (steps : List ℕ → List Step) (drive : Drive) → is_taken (content drive.history) ≡ false
    → PassesInit told foretold met steps drive (after passed steps false drive)
passes_init steps drive free = record {
  inits =
      telling drive (λ before. InitsOver told foretold steps (content before) drive (Ok tt)
      (after passed steps false drive))
      (free, made passed steps _ false drive (all-passed _));
  count = refl;
}

pub init_passes : InitsPair told foretold met (Some []) (Some (codes "made" ++ 10 ∷ [])) Done identity stopped_notes blank
    begun_notes begun_leaves
init_passes = record {
  answer = Ok tt;
  inits = (
    asked false stopped_notes,
    record {
      called = record { history = refl; fails = λ plan is. absurd (cc is); goes_on = refl };
      count = refl;
    },
    (passes_init (init_steps identity) (asked false stopped_notes) refl, passes_init journal_steps blank refl),
  );
  begun = telling begun_notes (λ now. IsSettled now (identity ∷ [])) begun_notes_settled;
  empty = telling begun_leaves (λ now. IsSettled now []) begun_leaves_settled;
  ends = (refl, refl);
}

module _ (dig : List ℕ → List ℕ) where
  -- ---- the openings

  wallet_are : are_of (wallet_kinds dig) (identity ∷ []) ≡ true
  unfolding identity_in
  wallet_are = refl

  opens_part : (read : List ℕ → Result (List (List ℕ)) ℕ) (drive : Drive) (records : List (List ℕ))
      → IsSettled drive.history records → read (content drive.history) ≡ Ok records
      → Opened told foretold met read drive (record { disk = opened drive; closed = false; records = records })
  opens_part read drive records settled reads = record {
    kept = telling drive (λ before. read (content before) ≡ Ok records) reads;
    made = made passed open_steps 3 false drive (all-passed 3);
    count = refl;
    is_open = refl;
    settled = telling (opened drive) (λ now. IsSettled now records) (opened_settled drive records settled);
  }

  abbrev count : ℕ
  count = leaves_of (identity ∷ [])

  pub opens : (notes leaves : Drive) (records : List (List ℕ)) → IsSettled notes.history (identity ∷ [])
      → IsSettled leaves.history records → leaf_records_of is_body count records ≡ Ok records
      → OpensWallet told foretold met dig notes leaves (wallet_with dig notes leaves records)
  unfolding notes_of
  opens notes leaves records settled leaves_settled are = record {
    opens_notes =
        opens_part (role_in (wallet_kinds dig)) notes (identity ∷ []) settled
        (role-found (wallet_kinds dig) (content notes.history) (identity ∷ []) settled.read wallet_are);
    opens_leaves =
        opens_part (leaf_records_in_of is_body count) leaves records leaves_settled
        (ap (leaf_records_read_of is_body count) (ok-of (journal_in (content leaves.history)) records
        leaves_settled.read) ∙ are);
    bound = refl;
  }

  -- ---- the runs

  abbrev pub outside : List ℕ → Outside
  outside text = record { left = Some input; later = Some []; taken = Some []; after = Some text }

  -- the disks of a wallet that was opened, as its session finds them
  pub found-keeps : (drive : Drive) (records : List (List ℕ)) → IsSettled drive.history records
      → Keeps told met (record { records = records; told = Some drive.history; faults = drive.met }) drive
  found-keeps drive records settled = record {
    told_is = refl;
    faults_are = refl;
    settled = telling drive (λ now. IsSettled now records) settled;
  }

  pub notes_first : IsSettled (opened begun_notes).history (identity ∷ [])
  notes_first = opened_settled begun_notes (identity ∷ []) begun_notes_settled

  leaves_first : IsSettled (opened begun_leaves).history []
  leaves_first = opened_settled begun_leaves [] begun_leaves_settled

  pub notes_second : IsSettled (opened crashed_notes).history (identity ∷ [])
  notes_second = opened_settled crashed_notes (identity ∷ []) crashed_notes_settled

  -- the marker met a fault
  pub marker_fails : MayKeep told met marker
      (opened_at told met (leaves_part (wallet_with dig begun_notes begun_leaves []))) faulted_leaves
  marker_fails = record {
    passed = 2;
    few = lit< tt;
    told_is = refl;
    any_moment =
        telling (opened begun_leaves)
        (λ before. WhereTold (told faulted_leaves) (λ now. LeavesOnly before now (KeepsWithOrWithout [] marker)))
        (telling faulted_leaves
        (λ now. LeavesOnly (opened begun_leaves).history now (KeepsWithOrWithout [] marker))
        (course_leaves (opened begun_leaves).history [] marker
        (settled_rests (opened begun_leaves).history [] leaves_first) (lit≤ tt) (failed_after 2)));
    faults_are = refl;
  }

  abbrev pub Session : Drive → Drive → List (List ℕ) → Drive → Drive → List ℕ → Status → Type 0
  Session notes leaves records new_notes new_leaves text status =
      NodeSession told foretold met dig wallet_commands (wallet_parts (wallet_with dig notes leaves records))
      (both new_notes new_leaves) (outside text) (Unit {0}) status

  faults : Session begun_notes begun_leaves [] (opened begun_notes) faulted_leaves device_fault_text DeviceFault
  faults = inr (inl (record {
    bytes = input;
    ended = true;
    stream = log_read dig begun_notes begun_leaves [];
    gave = record { given = refl; end = λ is. refl };
    begins = record {
      front = log_text;
      rest = migrate_line;
      whole = refl;
      runs = log-runs dig begun_notes begun_leaves [];
    };
    ends = (refl, refl);
    left = (
      may-next dig begun_notes begun_leaves [],
      (
        migrate_order,
        ap wallet_line_in (next-is dig begun_notes begun_leaves []) ∙ migrate-spelled,
        subst (λ (o : Outcome). NodeFailed told met o (found dig begun_notes begun_leaves []).kept
            (both (opened begun_notes) faulted_leaves)) (sym (migrates dig))
            (inr (found-keeps (opened begun_notes) (identity ∷ []) notes_first, marker_fails)),
      ),
    );
  }))

  -- a session that comes to this
  module _ (notes leaves : Drive) (records : List (List ℕ)) (new_notes new_leaves : Drive) (text : List ℕ)
      (status : Status) where
    pub comes : (streamed : Streamed (SessionState (NodeAt NotesAt)) (List ℕ))
        → stream_of (rules dig notes leaves records) (begun (found dig notes leaves records)) input true ≡ streamed
        → EndsAs (session_output streamed) status (Some []) (Some text) (Unit {0})
        → TakesFew input streamed.ending
        → KeepsNode told met streamed.stream.run.node.kept (both new_notes new_leaves)
        → Session notes leaves records new_notes new_leaves text status
    comes streamed is ends few left = inl (record {
      bytes = input;
      ended = true;
      gave = record { given = refl; end = λ is. refl };
      ends =
          subst (λ (s : Streamed (SessionState (NodeAt NotesAt)) (List ℕ)).
          EndsAs (session_output s) status (Some []) (Some text) (Unit {0})) (sym is) ends;
      few =
          subst (λ (s : Streamed (SessionState (NodeAt NotesAt)) (List ℕ)). TakesFew input s.ending) (sym is) few;
      left =
          subst (λ (s : Streamed (SessionState (NodeAt NotesAt)) (List ℕ)).
          KeepsNode told met s.stream.run.node.kept (both new_notes new_leaves)) (sym is) left;
    })

  answers : Session crashed_notes crashed_leaves [] (opened crashed_notes) marked_leaves
      (codes "migrated" ++ 10 ∷ []) Done
  unfolding last_text
  answers =
      comes crashed_notes crashed_leaves [] (opened crashed_notes) marked_leaves (codes "migrated" ++ 10 ∷ []) Done _
      (answered-session dig crashed_notes crashed_leaves) (refl, refl) tt (
        found-keeps (opened crashed_notes) (identity ∷ []) notes_second,
        found-keeps marked_leaves (marker ∷ []) marked_leaves_settled,
      )

  refuses : Session (opened crashed_notes) marked_leaves (marker ∷ []) (opened (opened crashed_notes))
      (opened marked_leaves) (refused_text (codes "already-new")) Refused
  unfolding lines_in last_text
  refuses =
      comes (opened crashed_notes) marked_leaves (marker ∷ []) (opened (opened crashed_notes)) (opened marked_leaves)
      (refused_text (codes "already-new")) Refused _
      (refused-session dig (opened crashed_notes) marked_leaves) (refl, refl) (lit< tt) (
        found-keeps (opened (opened crashed_notes)) (identity ∷ [])
            (opened_settled (opened crashed_notes) (identity ∷ []) notes_second),
        found-keeps (opened marked_leaves) (marker ∷ [])
            (opened_settled marked_leaves (marker ∷ []) marked_leaves_settled),
      )

  -- ---- the life

  abbrev pub pair : Drive → Drive → Pair Drive
  pair notes leaves = record { notes = notes; leaves = leaves }

  abbrev pub call_of : (asked : Asked) (old new : Pair Drive) (text : List ℕ) (status : Status)
      → DoesAsked told foretold met dig asked old new (outside text) status → DriveCall dig
  call_of asked old new text status did = record {
    asked = asked;
    old = old;
    new = new;
    outside = outside text;
    status = status;
    did = inl did;
  }

  abbrev pub run_of : (notes leaves : Drive) (records : List (List ℕ)) (new_notes new_leaves : Drive) (text : List ℕ)
      (status : Status) → OpensWallet told foretold met dig notes leaves (wallet_with dig notes leaves records)
      → Session notes leaves records new_notes new_leaves text status
      → RunsWallet told foretold met dig notes leaves new_notes new_leaves (outside text) (Unit {0}) status
  unfolding RunsWallet
  run_of notes leaves records new_notes new_leaves text status opens session =
      inl (wallet_with dig notes leaves records, opens, session)

  run_faults : RunsWallet told foretold met dig begun_notes begun_leaves (opened begun_notes) faulted_leaves
      (outside device_fault_text) (Unit {0}) DeviceFault
  unfolding records_behind_of
  run_faults =
      run_of begun_notes begun_leaves [] (opened begun_notes) faulted_leaves device_fault_text DeviceFault
      (opens begun_notes begun_leaves [] begun_notes_settled begun_leaves_settled refl) faults

  pub run_answers : RunsWallet told foretold met dig crashed_notes crashed_leaves (opened crashed_notes) marked_leaves
      (outside (codes "migrated" ++ 10 ∷ [])) (Unit {0}) Done
  unfolding records_behind_of
  run_answers =
      run_of crashed_notes crashed_leaves [] (opened crashed_notes) marked_leaves (codes "migrated" ++ 10 ∷ []) Done
      (opens crashed_notes crashed_leaves [] crashed_notes_settled crashed_leaves_settled refl) answers

  run_refuses : RunsWallet told foretold met dig (opened crashed_notes) marked_leaves (opened (opened crashed_notes))
      (opened marked_leaves) (outside (refused_text (codes "already-new"))) (Unit {0}) Refused
  unfolding records_behind_of
  run_refuses =
      run_of (opened crashed_notes) marked_leaves (marker ∷ []) (opened (opened crashed_notes)) (opened marked_leaves)
      (refused_text (codes "already-new")) Refused
      (opens (opened crashed_notes) marked_leaves (marker ∷ []) notes_second marked_leaves_settled refl) refuses

  pub small_life : SmallLife dig
  unfolding IsLife ran_by ran_as wallet_ran RunsWallet run_of run_answers run_refuses answers refuses comes
  small_life = record {
    stopped =
        call_of (ToBegin BothDisks identity) (pair blank blank) (pair stopped_notes blank) device_fault_text DeviceFault
        init_stops;
    begun =
        call_of (ToBegin BothDisks identity) (pair stopped_notes blank) (pair begun_notes begun_leaves)
        (codes "made" ++ 10 ∷ []) Done init_passes;
    faulted =
        call_of (ToRun Wallet) (pair begun_notes begun_leaves) (pair (opened begun_notes) faulted_leaves)
        device_fault_text DeviceFault run_faults;
    answered =
        call_of (ToRun Wallet) (pair crashed_notes crashed_leaves) (pair (opened crashed_notes) marked_leaves)
        (codes "migrated" ++ 10 ∷ []) Done run_answers;
    refused =
        call_of (ToRun Wallet) (pair (opened crashed_notes) marked_leaves)
        (pair (opened (opened crashed_notes)) (opened marked_leaves)) (refused_text (codes "already-new")) Refused
        run_refuses;
    life = (
      (refl, refl),
      (Stays refl, Stays refl),
      (
        (refl, refl),
        (
          Crashed (opened begun_notes).history (synced_content (opened begun_notes).history) refl
              (outcomes Old (opened begun_notes).history) refl,
          Crashed faulted_leaves.history (synced_content faulted_leaves.history) refl
              (outcomes Old faulted_leaves.history) refl,
        ),
        (
          (refl, refl),
          (Stays refl, Stays refl),
          ((refl, refl), (Stays refl, Stays refl), ((refl, refl), tt, tt)),
        ),
      ),
    );
    stopped_is = record { asked_is = refl; status_is = refl; begins = refl; wrote = refl };
    begun_is = record { asked_is = refl; status_is = refl; begins = refl; wrote = refl };
    faulted_is = record { asked_is = refl; status_is = refl; begins = refl; wrote = refl };
    answered_is = record { asked_is = refl; status_is = refl; begins = refl; wrote = refl };
    refused_is = record { asked_is = refl; status_is = refl; begins = refl; wrote = refl };
    image = synced_content faulted_leaves.history;
    crash = refl;
    less = λ same. cc same;
    left =
        ap (λ (s : Streamed (SessionState (NodeAt NotesAt)) (List ℕ)). Some (kept_at s.stream.run.node).leaves)
        (answered-session dig crashed_notes crashed_leaves);
    found = refl;
  }
