-- Behind an opening that went through a run may be cut off at each moment of its session.
use Rattle.std.proofs.Common.{◌≡◌, ℕ, List, Option, Some, None, refl, ap, subst, inl, arith}
use Rattle.std.proofs.lemmas.Grind.{common_steps}
use Rattle.crash_disk.specs.Disk.{History}
use Rattle.node_journal.specs.Notes.{NotesState, Opened}
use Rattle.node_journal.specs.Parts.{Parts, alone, both, OfLeaves}
use Rattle.node_journal.specs.Role.{role_in}
use Rattle.node_rules.specs.Watcher.{watcher_kinds}
use Rattle.operator_rules.specs.Records.{operator_kinds, who_is}
use Rattle.wallet_node.specs.State.{WalletState, notes_part, leaves_part}
use Rattle.wallet_node.specs.Opening.{OpensWallet}
use Rattle.node_replies.specs.Roles.{Wallet, Watcher, Operator}
use Rattle.run_endings.specs.declared.status.Status.{Status}
use Rattle.node_roles.specs.Notes.{NotesAt}
use Rattle.node_roles.specs.Nodes.{NodeAt, Commands}
use Rattle.node_roles.specs.Roles.{watcher_commands, wallet_commands, operator_commands, desk_commands, wallet_parts}
use Rattle.node_runs.specs.Sessions.{Outside}
use Rattle.node_runs.specs.Runs.{node_found, NodeSession, RunsWatcher, RunsWallet}
use Rattle.node_runs.specs.Operators.{desk_records_in, RunsBehind, RunsOperator}
use Rattle.node_runs.specs.Disks.{opened_at}
use Rattle.node_lives.specs.Disks.{Pair}
use Rattle.node_lives.specs.Calls.{ToRun}
use Rattle.node_lives.specs.Cuts.{FailsSince}
use Rattle.node_lives.specs.Answered.{Lines, lines_answered, Ran, ran_with, watcher_ran, behind_ran, operator_ran, wallet_ran, ran_as, ran_by}
use Rattle.node_lives.specs.Samples.{Drive, told, foretold, met}
use Rattle.node_lives.specs.Moments.{lines_by, IsCutAt, SessionsMayBeCut}
use Rattle.node_lives.proofs.Moments.{Rests, RestEach, none-since, opened-rests, cut-at, broken-session}

-- notes alone that were opened, and leaves with them
alone-rests : (dig : List ℕ → List ℕ) (notes : NotesState Drive) → Rests (opened_at told met notes)
    → RestEach (node_found told foretold met dig (alone notes)).kept
alone-rests dig notes rests = record { notes = rests; leaves = λ leaves is. absurd (cc is) }

both-rest : (dig : List ℕ → List ℕ) (notes keys : NotesState Drive) → Rests (opened_at told met notes)
    → Rests (opened_at told met keys) → RestEach (node_found told foretold met dig (both notes keys)).kept
both-rest dig notes keys rests others = grind (arith, common_steps) steps 20000

module _ (dig : List ℕ → List ℕ) (old : Pair Drive) (outside : Outside) where
  abbrev Session : {L : Type 0} → Commands L → Parts (NotesState Drive) → Parts Drive → Status → Type 0
  Session commands opened disks status =
      NodeSession told foretold met dig commands opened disks outside (Unit {0}) status

  -- ---- a wallet

  module _ (opened : WalletState Drive (Unit {0}))
      (opens : OpensWallet told foretold met dig old.notes old.leaves opened) (lines : Lines (NodeAt NotesAt))
      (notes leaves : History) where
    wallet-cut : (new_notes : Drive) (new_leaves : Option Drive) (status : Status)
        → (session : Session wallet_commands (wallet_parts opened)
        (record { notes = new_notes; leaves = new_leaves }) status)
        → lines_answered session ≡ lines → FailsSince told notes new_notes
        → OfLeaves (FailsSince told) (Some leaves) new_leaves
        → IsCutAt dig (ToRun Wallet) old outside (Some (ran_with (wallet_parts opened) lines)) notes leaves
    unfolding RunsWallet wallet_ran ran_as ran_by
    wallet-cut new_notes None status session same fails none = absurd none
    wallet-cut new_notes (Some new_leaves) status session same fails others =
        cut-at dig (ToRun Wallet) old (record { notes = new_notes; leaves = new_leaves }) outside status
        (Some (ran_with (wallet_parts opened) lines)) notes leaves
        (inl (inl (opened, opens, session)))
        (ap (λ (l : Lines (NodeAt NotesAt)). Some (ran_with (wallet_parts opened) l)) same)
        fails others

  -- ---- a watcher

  module _ (opened : NotesState Drive) (opens : Opened told foretold met (role_in (watcher_kinds dig)) old.notes opened)
      (lines : Lines (NodeAt NotesAt)) (notes : History) where
    watcher-cut : (new_notes : Drive) (new_leaves : Option Drive) (status : Status)
        → (session : Session watcher_commands (alone opened) (record { notes = new_notes; leaves = new_leaves }) status)
        → lines_answered session ≡ lines → FailsSince told notes new_notes
        → OfLeaves (FailsSince told) None new_leaves
        → IsCutAt dig (ToRun Watcher) old outside (Some (ran_with (alone opened) lines)) notes
        old.leaves.history
    unfolding RunsWatcher watcher_ran ran_as ran_by
    watcher-cut new_notes (Some new_leaves) status session same fails none = absurd none
    watcher-cut new_notes None status session same fails none =
        cut-at dig (ToRun Watcher) old (record { notes = new_notes; leaves = old.leaves }) outside status
        (Some (ran_with (alone opened) lines)) notes old.leaves.history
        (inl (inl (opened, opens, session), refl))
        (ap (λ (l : Lines (NodeAt NotesAt)). Some (ran_with (alone opened) l)) same)
        fails (none-since old.leaves)

  -- ---- an operator

  module _ (opened : NotesState Drive) (opens : Opened told foretold met (role_in operator_kinds) old.notes opened)
      (lines : Lines (NodeAt NotesAt)) (notes leaves : History) where
    -- behind its notes, by the seed of its key
    record Behind (seed : Option (List ℕ)) (new : Pair Drive) (status : Status) (ran : Ran) : Type 0 where
      runs : RunsBehind told foretold met dig seed opened old.leaves new.notes new.leaves outside (Unit {0}) status
      is : behind_ran told foretold met dig seed opened old.leaves new.notes new.leaves outside status runs ≡ Some ran

    behind-cut : (new : Pair Drive) (status : Status) (ran : Ran)
        → Behind (who_is opened.records).key_seed new status ran → FailsSince told notes new.notes
        → FailsSince told leaves new.leaves → IsCutAt dig (ToRun Operator) old outside (Some ran) notes leaves
    unfolding RunsOperator operator_ran ran_as ran_by
    behind-cut new status ran behind fails others =
        cut-at dig (ToRun Operator) old new outside status (Some ran) notes leaves
        (inl (inl (opened, opens, behind.runs)))
        behind.is
        fails others

    keyless : (seed : Option (List ℕ)) → seed ≡ None → (new_notes : Drive) (status : Status)
        → (session : Session operator_commands (alone opened) (alone new_notes) status)
        → lines_answered session ≡ lines
        → Behind seed (record { notes = new_notes; leaves = old.leaves }) status (ran_with (alone opened) lines)
    unfolding behind_ran
    keyless (Some seed) is new_notes status session same = absurd (cc is)
    keyless None is new_notes status session same = record {
      runs = (session, refl);
      is = ap (λ (l : Lines (NodeAt NotesAt)). Some (ran_with (alone opened) l)) same;
    }

    module _ (keys : NotesState Drive) (seed : List ℕ)
        (opens_keys : Opened told foretold met (desk_records_in seed) old.leaves keys) where
      keyed : (other : Option (List ℕ)) → other ≡ Some seed → (new : Pair Drive) (status : Status)
          → (session : Session desk_commands (both opened keys) (both new.notes new.leaves) status)
          → lines_answered session ≡ lines → Behind other new status (ran_with (both opened keys) lines)
      unfolding behind_ran
      keyed None is new status session same = absurd (cc is)
      keyed (Some other) is new status session same =
          (let one : seed ≡ other = cc is in
          subst (λ (s : List ℕ). Behind (Some s) new status (ran_with (both opened keys) lines)) one (record {
            runs = inl (keys, opens_keys, session);
            is = ap (λ (l : Lines (NodeAt NotesAt)). Some (ran_with (both opened keys) l)) same;
          }))

      desk-cut : (who_is opened.records).key_seed ≡ Some seed → (new_notes : Drive) (new_leaves : Option Drive)
          (status : Status)
          → (session : Session desk_commands (both opened keys) (record { notes = new_notes; leaves = new_leaves })
          status)
          → lines_answered session ≡ lines → FailsSince told notes new_notes
          → OfLeaves (FailsSince told) (Some leaves) new_leaves
          → IsCutAt dig (ToRun Operator) old outside (Some (ran_with (both opened keys) lines)) notes leaves
      desk-cut is new_notes None status session same fails none = absurd none
      desk-cut is new_notes (Some new_leaves) status session same fails others =
          behind-cut (record { notes = new_notes; leaves = new_leaves }) status (ran_with (both opened keys) lines)
          (keyed (who_is opened.records).key_seed is (record { notes = new_notes; leaves = new_leaves }) status session
          same)
          fails others

  module _ (opened : NotesState Drive) (opens : Opened told foretold met (role_in operator_kinds) old.notes opened)
      (lines : Lines (NodeAt NotesAt)) (notes : History) where
    operator-cut : (who_is opened.records).key_seed ≡ None → (new_notes : Drive) (new_leaves : Option Drive)
        (status : Status)
        → (session : Session operator_commands (alone opened) (record { notes = new_notes; leaves = new_leaves })
        status)
        → lines_answered session ≡ lines → FailsSince told notes new_notes
        → OfLeaves (FailsSince told) None new_leaves
        → IsCutAt dig (ToRun Operator) old outside (Some (ran_with (alone opened) lines)) notes
        old.leaves.history
    operator-cut is new_notes (Some new_leaves) status session same fails none = absurd none
    operator-cut is new_notes None status session same fails none =
        behind-cut opened opens lines notes old.leaves.history (record { notes = new_notes; leaves = old.leaves })
        status
        (ran_with (alone opened) lines)
        (keyless opened opens lines notes old.leaves.history (who_is opened.records).key_seed is new_notes status
        session same)
        fails (none-since old.leaves)

module _ (dig : List ℕ → List ℕ) where
  pub sessions_may_be_cut : SessionsMayBeCut dig
  sessions_may_be_cut = record {
    wallet = λ old opened outside bytes ended notes leaves opens moment.
        (let parts = wallet_parts opened in
        let broken = broken-session dig wallet_commands parts
        (both-rest dig (notes_part opened) (leaves_part opened)
        (opened-rests (notes_part opened) opens.opens_notes.settled)
        (opened-rests (leaves_part opened) opens.opens_leaves.settled))
        outside bytes ended (both notes leaves) moment in
        wallet-cut dig old outside opened opens (lines_by dig wallet_commands parts moment) notes leaves
        broken.disks.notes broken.disks.leaves broken.status broken.session broken.lines broken.since.0
        broken.since.1);
    watcher = λ old opened outside bytes ended notes opens moment.
        (let broken = broken-session dig watcher_commands (alone opened)
        (alone-rests dig opened (opened-rests opened opens.settled)) outside bytes ended (alone notes) moment in
        watcher-cut dig old outside opened opens (lines_by dig watcher_commands (alone opened) moment) notes
        broken.disks.notes broken.disks.leaves broken.status broken.session broken.lines broken.since.0
        broken.since.1);
    operator = λ old opened outside bytes ended notes opens is moment.
        (let broken = broken-session dig operator_commands (alone opened)
        (alone-rests dig opened (opened-rests opened opens.settled)) outside bytes ended (alone notes) moment in
        operator-cut dig old outside opened opens (lines_by dig operator_commands (alone opened) moment) notes is
        broken.disks.notes broken.disks.leaves broken.status broken.session broken.lines broken.since.0
        broken.since.1);
    desk = λ old opened keys seed outside bytes ended notes leaves opens is opens_keys moment.
        (let broken = broken-session dig desk_commands (both opened keys)
        (both-rest dig opened keys (opened-rests opened opens.settled) (opened-rests keys opens_keys.settled))
        outside bytes ended (both notes leaves) moment in
        desk-cut dig old outside opened opens (lines_by dig desk_commands (both opened keys) moment) notes leaves keys
        seed opens_keys is broken.disks.notes broken.disks.leaves broken.status broken.session broken.lines
        broken.since.0 broken.since.1);
  }
