-- A run of a node over a good input is done, unless something fails.
use Rattle.node_runs.proofs.Words.{◌≡◌, ◌⊎◌, ℕ, Bool, true, false, List, Option, Some, None, Result, Ok, Err, inl, inr, refl, sym, ap, ◌∙◌, subst, Step, History, FaultPlan, content, asks_length, with_call, option_map, RootCall, JournalRefusal, JournalPlace, InitRefusal, InitMade, InitFault, InitNoMemory, is_taken, journal_steps, init_steps, Inits, RefusesPair, BeginsPair, NotesState, Opened, RefusesRole, operator_kinds, operator_is, WalletState, notes_part, OpensWallet, RefusesWallet, IsUnbound, Outcome, NotesAt, with_note, Parts, alone, both, of_each, with_effect, NodeAt, keeping, records_at, Commands, left_with, outcome_at, node_does, records_do, watcher_commands, operator_commands, desk_commands, wallet_commands, wallet_parts, SessionState, begun, ok-same, Ending, Complete, ReadFaultEnding, Rules, Stream, stream_of, Status, Done, ReadFaultStatus, WriteFault, DeviceFault, NoMemory, IsDoneUnlessFailed, EndsAs, ends-done, status_of, session_output, fault_output, refused_output, init_output, opened_at, Outside, BrokenAt, RunsSession, node_found, NodeSession, RunsWatcher, RunsWallet, desk_records_in, RefusesDesk, RunsBehind, RunsOperator, InitsNotes, InitsPair}
use Rattle.std.proofs.lemmas.Bool.{true≢false}
use Rattle.node_journal.specs.Role.{role_in}
use Rattle.leaf_journal.specs.Records.{leaf_records_in_of}
use Rattle.node_rules.specs.Watcher.{watcher_kinds}
use Rattle.node_rules.specs.Wallet.{WalletRecords}
use Rattle.node_rules.specs.WalletRecords.{wallet_kinds, is_body, leaves_in, notes_of, are_bound_notes}
use Rattle.node_rules.specs.WalletOpening.{leaves_of, are_bound}
use Rattle.wallet_core.specs.declared.notes.LeafRecord.{LeafRecord}
use Rattle.node_replies.specs.Orders.{with_record}
use Rattle.node_sessions.proofs.CompleteLaws.{done-are_answered, keep-by_part}
use Rattle.streamed_lines.specs.Lines.{lines_in}
use Rattle.streamed_lines.proofs.CompleteLaws.{reads-well}
use Rattle.node_runs.specs.Complete.{KeepNodeRules, WatcherComplete, KeepOperatorRules, OperatorComplete, WalletComplete, InitComplete, InitBothComplete}

-- ---- a command does to a node what it does to its records

left-as : {A B : Type 0} (part : A → B) (next : A) (of left : B) (says : Result (List ℕ) (List ℕ)) (text : List ℕ)
    → part next ≡ of → left_with of says ≡ Ok (left, text)
    → (n : A) × (left_with next says ≡ Ok (n, text)) × (part n ≡ left)
left-as part next of left (Ok answer) text same is =
    let e = ok-same _ (of, answer) (left, text) refl is in
    (next, ap (λ (p : _ × List ℕ). Ok (next, p.1)) e, same ∙ ap (λ (p : _ × List ℕ). p.0) e)
left-as part next of left (Err cause) text same is = absurd (cc (is))

-- the records of a node
abbrev records-part : NodeAt NotesAt → NodeAt (List (List ℕ))
records-part at = record { kept = records_at at.kept; dig = at.dig }

note-kept : (at : NotesAt) (added : Option (List ℕ)) → (with_note at added).records ≡ with_record at.records added
note-kept at None = refl
note-kept at (Some body) = refl

leaf-kept : (at : Option NotesAt) (added : Option (List ℕ))
    → option_map (λ leaves. leaves.records) (option_map (λ leaves. with_note leaves added) at)
    ≡ option_map (λ records. with_record records added) (option_map (λ leaves. leaves.records) at)
leaf-kept None added = refl
leaf-kept (Some at) added = ap Some (note-kept at added)

node-kept : (at : NodeAt NotesAt) (outcome : Outcome)
    → records-part (keeping at (with_effect with_note at.kept outcome))
    ≡ keeping (records-part at) (with_effect with_record (records_at at.kept) outcome)
node-kept at outcome =
    λ i. record {
      kept = record {
        notes = note-kept at.kept.notes outcome.note i;
        leaves = leaf-kept at.kept.leaves outcome.leaf i;
      };
      dig = at.dig;
    }

-- ---- by the status

session-may : {ending : Ending (List ℕ)} → (ending ≡ Complete) ⊎ (ending ≡ ReadFaultEnding)
    → IsDoneUnlessFailed (status_of ending)
session-may (inl is) = subst (λ e. IsDoneUnlessFailed (status_of e)) (sym is) tt
session-may (inr is) = subst (λ e. IsDoneUnlessFailed (status_of e)) (sym is) tt

broken-may : {A L : Type 0} (command_in : List ℕ → Option L) (Left : A → Type 0)
    (Unanswered : List RootCall → A → L → Type 0) (status : Status) (ended : Bool) (bytes : List ℕ)
    (stream : Stream (SessionState A))
    → BrokenAt command_in Left Unanswered status ended bytes stream → IsDoneUnlessFailed status
broken-may command_in Left Unanswered WriteFault ended bytes stream is = tt
broken-may command_in Left Unanswered NoMemory ended bytes stream is = tt
broken-may command_in Left Unanswered Done ended bytes stream never = tt
broken-may command_in Left Unanswered ReadFaultStatus ended bytes stream never = tt
broken-may command_in Left Unanswered DeviceFault ended bytes stream never = tt
broken-may command_in Left Unanswered status ended bytes stream never = never

-- a session whose whole input is complete
session-done : {A L : Type 0} (rules : Rules (SessionState A) (List ℕ)) (command_in : List ℕ → Option L) (found : A)
    (Left : A → Type 0) (Faulted Unanswered : List RootCall → A → L → Type 0) (outside : Outside) (failed : Type 0)
    (status : Status) (input : List ℕ) → outside.left ≡ Some input
    → (stream_of rules (begun found) input true).ending ≡ Complete
    → RunsSession rules command_in found Left Faulted Unanswered outside failed status
    → IsDoneUnlessFailed status
session-done rules command_in found Left Faulted Unanswered outside failed status input is complete (inl runs) =
    ends-done (session_output (stream_of rules (begun found) runs.bytes runs.ended)) status _ _ _
    (session-may (reads-well rules (begun found) input outside.left outside.later runs.bytes runs.ended is runs.gave
    complete)) runs.ends
session-done rules command_in found Left Faulted Unanswered outside failed status input is complete
    (inr (inl runs)) =
    ends-done (fault_output runs.stream.text) status _ _ _ tt runs.ends
session-done rules command_in found Left Faulted Unanswered outside failed status input is complete
    (inr (inr runs)) =
    broken-may command_in Left Unanswered status runs.ended runs.bytes runs.stream runs.left

-- an opening that wasn't refused for what the disk keeps
refused-done : (why : JournalRefusal) (status : Status) (before after : Option (List ℕ))
    → ((place : ℕ) → why ≡ JournalPlace place → ⊥) → EndsAs (refused_output why) status before after ⊥
    → IsDoneUnlessFailed status
refused-done (JournalPlace place) status before after own ends = absurd (own place refl)
refused-done why status before after own ends = ends-done (refused_output why) status _ _ _ tt ends

-- what an image spells it doesn't not spell
ok-not : {T : Type 0} (result : Result T ℕ) (x : T) (place : ℕ) → result ≡ Ok x → result ≡ Err place → ⊥
ok-not result x place well wrong = cc (well, wrong)

-- ---- over disks that tell what they keep

module _ {D : Type 0} (told : D → Option History) (plan : D → Option FaultPlan) (faults : D → ℕ)
    (dig : List ℕ → List ℕ) where
  -- no reader refuses an image that it reads
  own-image : (read : List ℕ → Result (List (List ℕ)) ℕ) (old new : D) (history : History)
      (records : List (List ℕ)) → told old ≡ Some history → read (content history) ≡ Ok records
      → (why : JournalRefusal) → RefusesRole told plan faults read old why new
      → (place : ℕ) → why ≡ JournalPlace place → ⊥
  own-image read old new history records is reads why refuses place foreign =
      let refused = subst (λ w. RefusesRole told plan faults read old w new) foreign refuses in
      ok-not (read (content history)) records place reads (refused.refused.1 history is)

  leaves-opened : (leaves : Option (NotesState D))
      → option_map (λ notes. notes.records) leaves
      ≡ option_map (λ at. at.records) (option_map (opened_at told faults) leaves)
  leaves-opened None = refl
  leaves-opened (Some leaves) = refl

  -- of a node that was opened with these records
  session-complete : {L : Type 0} (commands : Commands L) (opened : Parts (NotesState D)) (disks : Parts D)
      (outside : Outside) (failed : Type 0) (status : Status) (records : Parts (List (List ℕ))) (input : List ℕ)
      → records ≡ of_each (λ notes. notes.records) opened → outside.left ≡ Some input
      → KeepNodeRules told dig outside.left status commands records (lines_in input)
      → NodeSession told plan faults dig commands opened disks outside failed status → IsDoneUnlessFailed status
  session-complete commands opened disks outside failed status records input same left keep runs =
      let found : NodeAt NotesAt = node_found told plan faults dig opened in
      session-done _ commands.command_in found _ _ _ outside failed status input left
      (done-are_answered (commands.tag opened.notes.records) commands.command_in (node_does commands) found input
      (keep-by_part (commands.tag opened.notes.records) commands.command_in (node_does commands) (records_do commands)
      records-part
      (λ log at line next text done.
      left-as records-part _ _ next (outcome_at commands log at line).says text
      (node-kept at (outcome_at commands log at line)) done)
      found (lines_in input)
      (subst (λ (rs : Parts (List (List ℕ))). KeepNodeRules told dig outside.left status commands rs (lines_in input))
      (same ∙ (λ i. record { notes = opened.notes.records; leaves = leaves-opened opened.leaves i })) keep)))
      runs

  pub watcher-complete : (old new : D) (outside : Outside) (failed : Type 0) (status : Status)
      → RunsWatcher told plan faults dig old new outside failed status
      → WatcherComplete told dig outside.left status old
  unfolding RunsWatcher
  watcher-complete old new outside failed status (inl (opened, opens, runs)) history records input is reads left keep =
      session-complete watcher_commands (alone opened) (alone new) outside failed status (alone records) input
      (ap alone (ok-same _ records opened.records reads (opens.kept history is))) left keep runs
  watcher-complete old new outside failed status (inr (why, refuses, refused)) history records input is reads left
      keep =
      refused-done why status _ _
      (own-image (role_in (watcher_kinds dig)) old new history records is reads why refuses) refused.ends

  -- ---- an operator

  desk-own : (seed : List ℕ) (leaves new_leaves : D) (of_leaves : History) (bound : List (List ℕ))
      → told leaves ≡ Some of_leaves → desk_records_in seed (content of_leaves) ≡ Ok bound
      → (why : JournalRefusal) → RefusesDesk told plan faults dig seed leaves why new_leaves
      → (place : ℕ) → why ≡ JournalPlace place → ⊥
  desk-own seed leaves new_leaves of_leaves bound is reads why (inl refuses) =
      own-image (desk_records_in seed) leaves new_leaves of_leaves bound is reads why refuses
  desk-own seed leaves new_leaves of_leaves bound is reads why (inr (starved, stays)) =
      λ place foreign. cc (starved, foreign)

  module _ (notes leaves new_notes new_leaves : D) (outside : Outside) (failed : Type 0) (status : Status) where
    behind-complete : (seed : Option (List ℕ)) (opened : NotesState D)
        → Opened told plan faults (role_in operator_kinds) notes opened
        → RunsBehind told plan faults dig seed opened leaves new_notes new_leaves outside failed status
        → (history : History) (input : List ℕ) → told notes ≡ Some history → outside.left ≡ Some input
        → KeepOperatorRules told dig outside.left status seed opened.records leaves (lines_in input)
        → IsDoneUnlessFailed status
    behind-complete None opened opens (runs, stays) history input is left keep =
        session-complete operator_commands (alone opened) (alone new_notes) outside failed status
        (alone opened.records) input refl left keep runs
    behind-complete (Some seed) opened opens (inl (desk, opens_desk, runs)) history input is left
        (of_leaves, bound, leaves_told, leaves_are, keep) =
        session-complete desk_commands (both opened desk) (both new_notes new_leaves) outside failed status
        (both opened.records bound) input
        (ap (both opened.records)
        (ok-same _ bound desk.records leaves_are (opens_desk.kept of_leaves leaves_told))) left keep runs
    behind-complete (Some seed) opened opens (inr (why, refuses, refused)) history input is left
        (of_leaves, bound, leaves_told, leaves_are, keep) =
        refused-done why status _ _
        (desk-own seed leaves new_leaves of_leaves bound leaves_told leaves_are why refuses.0) refused.ends

    pub operator-complete : RunsOperator told plan faults dig notes leaves new_notes new_leaves outside failed status
        → OperatorComplete told dig outside.left status notes leaves
    unfolding RunsOperator
    operator-complete (inl (opened, opens, behind)) history records input is reads left keep =
        let same : records ≡ opened.records = ok-same _ records opened.records reads (opens.kept history is) in
        behind-complete (operator_is opened.records).key_seed opened opens behind history input is left
        (subst (λ (rs : List (List ℕ)). KeepOperatorRules told dig outside.left status (operator_is rs).key_seed rs
        leaves
        (lines_in input)) same keep)
    operator-complete (inr (why, refuses, refused)) history records input is reads left keep =
        refused-done why status _ _
        (own-image (role_in operator_kinds) notes new_notes history records is reads why refuses.0) refused.ends

  -- ---- a wallet

  module _ (notes leaves : D) (of_notes of_leaves : History) (wallet : WalletRecords)
      (notes_told : told notes ≡ Some of_notes) (leaves_told : told leaves ≡ Some of_leaves)
      (notes_are : role_in (wallet_kinds dig) (content of_notes) ≡ Ok wallet.notes)
      (leaves_are : leaf_records_in_of is_body (leaves_of wallet.notes) (content of_leaves) ≡ Ok wallet.leaves)
      (bound : are_bound dig wallet ≡ true) where
    -- the records of notes that were opened
    opened-notes : (opened : NotesState D) → Opened told plan faults (role_in (wallet_kinds dig)) notes opened
        → wallet.notes ≡ opened.records
    opened-notes opened opens = ok-same _ wallet.notes opened.records notes_are (opens.kept of_notes notes_told)

    leaves-behind : (records : List (List ℕ)) → wallet.notes ≡ records
        → leaf_records_in_of is_body (leaves_of records) (content of_leaves) ≡ Ok wallet.leaves
    leaves-behind records same =
        subst (λ (rs : List (List ℕ)). leaf_records_in_of is_body (leaves_of rs) (content of_leaves) ≡ Ok wallet.leaves)
        same leaves_are

    not-unbound : (bodies : List LeafRecord) (records : List (List ℕ)) (why : JournalRefusal)
        → IsUnbound dig bodies records why
        → bodies ≡ leaves_in wallet.leaves → records ≡ wallet.notes
        → (place : ℕ) → why ≡ JournalPlace place → ⊥
    not-unbound bodies records why unbound bodies_are records_are place foreign =
        let refused = subst (λ w. IsUnbound dig bodies records w) foreign unbound in
        true≢false (sym bound ∙ ap (λ bs. are_bound_notes bs (notes_of dig wallet.notes)) (sym bodies_are)
        ∙ ap (λ rs. are_bound_notes bodies (notes_of dig rs)) (sym records_are) ∙ refused.0)

    wallet-refused : (new_notes new_leaves : D) (why : JournalRefusal)
        → RefusesWallet told plan faults dig notes leaves why new_notes new_leaves
        → (place : ℕ) → why ≡ JournalPlace place → ⊥
    wallet-refused new_notes new_leaves why (inl (refuses, same)) =
        own-image (role_in (wallet_kinds dig)) notes new_notes of_notes wallet.notes notes_told notes_are why refuses
    wallet-refused new_notes new_leaves why (inr (opened, opens, (same, inl refuses))) =
        own-image (leaf_records_in_of is_body (leaves_of opened.records)) leaves new_leaves of_leaves wallet.leaves
        leaves_told (leaves-behind opened.records (opened-notes opened opens)) why refuses
    wallet-refused new_notes new_leaves why (inr (opened, opens, (same, inr (behind, opens_leaves, at, unbound)))) =
        let records = opened-notes opened opens in
        let leaf_records =
        ok-same _ wallet.leaves behind.records (leaves-behind opened.records records)
        (opens_leaves.kept of_leaves leaves_told) in
        not-unbound (leaves_in behind.records) opened.records why unbound (ap leaves_in (sym leaf_records))
        (sym records)

    opened-wallet : {H : Type 0} (opened : WalletState D H)
        → OpensWallet told plan faults dig notes leaves opened → wallet ≡ opened.records
    opened-wallet opened opens =
        let of_n : wallet.notes ≡ opened.records.notes = opened-notes (notes_part opened) opens.opens_notes in
        let of_l : wallet.leaves ≡ opened.records.leaves =
        ok-same _ wallet.leaves opened.records.leaves (leaves-behind opened.records.notes of_n)
        (opens.opens_leaves.kept of_leaves leaves_told) in
        λ i. record { notes = of_n i; leaves = of_l i }

  pub wallet-complete : (notes leaves new_notes new_leaves : D) (outside : Outside) (failed : Type 0)
      (status : Status)
      → RunsWallet told plan faults dig notes leaves new_notes new_leaves outside failed status
      → WalletComplete told dig outside.left status notes leaves
  unfolding RunsWallet
  wallet-complete notes leaves new_notes new_leaves outside failed status (inl (opened, opens, runs))
      of_notes of_leaves wallet input notes_told leaves_told notes_are leaves_are bound left keep =
      session-complete wallet_commands (wallet_parts opened) (both new_notes new_leaves) outside failed status
      (both wallet.notes wallet.leaves) input
      (ap (λ (w : WalletRecords). both w.notes w.leaves)
      (opened-wallet notes leaves of_notes of_leaves wallet notes_told leaves_told notes_are leaves_are bound opened
      opens)) left keep runs
  wallet-complete notes leaves new_notes new_leaves outside failed status (inr (why, refuses, refused))
      of_notes of_leaves wallet input notes_told leaves_told notes_are leaves_are bound left keep =
      refused-done why status _ _
      (wallet-refused notes leaves of_notes of_leaves wallet notes_told leaves_told notes_are leaves_are bound new_notes
      new_leaves why refuses) refused.ends

-- ---- inits

-- one that wasn't refused for what a disk holds
init-done : (answer : Result Unit InitRefusal) (status : Status) (before after : Option (List ℕ))
    → ((count : ℕ) → answer ≡ Err (InitMade count) → ⊥) → EndsAs (init_output answer) status before after ⊥
    → IsDoneUnlessFailed status
init-done (Ok done) status before after free ends = ends-done (init_output (Ok done)) status _ _ _ tt ends
init-done (Err InitFault) status before after free ends = ends-done (init_output (Err InitFault)) status _ _ _ tt ends
init-done (Err InitNoMemory) status before after free ends =
    ends-done (init_output (Err InitNoMemory)) status _ _ _ tt ends
init-done (Err (InitMade count)) status before after free ends = absurd (free count refl)

module _ {D : Type 0} (told : D → Option History) (plan : D → Option FaultPlan) (faults : D → ℕ) where
  -- an image that isn't taken isn't found taken
  not-taken : (steps : List ℕ → List Step) (old new : D) (history : History) (count : ℕ) → told old ≡ Some history
      → is_taken (content history) ≡ false → Inits told plan steps old (Err (InitMade count)) new → ⊥
  not-taken steps old new history count is free inits = true≢false (sym (inits history is).0 ∙ free)

  module _ (dig : List ℕ → List ℕ) (left taken after : Option (List ℕ)) (status : Status) (identity : List ℕ) where
    pub init-complete : (old new : D) → InitsNotes told plan faults taken after status identity old new
        → InitComplete told dig left status old
    init-complete old new is history there free =
        init-done is.answer status _ _
        (λ count made. not-taken (init_steps identity) old new history count there free
        (subst (λ (a : Result Unit InitRefusal). Inits told plan (init_steps identity) old a new) made is.inits))
        is.ends

    -- what an init of two disks was refused for
    pair-free : (notes leaves new_notes new_leaves : D) (of_notes of_leaves : History) (count : ℕ)
        → told notes ≡ Some of_notes → told leaves ≡ Some of_leaves → is_taken (content of_notes) ≡ false
        → is_taken (content of_leaves) ≡ false
        → BeginsPair told plan faults told plan faults identity notes leaves (Err (InitMade count)) new_notes new_leaves
        → ⊥
    pair-free notes leaves new_notes new_leaves of_notes of_leaves count notes_told leaves_told free bare
        (inl (never, same)) = never
    pair-free notes leaves new_notes new_leaves of_notes of_leaves count notes_told leaves_told free bare
        (inr (asked, asks, refuses)) = by refuses
      where
        asked_told : told asked ≡ Some (with_call asks_length false of_notes)
        asked_told = asks.called.history ∙ ap (option_map (with_call asks_length false)) notes_told

        by : RefusesPair told plan faults told plan faults identity asked leaves (InitMade count) new_notes new_leaves
            → ⊥
        by (inl (long, inl (refused, same))) =
            not-taken journal_steps asked new_notes (with_call asks_length false of_notes) count asked_told free
            refused.inits
        by (inl (long, inr (inl (passes, refused)))) =
            not-taken journal_steps leaves new_leaves of_leaves count leaves_told bare refused.inits
        by (inl (long, inr (inr (stops, passes)))) = stops.stopped (with_call asks_length false of_notes) asked_told
        by (inr (short, inl (same, refused))) =
            not-taken journal_steps leaves new_leaves of_leaves count leaves_told bare refused.inits
        by (inr (short, inr (stops, passes))) =
            not-taken (init_steps identity) asked new_notes (with_call asks_length false of_notes) count asked_told free
            stops.inits

    pub init-both-complete : (notes leaves new_notes new_leaves : D)
        → InitsPair told plan faults taken after status identity notes leaves new_notes new_leaves
        → InitBothComplete told dig left status notes leaves
    init-both-complete notes leaves new_notes new_leaves is of_notes of_leaves notes_told leaves_told free bare =
        init-done is.answer status _ _
        (λ count made. pair-free notes leaves new_notes new_leaves of_notes of_leaves count notes_told leaves_told free
        bare
        (subst (λ (a : Result Unit InitRefusal).
        BeginsPair told plan faults told plan faults identity notes leaves a new_notes new_leaves) made is.inits))
        is.ends
