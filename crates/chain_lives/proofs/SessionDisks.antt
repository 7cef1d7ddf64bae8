-- What the disks of a node keep behind its run: what its answered commands left, or with what the next one adds, which
-- it may have begun.
use Rattle.std.proofs.Common.{◌≡◌, ◌⊎◌, ℕ, Bool, List, [], ◌∷◌, ◌++◌, Option, Some, None, refl, sym, ap, ◌∙◌, subst, inl, inr, arith}
use Rattle.std.specs.Prelude.{option_map}
use Rattle.std.proofs.lemmas.Grind.{common_steps}
use Rattle.crash_disk.specs.Disk.{History, FaultPlan}
use Rattle.plasma_tx.specs.declared.call.RootCall.{RootCall}
use Rattle.node_journal.specs.Notes.{NotesState}
use Rattle.node_journal.specs.Parts.{Parts, alone, both, OfLeaves}
use Rattle.node_rules.specs.Wallet.{WalletRecords}
use Rattle.node_lines.specs.declared.wallet_line.WalletLine.{WalletLine}
use Rattle.node_lines.specs.Grammar.{wallet_line_in, watcher_line_in}
use Rattle.node_replies.specs.declared.order.WatcherOrder.{WatcherOrder}
use Rattle.node_replies.specs.Orders.{with_record}
use Rattle.node_answers.specs.Answers.{Outcome, wallet_outcome, watcher_outcome}
use Rattle.node_deeds.proofs.WalletOrderLaws.{orders_add_one_record}
use Rattle.node_deeds.proofs.WatcherOrderLaws.{orders_add_no_leaf}
use Rattle.node_roles.specs.Notes.{NotesAt, with_note}
use Rattle.node_roles.specs.Parts.{with_effect, PartFails}
use Rattle.node_roles.specs.Nodes.{NodeAt, records_at, outcome_at}
use Rattle.node_roles.specs.Roles.{wallet_records, watcher_commands, wallet_commands}
use Rattle.node_sessions.specs.Sessions.{SessionState, calls_of, commanded}
use Rattle.streamed_lines.specs.Streams.{Stream}
use Rattle.streamed_lines.specs.Reading.{next_text}
use Rattle.run_endings.specs.declared.status.Status.{Status}
use Rattle.node_runs.specs.Disks.{Keeps, MayKeep, KeepsNode, NodeFailed}
use Rattle.node_runs.specs.Sessions.{Outside, AtNext, BrokenAt}
use Rattle.node_runs.specs.Runs.{NodeSession}
use Rattle.node_lives.specs.Answered.{Lines, kept_at, lines_answered}
use Rattle.node_lives.proofs.Own.{noted, records_with}
use Rattle.node_lives.proofs.Stays.{fault-images}
use Rattle.chain_lives.specs.Steps.{Deed}
use Rattle.chain_lives.specs.Acts.{with_outcome, wallet_deed, watcher_deed, next_in, log_in}
use Rattle.chain_lives.proofs.Visiting.{IsWalletAt, IsWatcherAt, wallet-left}
use Rattle.chain_lives.proofs.Disks.{notes_alone, BothOnly, NotesOnly}

-- the records are these, or with what a command adds that was begun
abbrev pub FoundBehind : WalletRecords → Option Deed → WalletRecords → Type 0
FoundBehind left next records = (records ≡ left) ⊎ ((deed : Deed) × (next ≡ Some deed) × (records ≡ deed.left))

-- a command adds a note or a leaf's record at most
pub one-added : (dig : List ℕ → List ℕ) (log : List RootCall) (wallet : WalletRecords) (line : WalletLine)
    → ((wallet_outcome dig log wallet line).note ≡ None) ⊎ ((wallet_outcome dig log wallet line).leaf ≡ None)
unfolding wallet_outcome
one-added dig log wallet line = grind (arith, common_steps, orders_add_one_record) steps 20000

-- a session that was broken off left the node where its lines did, or behind the next command
broken-left : {A L : Type 0} (command_in : List ℕ → Option L) (Left : A → Type 0)
    (Unanswered : List RootCall → A → L → Type 0) (status : Status) (ended : Bool) (bytes : List ℕ)
    (stream : Stream (SessionState A)) → BrokenAt command_in Left Unanswered status ended bytes stream
    → Left stream.run.node ⊎ AtNext command_in ended bytes stream Unanswered
broken-left command_in Left Unanswered status ended bytes stream is = grind (arith, common_steps) steps 150000

module _ {D : Type 0} (told : D → Option History) (plan : D → Option FaultPlan) (faults : D → ℕ)
    (dig : List ℕ → List ℕ) where
  -- ---- a wallet's disks

  module _ (P : WalletRecords → Type 0) (new_notes new_leaves : D) where
    -- handed back with such records
    wallet-kept : (at : Parts NotesAt) → KeepsNode told faults at (both new_notes new_leaves)
        → P (wallet_records (records_at at)) → BothOnly told P new_notes new_leaves
    wallet-kept at keeps is = by at.leaves keeps.1 is
      where
        by : (leaves : Option NotesAt) → OfLeaves (Keeps told faults) leaves (Some new_leaves)
            → P (records_with at.notes leaves) → BothOnly told P new_notes new_leaves
        by None kept is = absurd kept
        by (Some leaves) kept is = λ n there l also one other may left. record {
          kept = records_with at.notes (Some leaves);
          keeps_notes = (keeps.0.settled n there).images one may;
          keeps_leaves = (kept.settled l also).images other left;
          is = is;
        }

    note-fails : (notes : NotesAt) (leaves : Option NotesAt) (note leaf : Option (List ℕ)) → leaf ≡ None
        → PartFails (MayKeep told faults) note (Some notes) (Some new_notes)
        → OfLeaves (Keeps told faults) leaves (Some new_leaves) → P (records_with notes leaves)
        → P (record {
          notes = with_record (records_with notes leaves).notes note;
          leaves = with_record (records_with notes leaves).leaves leaf;
        })
        → BothOnly told P new_notes new_leaves
    note-fails notes leaves None leaf none fails keeps is more = absurd fails
    note-fails notes None (Some body) leaf none fails keeps is more = absurd keeps
    note-fails notes (Some leaves) (Some body) (Some other) none fails keeps is more = absurd (cc none)
    note-fails notes (Some leaves) (Some body) None none fails keeps is more = λ n there l also one other may left.
        (let rest = (keeps.settled l also).images other left in
        elim (fault-images notes.records body fails.passed notes.told (told new_notes) fails.told_is fails.any_moment n
        there one may) [
          | inl without ↦ grind (arith, common_steps, records_with) steps 20000
          | inr with' ↦ grind (arith, common_steps) steps 20000
        ])

    leaf-fails : (notes : NotesAt) (leaves : Option NotesAt) (note leaf : Option (List ℕ)) → note ≡ None
        → Keeps told faults (with_note notes note) new_notes
        → PartFails (MayKeep told faults) leaf leaves (Some new_leaves) → P (records_with notes leaves)
        → P (record {
          notes = with_record (records_with notes leaves).notes note;
          leaves = with_record (records_with notes leaves).leaves leaf;
        })
        → BothOnly told P new_notes new_leaves
    leaf-fails notes leaves (Some body) leaf none keeps fails is more = absurd (cc none)
    leaf-fails notes leaves None None none keeps fails is more = absurd fails
    leaf-fails notes None None (Some body) none keeps fails is more = absurd fails
    leaf-fails notes (Some leaves) None (Some body) none keeps fails is more = λ n there l also one other may left.
        (let front = (keeps.settled n there).images one may in
        elim (fault-images leaves.records body fails.passed leaves.told (told new_leaves) fails.told_is fails.any_moment
        l also other left) [
          | inl without ↦ grind (arith, common_steps, records_with) steps 20000
          | inr with' ↦ grind (arith, common_steps) steps 20000
        ])

    never : {B : Type 0} (o : Option (List ℕ)) (at : Option NotesAt) (part : Option D) → o ≡ None
        → PartFails (MayKeep told faults) o at part → B
    never None at part none fails = absurd fails
    never (Some body) at part none fails = absurd (cc none)

    -- behind a device fault of a command that adds one record
    wallet-fails : (at : Parts NotesAt) (outcome : Outcome) → (outcome.note ≡ None) ⊎ (outcome.leaf ≡ None)
        → NodeFailed told faults outcome at (both new_notes new_leaves) → P (wallet_records (records_at at))
        → P (with_outcome (wallet_records (records_at at)) outcome) → BothOnly told P new_notes new_leaves
    wallet-fails at outcome (inl none) (inl (fails, keeps)) is more =
        never outcome.note (Some at.notes) (Some new_notes) none fails
    wallet-fails at outcome (inr none) (inl (fails, keeps)) is more =
        note-fails at.notes at.leaves outcome.note outcome.leaf none fails keeps is more
    wallet-fails at outcome (inl none) (inr (keeps, fails)) is more =
        leaf-fails at.notes at.leaves outcome.note outcome.leaf none keeps fails is more
    wallet-fails at outcome (inr none) (inr (keeps, fails)) is more =
        never outcome.leaf at.leaves (Some new_leaves) none fails

  -- so a session leaves them
  module _ (n : ℕ) (opened : Parts (NotesState D)) (new_notes new_leaves : D) (outside : Outside) (failed : Type 0)
      (status : Status) where
    -- what may be found behind these lines
    abbrev WalletFinds : Lines (NodeAt NotesAt) → WalletRecords → Type 0
    WalletFinds lines =
        let left = kept_at lines.stream.run.node in
        FoundBehind left (option_map (wallet_deed n dig (log_in lines) left) (next_in wallet_line_in lines))

    -- the next command
    wallet-next : (bytes : List ℕ) (stream : Stream (SessionState (NodeAt NotesAt))) (command : WalletLine)
        → IsWalletAt dig stream.run.node
        → commanded wallet_line_in stream.run (next_text bytes stream) ≡ Some command
        → WalletFinds (record { bytes = bytes; stream = stream })
        (with_outcome (kept_at stream.run.node)
        (outcome_at wallet_commands (calls_of stream.run.log) stream.run.node command))
    wallet-next bytes stream command at spells =
        let left = kept_at stream.run.node in
        let log = calls_of stream.run.log in
        inr (
          wallet_deed n dig log left command,
          ap (option_map (wallet_deed n dig log left)) spells,
          ap (λ (d : List ℕ → List ℕ). with_outcome left (wallet_outcome d log left command)) at.dig_is,
        )

    wallet-broken : (ended : Bool) (bytes : List ℕ) (stream : Stream (SessionState (NodeAt NotesAt)))
        → IsWalletAt dig stream.run.node
        → KeepsNode told faults stream.run.node.kept (both new_notes new_leaves)
        ⊎ AtNext wallet_line_in ended bytes stream
        (λ log at line. KeepsNode told faults (with_effect with_note at.kept (outcome_at wallet_commands log at line))
        (both new_notes new_leaves))
        → BothOnly told (WalletFinds (record { bytes = bytes; stream = stream })) new_notes new_leaves
    wallet-broken ended bytes stream at (inl keeps) =
        wallet-kept _ new_notes new_leaves stream.run.node.kept keeps (inl refl)
    wallet-broken ended bytes stream at (inr (may, (command, spells, keeps))) =
        let outcome = outcome_at wallet_commands (calls_of stream.run.log) stream.run.node command in
        wallet-kept _ new_notes new_leaves (with_effect with_note stream.run.node.kept outcome) keeps
        (subst (WalletFinds (record { bytes = bytes; stream = stream }))
        (sym (wallet-left dig stream.run.node outcome at.leaves)) (wallet-next bytes stream command at spells))

    pub wallet-session : (session : NodeSession told plan faults dig wallet_commands opened (both new_notes new_leaves)
        outside failed status)
        → IsWalletAt dig (lines_answered session).stream.run.node
        → BothOnly told (WalletFinds (lines_answered session)) new_notes new_leaves
    wallet-session (inl answered) at = wallet-kept _ new_notes new_leaves _ answered.left (inl refl)
    wallet-session (inr (inl faulted)) at =
        let stream = faulted.stream in
        let command = faulted.left.1.0 in
        wallet-fails _ new_notes new_leaves stream.run.node.kept
        (outcome_at wallet_commands (calls_of stream.run.log) stream.run.node command)
        (one-added stream.run.node.dig (calls_of stream.run.log) (kept_at stream.run.node) command) faulted.left.1.2
        (inl refl) (wallet-next faulted.bytes stream command at faulted.left.1.1)
    wallet-session (inr (inr broken)) at =
        wallet-broken broken.ended broken.bytes broken.stream at
        (broken-left wallet_line_in (λ at. KeepsNode told faults at.kept (both new_notes new_leaves))
        (λ log at line. KeepsNode told faults (with_effect with_note at.kept (outcome_at wallet_commands log at line))
        (both new_notes new_leaves)) status broken.ended broken.bytes broken.stream broken.left)

  -- ---- a watcher's disk

  module _ (P : WalletRecords → Type 0) (new_notes : D) where
    watcher-kept : (at : Parts NotesAt) → KeepsNode told faults at (alone new_notes) → P (notes_alone at.notes.records)
        → NotesOnly told P new_notes
    watcher-kept at keeps is = λ n there image may.
        (record { kept = at.notes.records; keeps = (keeps.0.settled n there).images image may; is = is })

    none-fails : (added : Option (List ℕ)) (at : Option NotesAt) → PartFails (MayKeep told faults) added at None → ⊥
    none-fails added at fails = grind (arith, common_steps) steps 20000

    watcher-note : (notes : NotesAt) (note : Option (List ℕ))
        → PartFails (MayKeep told faults) note (Some notes) (Some new_notes) → P (notes_alone notes.records)
        → P (notes_alone (with_record notes.records note)) → NotesOnly told P new_notes
    watcher-note notes None fails is more = absurd fails
    watcher-note notes (Some body) fails is more = λ n there image may.
        (elim (fault-images notes.records body fails.passed notes.told (told new_notes) fails.told_is fails.any_moment n
        there image may) [
          | inl without ↦ record { kept = notes.records; keeps = without; is = is }
          | inr with' ↦ record { kept = notes.records ++ body ∷ []; keeps = with'; is = more }
        ])

    watcher-fails : (at : Parts NotesAt) (outcome : Outcome) → NodeFailed told faults outcome at (alone new_notes)
        → P (notes_alone at.notes.records) → P (notes_alone (with_record at.notes.records outcome.note))
        → NotesOnly told P new_notes
    watcher-fails at outcome (inl (fails, keeps)) is more = watcher-note at.notes outcome.note fails is more
    watcher-fails at outcome (inr (keeps, fails)) is more = absurd (none-fails outcome.leaf at.leaves fails)

  module _ (n : ℕ) (opened : Parts (NotesState D)) (new_notes : D) (outside : Outside) (failed : Type 0)
      (status : Status) where
    abbrev WatcherFinds : Lines (NodeAt NotesAt) → WalletRecords → Type 0
    WatcherFinds lines =
        let left = kept_at lines.stream.run.node in
        FoundBehind left (option_map (watcher_deed n dig (log_in lines) left) (next_in watcher_line_in lines))

    alone-is : (at : NodeAt NotesAt) → IsWatcherAt dig at → kept_at at ≡ notes_alone at.kept.notes.records
    alone-is at is = ap (λ (leaves : Option NotesAt). records_with at.kept.notes leaves) is.leaves

    watcher-here : (bytes : List ℕ) (stream : Stream (SessionState (NodeAt NotesAt))) → IsWatcherAt dig stream.run.node
        → WatcherFinds (record { bytes = bytes; stream = stream }) (notes_alone stream.run.node.kept.notes.records)
    watcher-here bytes stream at = inl (sym (alone-is stream.run.node at))

    watcher-next : (bytes : List ℕ) (stream : Stream (SessionState (NodeAt NotesAt))) (command : WatcherOrder)
        → IsWatcherAt dig stream.run.node
        → commanded watcher_line_in stream.run (next_text bytes stream) ≡ Some command
        → WatcherFinds (record { bytes = bytes; stream = stream })
        (notes_alone (with_record stream.run.node.kept.notes.records
        (outcome_at watcher_commands (calls_of stream.run.log) stream.run.node command).note))
    unfolding watcher_outcome
    watcher-next bytes stream command at spells =
        let left = kept_at stream.run.node in
        let log = calls_of stream.run.log in
        let outcome = outcome_at watcher_commands log stream.run.node command in
        let leafless : outcome.leaf ≡ None = orders_add_no_leaf stream.run.node.dig log left.notes command in
        inr (
          watcher_deed n dig log left command,
          ap (option_map (watcher_deed n dig log left)) spells,
          ap (λ (o : Option (List ℕ)). record {
            notes = with_record left.notes outcome.note;
            leaves = with_record [] o;
          }) (sym leafless)
              ∙ ap (λ (r : WalletRecords). record {
                notes = with_record left.notes outcome.note;
                leaves = with_record r.leaves outcome.leaf;
              }) (sym (alone-is stream.run.node at))
              ∙ ap (λ (d : List ℕ → List ℕ). with_outcome left (watcher_outcome d log left.notes command)) at.dig_is,
        )

    watcher-broken : (ended : Bool) (bytes : List ℕ) (stream : Stream (SessionState (NodeAt NotesAt)))
        → IsWatcherAt dig stream.run.node
        → KeepsNode told faults stream.run.node.kept (alone new_notes)
        ⊎ AtNext watcher_line_in ended bytes stream
        (λ log at line. KeepsNode told faults (with_effect with_note at.kept (outcome_at watcher_commands log at line))
        (alone new_notes))
        → NotesOnly told (WatcherFinds (record { bytes = bytes; stream = stream })) new_notes
    watcher-broken ended bytes stream at (inl keeps) =
        watcher-kept _ new_notes stream.run.node.kept keeps (watcher-here bytes stream at)
    watcher-broken ended bytes stream at (inr (may, (command, spells, keeps))) =
        let outcome = outcome_at watcher_commands (calls_of stream.run.log) stream.run.node command in
        watcher-kept _ new_notes (with_effect with_note stream.run.node.kept outcome) keeps
        (subst (λ (r : List (List ℕ)). WatcherFinds (record { bytes = bytes; stream = stream }) (notes_alone r))
        (sym (noted stream.run.node.kept.notes outcome.note)) (watcher-next bytes stream command at spells))

    pub watcher-session : (session : NodeSession told plan faults dig watcher_commands opened (alone new_notes) outside
        failed status)
        → IsWatcherAt dig (lines_answered session).stream.run.node
        → NotesOnly told (WatcherFinds (lines_answered session)) new_notes
    watcher-session (inl answered) at =
        watcher-kept _ new_notes _ answered.left (inl (sym (alone-is _ at)))
    watcher-session (inr (inl faulted)) at =
        let stream = faulted.stream in
        let command = faulted.left.1.0 in
        watcher-fails _ new_notes stream.run.node.kept
        (outcome_at watcher_commands (calls_of stream.run.log) stream.run.node command) faulted.left.1.2
        (watcher-here faulted.bytes stream at) (watcher-next faulted.bytes stream command at faulted.left.1.1)
    watcher-session (inr (inr broken)) at =
        watcher-broken broken.ended broken.bytes broken.stream at
        (broken-left watcher_line_in (λ at. KeepsNode told faults at.kept (alone new_notes))
        (λ log at line. KeepsNode told faults (with_effect with_note at.kept (outcome_at watcher_commands log at line))
        (alone new_notes)) status broken.ended broken.bytes broken.stream broken.left)
