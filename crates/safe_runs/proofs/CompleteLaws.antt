-- A run over a good input says all of it, unless something fails.
use Rattle.std.proofs.Common.{◌≡◌, ◌⊎◌, inl, inr, ℕ, ◌+◌, Bool, true, false, if◌then◌else◌, List, [], ◌∷◌, ◌++◌, length, Option, Some, None, Result, Ok, Err, refl, sym, ap, ◌∙◌, subst, append-nil, arith}
use Rattle.std.specs.Prelude.{unwrap_or}
use Rattle.std.specs.List.{list_all}
use Rattle.std.proofs.lemmas.Slice.Eq.{bytes_eq-Decides}
use Rattle.crash_disk.specs.Disk.{History, content}
use Rattle.gate_journal.specs.declared.refusal.JournalRefusal.{JournalRefusal}
use Rattle.gate_journal.specs.declared.refusal.JournalRefusal.TheVariants.{AlreadyMade as JournalMade, NotJournal as JournalPlace, DeviceFault as JournalFault, Closed as JournalClosed, RecordTooLong as JournalLong, NoMemory as JournalNoMemory}
use Rattle.plasma_tx.specs.Chain.{Chain}
use Rattle.plasma_tx.specs.Views.{now}
use Rattle.node_sessions.specs.Sessions.{begun, calls_of, other_chain, first_log, longer_log, joins}
use Rattle.streamed_lines.specs.declared.ending.Ending.{Ending}
use Rattle.streamed_lines.specs.declared.ending.Ending.TheVariants.{Complete, ReadFault as ReadFaultEnding}
use Rattle.streamed_lines.specs.declared.ending.Stop.TheVariants.{Ends}
use Rattle.streamed_lines.specs.Lines.{lines_in, text_of, is_too_long}
use Rattle.streamed_lines.specs.Streams.{Stream, Streamed, stream_from, stream_of}
use Rattle.streamed_lines.proofs.StreamLaws.{goes-on}
use Rattle.streamed_lines.proofs.BeginningLaws.{beginnings_wait}
use Rattle.streamed_lines.proofs.CompleteLaws.{read-of}
use Rattle.run_endings.specs.declared.status.Status.{Status}
use Rattle.run_endings.specs.declared.status.Status.TheVariants.{Done, Refused, Usage, BadLine, ReadFault, WriteFault, DeviceFault, NoMemory, TooLong, NotJournal, AlreadyMade}
use Rattle.run_endings.specs.Outputs.{Output, EndsAs}
use Rattle.safe_runs.specs.declared.role.Role.{Role}
use Rattle.safe_runs.specs.declared.role.Role.TheVariants.{Wallet, Watcher}
use Rattle.safe_runs.specs.declared.told.Told.{Told}
use Rattle.safe_runs.specs.Answers.{is_case_good}
use Rattle.safe_runs.specs.Sessions.{LookState, tells, next_line, look_rules, untold}
use Rattle.safe_runs.specs.Runs.{Node, Outside, Looks, IsUnread, IsRefused, HoldsOf, RunsWatcher, RunsWallet, RunsSafe, watcher_in, wallet_in, ended_output, lines_of, look_output, refused_output, whole_output}
use Rattle.safe_runs.specs.Complete.{AreTold, EndLogAndAreTold, KeepTheRules, SaysUnlessFailed, LookComplete, WatcherComplete, WalletComplete, CompletesBy}

-- ---- the lines of a good input are all read

module _ (tag : List ℕ) where
  -- lines that were read, with this log, ended or not, and this told behind it
  abbrev behind : Option Chain → Bool → Told → ℕ → List ℕ → Stream LookState
  behind log over told count text =
      record { run = record { log = log; is_over = over; node = told }; count = count; text = text }

  -- what ends a look behind them
  abbrev ending-is : (start : ℕ) (stream : Stream LookState) (lines : List (List ℕ)) → Type 0
  ending-is start stream lines = (stream_from (look_rules tag) true start stream lines).ending ≡ Complete

  -- a line that is read, and the look ends so behind it
  on : (start : ℕ) (stream : Stream LookState) (line : List ℕ) (lines : List (List ℕ)) (run : LookState)
      → is_too_long (stream.count + 1) start line ≡ false → next_line tag stream.run (text_of line) ≡ Ok (run, [])
      → ending-is (start + length line) (record { run = run; count = stream.count + 1; text = stream.text ++ [] }) lines
      → ending-is start stream (line ∷ lines)
  on start stream line lines run fits is later =
      ap (λ (s : Streamed LookState (List ℕ)). s.ending)
      (goes-on (look_rules tag) true start stream line lines (run, []) fits refl is)
      ∙ later

  told-ends : (log : Chain) (told : Told) (count start : ℕ) (text : List ℕ) (lines : List (List ℕ))
      → AreTold told (count + 1) start lines → ending-is start (behind (Some log) true told count text) lines
  unfolding AreTold stream_from next_line
  told-ends log told count start text [] are = refl
  told-ends log told count start text (line ∷ lines) are =
      let next = are.1.0 in
      let session : LookState = record { log = Some log; is_over = true; node = told } in
      on start (behind (Some log) true told count text) line lines
      (record { log = Some log; is_over = true; node = next }) are.0 (ap (tells session) are.1.1)
      (told-ends log next (count + 1) (start + length line) (text ++ []) lines are.1.2)

  log-ends : (log : Chain) (count start : ℕ) (text : List ℕ) (lines : List (List ℕ))
      → EndLogAndAreTold log (count + 1) start lines
      → ending-is start (behind (Some log) false untold count text) lines
  unfolding EndLogAndAreTold next_line
  log-ends log count start text [] never = absurd never
  log-ends log count start text (line ∷ lines) (fits, inl ends) =
      on start (behind (Some log) false untold count text) line lines
      (record { log = Some log; is_over = true; node = untold }) fits (rw ends.0 refl)
      (told-ends log untold (count + 1) (start + length line) (text ++ []) lines ends.1)
  log-ends log count start text (line ∷ lines) (fits, inr goes) =
      let longer = goes.1.0 in
      let session : LookState = record { log = Some log; is_over = false; node = untold } in
      on start (behind (Some log) false untold count text) line lines
      (record { log = Some longer; is_over = false; node = untold }) fits
      (rw goes.0 (ap (λ found. joins session (longer_log found)) goes.1.1))
      (log-ends longer (count + 1) (start + length line) (text ++ []) lines goes.1.2)

  begins : (lines : List (List ℕ)) → KeepTheRules tag lines → ending-is 0 (behind None false untold 0 []) lines
  unfolding KeepTheRules next_line
  begins [] never = absurd never
  begins (line ∷ lines) keep =
      let chain = keep.1.0 in
      let session : LookState = begun untold in
      on 0 (behind None false untold 0 []) line lines (record { log = Some chain; is_over = false; node = untold })
      keep.0
      (ap (λ first. joins session (first_log tag first)) keep.1.1
      ∙ ap (λ same. joins session (if same then Ok chain else Err (Ends other_chain)))
      ((bytes_eq-Decides chain.tag tag).1 keep.1.2))
      (subst (λ m. ending-is m (behind (Some chain) false untold 1 []) lines) (omega arith)
      (log-ends chain 1 (length line) [] lines keep.1.3))

  kept-are-read : (bytes : List ℕ) → KeepTheRules tag (lines_in bytes)
      → (stream_of (look_rules tag) (begun untold) bytes true).ending ≡ Complete
  unfolding stream_of
  kept-are-read bytes keep = begins (lines_in bytes) keep

-- ---- by the status

-- an output that says something of coins
abbrev IsSaid : Status → Type 0
IsSaid Done = Unit {0}
IsSaid Refused = Unit {0}
IsSaid status = ⊥

-- one that says what failed
abbrev HasFailed : Status → Type 0
HasFailed ReadFault = Unit {0}
HasFailed DeviceFault = Unit {0}
HasFailed NoMemory = Unit {0}
HasFailed status = ⊥

said : (output : Output) (status : Status) (before after : Option (List ℕ)) (failed : Type 0) → IsSaid output.status
    → EndsAs output status before after failed → SaysUnlessFailed output before after status
said output ReadFault before after failed is ends = tt
said output WriteFault before after failed is ends = tt
said output DeviceFault before after failed is ends = tt
said output NoMemory before after failed is ends = tt
said output Done before after failed is ends = ends
said output Refused before after failed is ends = ends
said output Usage before after failed is ends = subst IsSaid ends.0 is
said output BadLine before after failed is ends = subst IsSaid ends.0 is
said output TooLong before after failed is ends = subst IsSaid ends.0 is
said output NotJournal before after failed is ends = subst IsSaid ends.0 is
said output AlreadyMade before after failed is ends = subst IsSaid ends.0 is

fails : (wanted output : Output) (status : Status) (before after : Option (List ℕ)) (failed : Type 0)
    → HasFailed output.status → EndsAs output status before after failed → SaysUnlessFailed wanted before after status
fails wanted output ReadFault before after failed is ends = tt
fails wanted output WriteFault before after failed is ends = tt
fails wanted output DeviceFault before after failed is ends = tt
fails wanted output NoMemory before after failed is ends = tt
fails wanted output Done before after failed is ends = absurd (subst HasFailed ends.0 is)
fails wanted output Refused before after failed is ends = absurd (subst HasFailed ends.0 is)
fails wanted output Usage before after failed is ends = subst HasFailed ends.0 is
fails wanted output BadLine before after failed is ends = subst HasFailed ends.0 is
fails wanted output TooLong before after failed is ends = subst HasFailed ends.0 is
fails wanted output NotJournal before after failed is ends = subst HasFailed ends.0 is
fails wanted output AlreadyMade before after failed is ends = subst HasFailed ends.0 is

-- ---- a look

whole-said : (node : Node) (run : LookState) → IsSaid (whole_output node run).status
whole-said node run =
    by (list_all (is_case_good (calls_of run.log) node.account (unwrap_or run.node.clock (now (calls_of run.log))))
    (node.cases (calls_of run.log) run.node.hidden))
  where
    by : (good : Bool) → IsSaid (if good then Done else Refused)
    by true = tt
    by false = tt

module _ {D : Type 0} (told : D → Option History) (dig : List ℕ → List ℕ) (outside : Outside) (failed : Type 0)
    (status : Status) where
  look-complete : (node : Node) → Looks node outside failed status → LookComplete told dig outside status node
  look-complete node looks input is keep =
      let of = read-of input outside.left outside.later looks.bytes looks.ended is looks.gave in
      by looks.ended of.0 of.1 of.2 looks.ends
    where
      complete : (lines_of node input true).ending ≡ Complete
      complete = kept-are-read node.tag input keep

      by : (ended : Bool) (rest : List ℕ) → input ≡ looks.bytes ++ rest → (ended ≡ true → rest ≡ [])
          → EndsAs (look_output node looks.bytes ended) status outside.taken outside.after failed
          → SaysUnlessFailed (look_output node input true) outside.taken outside.after status
      by true rest whole end ends =
          said (look_output node input true) status _ _ failed
          (subst (λ (e : Ending (List ℕ)). IsSaid (ended_output node (lines_of node input true).stream.run e).status)
          (sym complete) (whole-said node (lines_of node input true).stream.run))
          (subst (λ (b : List ℕ). EndsAs (look_output node b true) status outside.taken outside.after failed)
          (sym (whole ∙ ap (λ (r : List ℕ). looks.bytes ++ r) (end refl) ∙ append-nil looks.bytes)) ends)
      by false rest whole end ends =
          let waits : (lines_of node looks.bytes false).ending ≡ ReadFaultEnding =
          beginnings_wait (look_rules node.tag) (begun untold) looks.bytes rest
          (ap (λ (b : List ℕ). (lines_of node b true).ending) (sym whole) ∙ complete) in
          fails (look_output node input true) (look_output node looks.bytes false) status _ _ failed
          (subst (λ (e : Ending (List ℕ)).
          HasFailed (ended_output node (lines_of node looks.bytes false).stream.run e).status) (sym waits) tt) ends

  -- ---- a run

  refusal-fails : (why : JournalRefusal) → ((place : ℕ) → why ≡ JournalPlace place → ⊥)
      → HasFailed (refused_output why).status
  refusal-fails (JournalPlace place) own = absurd (own place refl)
  refusal-fails JournalFault own = tt
  refusal-fails JournalNoMemory own = tt
  refusal-fails JournalClosed own = tt
  refusal-fails (JournalMade size) own = tt
  refusal-fails (JournalLong size) own = tt

  ok-same : (read : Result Node ℕ) (one other : Node) → read ≡ Ok one → read ≡ Ok other → one ≡ other
  ok-same read one other first second = cc

  unread-own : (why : JournalRefusal) → IsUnread why → (place : ℕ) → why ≡ JournalPlace place → ⊥
  unread-own why unread place foreign = subst IsUnread foreign unread

  refused-own : (read : Result Node ℕ) (node : Node) (why : JournalRefusal) → read ≡ Ok node → IsRefused read why
      → (place : ℕ) → why ≡ JournalPlace place → ⊥
  refused-own read node why reads refused place foreign =
      let wrong : read ≡ Err place = subst (IsRefused read) foreign refused in absurd (cc (reads, wrong))

  watcher-complete : (notes : D) → RunsWatcher told dig notes outside failed status
      → WatcherComplete told dig outside status notes
  watcher-complete notes (inl (node, reads, looks)) history at told_is spells =
      let same =
      ok-same (watcher_in dig (content history)) node at
      (ap (watcher_in dig) (sym (reads.1 history told_is)) ∙ reads.2) spells in
      look-complete at (subst (λ (n : Node). Looks n outside failed status) same looks)
  watcher-complete notes (inr (why, refuses, refused)) history at told_is spells = λ input is keep.
      fails (look_output at input true) (refused_output why) status _ _ ⊥ (refusal-fails why (own refuses)) refused.ends
    where
      own : (IsUnread why ⊎ HoldsOf told notes (λ image. IsRefused (watcher_in dig image) why)) → (place : ℕ)
          → why ≡ JournalPlace place → ⊥
      own (inl unread) = unread-own why unread
      own (inr (image, holds, is)) =
          refused-own (watcher_in dig image) at why (ap (watcher_in dig) (holds history told_is) ∙ spells) is

  wallet-complete : (notes leaves : D) → RunsWallet told dig notes leaves outside failed status
      → WalletComplete told dig outside status notes leaves
  wallet-complete notes leaves (inl (node, (of_notes, holds, (of_leaves, holds_leaves, is)), looks)) first second at
      notes_are leaves_are spells =
      let same =
      ok-same (wallet_in dig (content first) (content second)) node at
      (ap (λ (image : List ℕ). wallet_in dig image (content second)) (sym (holds first notes_are))
      ∙ ap (wallet_in dig of_notes) (sym (holds_leaves second leaves_are)) ∙ is) spells in
      look-complete at (subst (λ (n : Node). Looks n outside failed status) same looks)
  wallet-complete notes leaves (inr (why, refuses, refused)) first second at notes_are leaves_are spells =
      λ input is keep.
      fails (look_output at input true) (refused_output why) status _ _ ⊥ (refusal-fails why (own refuses)) refused.ends
    where
      own : (IsUnread why
          ⊎ HoldsOf told notes (λ of_notes. HoldsOf told leaves (λ of_leaves.
          IsRefused (wallet_in dig of_notes of_leaves) why))) → (place : ℕ) → why ≡ JournalPlace place → ⊥
      own (inl unread) = unread-own why unread
      own (inr (of_notes, holds, (of_leaves, holds_leaves, is))) =
          refused-own (wallet_in dig of_notes of_leaves) at why
          (ap (λ (image : List ℕ). wallet_in dig image of_leaves) (holds first notes_are)
          ∙ ap (wallet_in dig (content first)) (holds_leaves second leaves_are) ∙ spells) is

  pub runs-complete : (role : Option Role) (notes leaves : D)
      → RunsSafe told dig role notes leaves outside failed status
      → CompletesBy told dig outside status role notes leaves
  runs-complete None notes leaves runs = tt
  runs-complete (Some Watcher) notes leaves runs = watcher-complete notes runs
  runs-complete (Some Wallet) notes leaves runs = wallet-complete notes leaves runs
