-- What an answer of a commanded node says, where it leaves the node, and where that leaves the node's session.
use Rattle.std.specs.Prelude.{◌≡◌, ◌⊎◌, ℕ, Bool, true, false, List, ◌++◌, Option, Some, None, IsSome, Result, Ok, Err}
use Rattle.node_journal.specs.declared.stop.Stop.{Stop as NodeStop}
use Rattle.node_journal.specs.declared.stop.Stop.TheVariants.{NoMemory as NodeMemory, DeviceFault}
use Rattle.node_sessions.specs.declared.said.Said.{Said}
use Rattle.node_sessions.specs.declared.said.Said.TheVariants.{Answered, Refused}
use Rattle.streamed_lines.specs.declared.ending.Halt.{Halt}
use Rattle.streamed_lines.specs.declared.ending.Halt.TheVariants.{Stops, Failed, NoMemory}
use Rattle.plasma_tx.specs.declared.call.RootCall.{RootCall}
use Rattle.plasma_tx.specs.Chain.{Chain}
use Rattle.root_log.specs.Grammar.{chain_in, TakesMemory, begins_as_chain}
use Rattle.node_sessions.specs.Sessions.{SessionState, OrStop, calls_of, commanded}

-- A command that does this was answered so behind a text: it was done, and its answer stands behind the text; or it was
-- refused, and the node is where it was.
abbrev pub IsDone : {N A : Type 0} → (N → A → Type 0) → Result (A × List ℕ) (List ℕ) → A → Said → List ℕ → List ℕ
    → N → Type 0
IsDone {A = A} IsAt outcome at Answered before after new =
    (left : A) × (text : List ℕ) × (outcome ≡ Ok (left, text)) × IsAt new left × (after ≡ before ++ text)
IsDone IsAt outcome at (Refused cause) before after new = (outcome ≡ Err cause) × IsAt new at × (after ≡ before)

-- a refusal puts no text
abbrev pub IsUntold : Said → List ℕ → List ℕ → Type 0
IsUntold Answered before after = Unit {0}
IsUntold (Refused cause) before after = after ≡ before

-- why a line of a log isn't read: it ends the session, or memory ran out; no device is asked
abbrev pub HaltsLog : {T : Type 0} → OrStop T → Halt (List ℕ) → Type 0
HaltsLog next (Stops stop) = next ≡ Err stop
HaltsLog next Failed = ⊥
HaltsLog next NoMemory = Unit {0}

-- a session's next line may take memory to be read: the first one where it begins as a chain or names one, another one
-- of the log as the log's grammar says, and a command where it begins one that may have bytes
abbrev pub MayTakeMemory : (List ℕ → Bool) → Option Chain → Bool → List ℕ → Type 0
MayTakeMemory begins_with_bytes None is_over line = (begins_as_chain line ≡ true) ⊎ IsSome (chain_in line)
MayTakeMemory begins_with_bytes (Some chain) false line = TakesMemory line
MayTakeMemory begins_with_bytes (Some chain) true line = begins_with_bytes line ≡ true

-- over a node that is where its commands left it, or was stopped in a command behind a log
module _ {N A L : Type 0} (IsAt : N → A → Type 0) (IsStopped : N → List RootCall → A → L → NodeStop → Type 0) where
  -- the command that a line spells was stopped so behind this log
  abbrev pub IsStoppedIn : N → List RootCall → A → Option L → NodeStop → Type 0
  IsStoppedIn node log at spelled stop = (command : L) × (spelled ≡ Some command) × IsStopped node log at command stop

  -- where the node is when a line, which spells this command, halts the session behind this log: a refusal, a bad line
  -- and want of memory in the log leave it; a command that was stopped leaves it as its stop says
  abbrev pub IsHaltedNode : N → List RootCall → A → Option L → Halt (List ℕ) → Type 0
  IsHaltedNode node log at spelled (Stops stop) = IsAt node at
  IsHaltedNode node log at spelled Failed = IsStoppedIn node log at spelled DeviceFault
  IsHaltedNode node log at spelled NoMemory = IsAt node at ⊎ IsStoppedIn node log at spelled NodeMemory

  -- a session in memory is what lines came to
  pub record IsSession (session : SessionState N) (run : SessionState A) : Type 0 where
    pub log_is : session.log ≡ run.log
    pub over_is : session.is_over ≡ run.is_over
    pub node_is : IsAt session.node run.node

  -- it was what lines came to, and the next one, which spells its command so, halted it: its log stays, and memory was
  -- wanted only to read a line that may take it, or in the command that was stopped so
  pub record IsHaltedSession (command_in : List ℕ → Option L) (begins_with_bytes : List ℕ → Bool)
      (session : SessionState N) (run : SessionState A) (line : List ℕ) (halt : Halt (List ℕ)) : Type 0 where
    pub log_is : session.log ≡ run.log
    pub over_is : session.is_over ≡ run.is_over
    pub node_is : IsHaltedNode session.node (calls_of run.log) run.node (commanded command_in run line) halt
    pub memory : halt ≡ NoMemory → MayTakeMemory begins_with_bytes run.log run.is_over line
        ⊎ IsStoppedIn session.node (calls_of run.log) run.node (commanded command_in run line) NodeMemory
