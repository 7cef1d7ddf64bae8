-- A session of a node that was answered, or broken off, as a run of the node.
use Rattle.node_runs.proofs.Words.{◌≡◌, ◌⊎◌, ℕ, inl, inr, Bool, true, List, ◌++◌, Option, Ok, sym, ap, ◌∙◌, subst, RootCall, NodeStop, NodeMemory, NodeFault, Ending, BadLine, TooLong, Ended, Rules, Stream, Streamed, stream_of, is_read_fault, next_text, IsLeft, HaltsNext, Answers, BrokeOff, SessionState, begun, calls_of, commanded, Status, WriteFault, DeviceFault, NoMemory, EndsAs, status_of, last_text, session_output, fault_output, Outside, AtNext, BrokenAt, RunsSession}
use Rattle.streamed_lines.specs.declared.ending.Stop.TheVariants.{BadLine as BadLineStop, TooLong as TooLongStop, Ends}
use Rattle.streamed_lines.specs.declared.ending.Halt.{Halt}
use Rattle.streamed_lines.specs.declared.ending.Halt.TheVariants.{Stops, Failed, NoMemory as NoMemoryHalt}
use Rattle.streamed_lines.specs.declared.ending.Break.{Break}
use Rattle.streamed_lines.specs.declared.ending.Break.TheVariants.{WriteFault as WriteBreak, Failed as FailedBreak, NoMemory as NoMemoryBreak}
use Rattle.streamed_lines.specs.Bounds.{TakesFew}
use Rattle.streamed_lines.specs.Reading.{IsBroken}
use Rattle.node_sessions.specs.Commands.{IsHaltedNode}
use Rattle.node_runs.proofs.EndLaws.{ends-more, failed-of}

-- over a session's answerer, which leaves the node where its lines left it
module _ {N A L W : Type 0} (rules : Rules (SessionState A) (List ℕ)) (command_in : List ℕ → Option L) (found : A)
    (Ran : W → SessionState A → Type 0) (Halted : W → SessionState A → List ℕ → Halt (List ℕ) → Type 0)
    (IsAt : N → A → Type 0) (IsStopped : N → List RootCall → A → L → NodeStop → Type 0) (session : W) (node : N)
    (ran : (run : SessionState A) → Ran session run → IsAt node run.node)
    (halted : (run : SessionState A) (line : List ℕ) (halt : Halt (List ℕ)) → Halted session run line halt
    → IsHaltedNode IsAt IsStopped node (calls_of run.log) run.node (commanded command_in run line) halt) where
  -- what a run of it did, where this holds behind a device fault
  abbrev RunsBy : (List RootCall → A → L → Type 0) → Outside → Type 0 → Status → Type 0
  RunsBy Faulted outside failed status =
      RunsSession rules command_in found (λ at. IsAt node at) Faulted
      (λ log at command. IsStopped node log at command NodeMemory)
      outside failed status

  -- what a run of it did
  abbrev Runs : Outside → Type 0 → Status → Type 0
  Runs outside failed status =
      RunsBy (λ log at command. IsStopped node log at command NodeFault) outside failed status

  -- the node is where the answered lines left it
  left-at : (run : SessionState A) (line : List ℕ) (ending : Ending (List ℕ))
      → IsLeft Ran Halted session run line ending → IsAt node run.node
  left-at run line (BadLine n) (inl is) = ran run is
  left-at run line (BadLine n) (inr is) = halted run line (Stops BadLineStop) is
  left-at run line (TooLong n) (inl is) = ran run is
  left-at run line (TooLong n) (inr is) = halted run line (Stops TooLongStop) is
  left-at run line (Ended n cause) is = halted run line (Stops (Ends cause)) is
  left-at run line ending is = ran run is

  -- a session that was answered to its end, whose last text was put
  pub answered-runs : {Faulted : List RootCall → A → L → Type 0}
      (left later taken put_then after : Option (List ℕ)) (text : List ℕ) (ending : Ending (List ℕ))
      (Reads : Bool → Type 0) (status : Status)
      → Answers rules (begun found) Ran Halted left later taken put_then text ending session
      → Reads (is_read_fault (Ok ending))
      → EndsAs (record { status = status_of ending; answers = text; last = last_text ending }) status put_then after
      (Unit {0})
      → RunsBy Faulted (record { left = left; later = later; taken = taken; after = after }) (Reads true) status
  answered-runs left later taken put_then after text ending Reads status answers reads ends =
      let is = answers.ends in
      inl
      (record {
        bytes = answers.bytes;
        ended = answers.ended;
        gave = answers.gave;
        ends =
            subst (λ output. EndsAs output status taken after (Reads true))
            (ap (λ told. record { status = status_of ending; answers = told; last = last_text ending }) is.told
            ∙ ap session_output (sym is.streams))
            (ends-more taken put_then after answers.put text (last_text ending) (Reads true) answers.wrote
            (status_of ending) status (failed-of Reads ending reads) ends);
        few =
            subst (λ (streamed : Streamed (SessionState A) (List ℕ)). TakesFew answers.bytes streamed.ending)
            (sym is.streams) is.few;
        left =
            subst (λ (streamed : Streamed (SessionState A) (List ℕ)). IsAt node streamed.stream.run.node)
            (sym is.streams) (left-at is.stream.run _ ending is.left);
      })

  -- one whose next command met a device fault
  pub faulted-runs : {takes_memory : Bool} {given : ℕ} (left later taken put_then after : Option (List ℕ))
      (text : List ℕ) (failed : Type 0) (status : Status) (why : Break) → why ≡ FailedBreak
      → BrokeOff rules (begun found) Ran Halted takes_memory given left later taken put_then text why session
      → EndsAs (fault_output text) status put_then after (Unit {0})
      → Runs (record { left = left; later = later; taken = taken; after = after }) failed status
  faulted-runs {takes_memory = takes_memory} {given = given} left later taken put_then after text failed status why same
      broken ends =
      let broke =
      subst
      (λ why. BrokeOff rules (begun found) Ran Halted takes_memory given left later taken put_then text why session)
      same broken in
      let is = broke.breaks in
      inr
      (inl
      (record {
        bytes = broke.bytes;
        ended = broke.ended;
        stream = is.stream;
        gave = broke.gave;
        begins = record { front = is.front; rest = is.rest; whole = is.whole; runs = is.runs };
        ends =
            subst (λ told. EndsAs (fault_output told) status taken after ⊥) is.put_is
            (ends-more taken put_then after broke.put text (fault_output text).last ⊥ broke.wrote DeviceFault status
            (λ wrong. absurd (cc)) ends);
        left = (is.broken.0, halted is.stream.run (next_text broke.bytes is.stream) Failed is.broken.1);
      }))

  -- one that was broken off for this, behind which the node is there
  broken-runs : {Faulted : List RootCall → A → L → Type 0} {takes_memory : Bool} {given : ℕ}
      (left later taken after : Option (List ℕ)) (text : List ℕ) (failed : Type 0) (why : Break)
      (status : Status)
      (broke : BrokeOff rules (begun found) Ran Halted takes_memory given left later taken after text why session)
      → (rest : List ℕ) × (broke.put ++ rest ≡ broke.breaks.stream.text)
      → BrokenAt command_in (λ at. IsAt node at) (λ log at command. IsStopped node log at command NodeMemory) status
      broke.ended broke.bytes broke.breaks.stream
      → RunsBy Faulted (record { left = left; later = later; taken = taken; after = after }) failed status
  broken-runs left later taken after text failed why status broke rest there =
      let is = broke.breaks in
      inr
      (inr
      (record {
        bytes = broke.bytes;
        ended = broke.ended;
        stream = is.stream;
        gave = broke.gave;
        begins = record { front = is.front; rest = is.rest; whole = is.whole; runs = is.runs };
        front = record { front = broke.put; back = rest.0; whole = rest.1; wrote = broke.wrote };
        left = there;
      }))

  -- one whose sink refused
  pub refused-runs : {takes_memory : Bool} {given : ℕ} (left later taken after : Option (List ℕ)) (text : List ℕ)
      (failed : Type 0) (why : Break) → why ≡ WriteBreak
      → BrokeOff rules (begun found) Ran Halted takes_memory given left later taken after text why session
      → Runs (record { left = left; later = later; taken = taken; after = after }) failed WriteFault
  refused-runs {takes_memory = takes_memory} {given = given} left later taken after text failed why same broken =
      let broke =
      subst (λ why. BrokeOff rules (begun found) Ran Halted takes_memory given left later taken after text why session)
      same broken in
      broken-runs left later taken after text failed WriteBreak WriteFault broke broke.breaks.put_is
      (ran broke.breaks.stream.run broke.breaks.broken)

  starved-at : (takes_memory ended : Bool) (given : ℕ) (bytes : List ℕ) (stream : Stream (SessionState A))
      → IsBroken Ran Halted takes_memory given ended bytes session stream NoMemoryBreak
      → IsAt node stream.run.node
      ⊎ AtNext command_in ended bytes stream (λ log at command. IsStopped node log at command NodeMemory)
  starved-at takes_memory ended given bytes stream (inl is) = inl (ran stream.run is.0)
  starved-at takes_memory ended given bytes stream (inr is) =
      elim (halted stream.run (next_text bytes stream) NoMemoryHalt is.1) [
        | inl there ↦ inl there
        | inr stopped ↦ inr (is.0, stopped)
      ]

  -- one for which memory ran out
  pub starved-runs : {Faulted : List RootCall → A → L → Type 0} {takes_memory : Bool} {given : ℕ}
      (left later taken after : Option (List ℕ)) (text : List ℕ) (failed : Type 0)
      (why : Break) → why ≡ NoMemoryBreak
      → BrokeOff rules (begun found) Ran Halted takes_memory given left later taken after text why session
      → RunsBy Faulted (record { left = left; later = later; taken = taken; after = after }) failed NoMemory
  starved-runs {takes_memory = takes_memory} {given = given} left later taken after text failed why same broken =
      let broke =
      subst (λ why. BrokeOff rules (begun found) Ran Halted takes_memory given left later taken after text why session)
      same broken in
      broken-runs left later taken after text failed NoMemoryBreak NoMemory broke broke.breaks.put_is
      (starved-at takes_memory broke.ended given broke.bytes broke.breaks.stream broke.breaks.broken)

-- what a run did, in other words of where it leaves the node
module _ {A L : Type 0} (rules : Rules (SessionState A) (List ℕ)) (command_in : List ℕ → Option L) (found : A)
    (Left Left_ : A → Type 0) (Faulted Faulted_ Unanswered Unanswered_ : List RootCall → A → L → Type 0)
    (left : (at : A) → Left at → Left_ at)
    (faulted : (log : List RootCall) (at : A) (command : L) → Faulted log at command → Faulted_ log at command)
    (unanswered : (log : List RootCall) (at : A) (command : L) → Unanswered log at command
    → Left_ at ⊎ Unanswered_ log at command) where
  at-next : (ended : Bool) (bytes : List ℕ) (stream : Stream (SessionState A))
      → AtNext command_in ended bytes stream Faulted → AtNext command_in ended bytes stream Faulted_
  at-next ended bytes stream (may, (command, spells, is)) =
      (may, (command, spells, faulted (calls_of stream.run.log) stream.run.node command is))

  broken-or : (ended : Bool) (bytes : List ℕ) (stream : Stream (SessionState A))
      → Left stream.run.node ⊎ AtNext command_in ended bytes stream Unanswered
      → Left_ stream.run.node ⊎ AtNext command_in ended bytes stream Unanswered_
  broken-or ended bytes stream (inl is) = inl (left stream.run.node is)
  broken-or ended bytes stream (inr (may, (command, spells, is))) =
      elim (unanswered (calls_of stream.run.log) stream.run.node command is) [
        | inl there ↦ inl there
        | inr done ↦ inr (may, (command, spells, done))
      ]

  broken-in : (status : Status) (ended : Bool) (bytes : List ℕ) (stream : Stream (SessionState A))
      → BrokenAt command_in Left Unanswered status ended bytes stream
      → BrokenAt command_in Left_ Unanswered_ status ended bytes stream
  broken-in WriteFault ended bytes stream is = left stream.run.node is
  broken-in NoMemory ended bytes stream is = broken-or ended bytes stream is
  broken-in status ended bytes stream is = absurd is

  pub in-words : (outside : Outside) (failed : Type 0) (status : Status)
      → RunsSession rules command_in found Left Faulted Unanswered outside failed status
      → RunsSession rules command_in found Left_ Faulted_ Unanswered_ outside failed status
  in-words outside failed status (inl is) = inl (record {
    bytes = is.bytes;
    ended = is.ended;
    gave = is.gave;
    ends = is.ends;
    few = is.few;
    left = left (stream_of rules (begun found) is.bytes is.ended).stream.run.node is.left;
  })
  in-words outside failed status (inr (inl is)) = inr (inl (record {
    bytes = is.bytes;
    ended = is.ended;
    stream = is.stream;
    gave = is.gave;
    begins = is.begins;
    ends = is.ends;
    left = at-next is.ended is.bytes is.stream is.left;
  }))
  in-words outside failed status (inr (inr is)) = inr (inr (record {
    bytes = is.bytes;
    ended = is.ended;
    stream = is.stream;
    gave = is.gave;
    begins = is.begins;
    front = is.front;
    left = broken-in status is.ended is.bytes is.stream is.left;
  }))
