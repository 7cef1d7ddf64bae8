-- How a look ends whose lines were read, or that was stopped.
use Rattle.std.proofs.Common.{◌≡◌, ℕ, inl, inr, Bool, true, false, List, [], ◌∷◌, ◌++◌, Option, None, Result, Ok, Err, refl, sym, ap, ◌∙◌, subst, append_assoc, append-nil}
use Rattle.std.specs.Prelude.{if◌then◌else◌, unwrap_or}
use Rattle.std.specs.List.{flat_map, list_all}
use Rattle.plasma_tx.specs.declared.call.RootCall.{RootCall}
use Rattle.plasma_tx.specs.Views.{now}
use Rattle.plasma_outside.specs.declared.sink.SinkRefusal.{SinkRefusal}
use Rattle.node_sessions.specs.Sessions.{begun, calls_of}
use Rattle.safe_runs.proofs.Ends.{ends-more}
use Rattle.streamed_lines.specs.declared.ending.Ending.{Ending}
use Rattle.streamed_lines.specs.declared.ending.Ending.TheVariants.{Complete, BadLine, ReadFault, TooLong, Ended}
use Rattle.streamed_lines.specs.declared.ending.Halt.{Halt}
use Rattle.streamed_lines.specs.declared.ending.Break.{Break}
use Rattle.streamed_lines.specs.declared.ending.Break.TheVariants.{WriteFault as WriteBreak, Failed as FailedBreak, NoMemory as NoMemoryBreak}
use Rattle.streamed_lines.specs.Streams.{Streamed, Stream}
use Rattle.streamed_lines.specs.Outside.{Wrote, WroteFront}
use Rattle.streamed_lines.specs.Reading.{is_read_fault, next_text, IsLeft, IsPut, Answers, BrokeOff}
use Rattle.run_endings.specs.declared.status.Status.{Status}
use Rattle.run_endings.specs.declared.status.Status.TheVariants.{Done, Refused, ReadFault as ReadFaultStatus}
use Rattle.run_endings.specs.Statuses.{status_of_refusal}
use Rattle.run_endings.specs.Outputs.{Output, EndsAs}
use Rattle.run_endings.specs.Endings.{status_of, last_text}
use Rattle.run_endings.proofs.EndingLaws.{ends-stopped}
use Rattle.safe_runs.specs.declared.case.Case.{Case}
use Rattle.safe_runs.specs.declared.told.Told.{Told}
use Rattle.safe_runs.specs.Answers.{case_text, is_case_good}
use Rattle.safe_runs.specs.Sessions.{LookState, look_rules, untold}
use Rattle.safe_runs.specs.Inside.{is_complete}
use Rattle.safe_runs.specs.Runs.{Node, Looks, ended_output, look_output, whole_output}
use Rattle.safe_runs.proofs.Silence.{lines-silent, front-silent}

module _ (node : Node) {W : Type 0} (Ran : W → LookState → Type 0)
    (Halted : W → LookState → List ℕ → Halt (List ℕ) → Type 0) (left later taken put_then : Option (List ℕ))
    (text : List ℕ) (session : W) where
  -- what is said of the lines of a chain with this tag, which is the node's
  abbrev Lines : List ℕ → Ending (List ℕ) → Type 0
  Lines tag ending =
      Answers (look_rules tag) (begun untold) Ran Halted left later taken put_then text ending session

  abbrev BrokenLines : Bool → ℕ → List ℕ → Break → Type 0
  BrokenLines takes_memory given tag why =
      BrokeOff (look_rules tag) (begun untold) Ran Halted takes_memory given left later taken put_then text why session

  pub lines-of : (tag : List ℕ) (ending : Ending (List ℕ)) → tag ≡ node.tag → Lines tag ending
      → Lines node.tag ending
  lines-of tag ending same lines = subst (λ t. Lines t ending) same lines

  pub broken-of : {takes_memory : Bool} {given : ℕ} (tag : List ℕ) (why : Break) → tag ≡ node.tag
      → BrokenLines takes_memory given tag why → BrokenLines takes_memory given node.tag why
  broken-of {takes_memory = takes_memory} {given = given} tag why same broke =
      subst (λ t. BrokenLines takes_memory given t why) same broke

  none-put : (put rest : List ℕ) → put ++ rest ≡ [] → put ≡ []
  none-put [] rest is = refl
  none-put (byte ∷ put) rest is = absurd (cc is)

  -- a look whose lines were read to what ended them
  module _ (ending : Ending (List ℕ)) (Reads : Bool → Type 0)
      (answers : Answers (look_rules node.tag) (begun untold) Ran Halted left later taken put_then text ending session)
      (reads : Reads (is_read_fault (Ok ending))) where
    abbrev run : LookState
    run = answers.ends.stream.run

    -- where they were all read they came to this
    pub ran-whole : ending ≡ Complete → Ran session run
    ran-whole is =
        subst (λ e. IsLeft Ran Halted session run (next_text answers.bytes answers.ends.stream) e) is answers.ends.left

    none-said : answers.put ++ text ≡ []
    none-said =
        answers.ends.told
        ∙ ap (λ (s : Streamed LookState (List ℕ)). s.stream.text) (sym answers.ends.streams)
        ∙ lines-silent node.tag (begun untold) answers.bytes answers.ended

    read-failed : (e : Ending (List ℕ)) → Reads (is_read_fault (Ok e))
        → (ended_output node run e).status ≡ ReadFaultStatus → Reads true
    read-failed Complete reads is = absurd (never (list_all (is_case_good (calls_of run.log) node.account
        (unwrap_or run.node.clock (now (calls_of run.log)))) (node.cases (calls_of run.log) run.node.hidden)) is)
      where
        never : (b : Bool) → (if b then Done else Refused) ≡ ReadFaultStatus → ⊥
        never true wrong = absurd (cc)
        never false wrong = absurd (cc)
    read-failed (BadLine n) reads is = absurd (cc)
    read-failed ReadFault reads is = reads
    read-failed (TooLong n) reads is = absurd (cc)
    read-failed (Ended n cause) reads is = absurd (cc)

    pub looks-whole : (after : Option (List ℕ)) (status : Status)
        → EndsAs (record {
          status = (ended_output node run ending).status;
          answers = text ++ (ended_output node run ending).answers;
          last = (ended_output node run ending).last;
        }) status put_then after (Unit {0})
        → Looks node (record { left = left; later = later; taken = taken; after = after }) (Reads true) status
    looks-whole after status ends =
        let output = ended_output node run ending in
        let behind =
        ends-more taken put_then after answers.put (text ++ output.answers) output.last (Reads true) answers.wrote
        output.status status (read-failed ending reads) ends in
        record {
          bytes = answers.bytes;
          ended = answers.ended;
          gave = answers.gave;
          ends =
              subst (λ o. EndsAs o status taken after (Reads true))
              (ap (λ said. record { status = output.status; answers = said; last = output.last })
              (sym (append_assoc answers.put text output.answers)
              ∙ ap (λ (front : List ℕ). front ++ output.answers) none-said)
              ∙ ap (λ (s : Streamed LookState (List ℕ)). ended_output node s.stream.run s.ending)
              (sym answers.ends.streams))
              behind;
        }

  put-of : (why : Break) (put all : List ℕ)
      → IsPut (look_rules node.tag) (begun untold) Ran Halted why put text all → (rest : List ℕ) × (put ++ rest ≡ all)
  put-of FailedBreak put all is = (text, is)
  put-of WriteBreak put all is = is
  put-of NoMemoryBreak put all is = is

  -- one that was broken off
  pub looks-early : {takes_memory : Bool} {given : ℕ} (why : Break) (failed : Type 0) (refusal : SinkRefusal)
      → BrokeOff (look_rules node.tag) (begun untold) Ran Halted takes_memory given left later taken put_then text why session
      → Looks node (record { left = left; later = later; taken = taken; after = put_then }) failed
      (status_of_refusal refusal)
  looks-early why failed refusal broke =
      let is = broke.breaks in
      let put = put-of why broke.put is.stream.text is.put_is in
      let none =
      none-put broke.put put.0 (put.1 ∙ front-silent node.tag (begun untold) is.front is.stream is.runs) in
      let wrote = subst (Wrote taken put_then) none broke.wrote in
      let output = look_output node broke.bytes broke.ended in
      record {
        bytes = broke.bytes;
        ended = broke.ended;
        gave = broke.gave;
        ends =
            ends-stopped refusal output taken put_then failed
            (record {
              front = record { front = []; back = output.answers ++ output.last; whole = refl; wrote = wrote };
              fault = λ is. inr (record { front = []; back = output.answers; whole = refl; wrote = wrote });
            });
      }

-- ---- what is said where lines ended so

pub complete-is : (ending : Ending (List ℕ)) → is_complete ending ≡ true → ending ≡ Complete
complete-is Complete is = refl
complete-is (BadLine n) is = absurd (cc)
complete-is ReadFault is = absurd (cc)
complete-is (TooLong n) is = absurd (cc)
complete-is (Ended n cause) is = absurd (cc)

module _ (node : Node) (run : LookState) where
  -- the text of the output
  abbrev text_of : Ending (List ℕ) → List ℕ
  text_of ending = (ended_output node run ending).answers ++ (ended_output node run ending).last

  pub text-complete : (ending : Ending (List ℕ)) → is_complete ending ≡ true
      → (whole_output node run).answers ≡ text_of ending
  text-complete Complete is = sym (append-nil (whole_output node run).answers)
  text-complete (BadLine n) is = absurd (cc)
  text-complete ReadFault is = absurd (cc)
  text-complete (TooLong n) is = absurd (cc)
  text-complete (Ended n cause) is = absurd (cc)

  pub status-complete : (ending : Ending (List ℕ)) → is_complete ending ≡ true
      → (ended_output node run ending).status ≡ (whole_output node run).status
  status-complete Complete is = refl
  status-complete (BadLine n) is = absurd (cc)
  status-complete ReadFault is = absurd (cc)
  status-complete (TooLong n) is = absurd (cc)
  status-complete (Ended n cause) is = absurd (cc)

  -- where the lines weren't read to their end, nothing is said behind the text but the last line
  pub ends-other : (ending : Ending (List ℕ)) (status : Status) (text : List ℕ) (before after : Option (List ℕ))
      → is_complete ending ≡ false
      → EndsAs (record { status = status_of ending; answers = text; last = last_text ending }) status before after
      (Unit {0})
      → EndsAs (record {
        status = (ended_output node run ending).status;
        answers = text ++ (ended_output node run ending).answers;
        last = (ended_output node run ending).last;
      }) status before after (Unit {0})
  ends-other Complete status text before after is ends = absurd (cc is)
  ends-other (BadLine n) status text before after is ends = rw append-nil ends
  ends-other ReadFault status text before after is ends = rw append-nil ends
  ends-other (TooLong n) status text before after is ends = rw append-nil ends
  ends-other (Ended n cause) status text before after is ends = rw append-nil ends

  -- the status of cases
  pub status-said : (good : Bool)
      → good ≡ list_all (is_case_good (calls_of run.log) node.account
      (unwrap_or run.node.clock (now (calls_of run.log)))) (node.cases (calls_of run.log) run.node.hidden)
      → (whole_output node run).status ≡ (if good then Done else Refused)
  status-said good is = ap (λ b. if b then Done else Refused) (sym is)

-- ---- what is said behind what was read

module _ (node : Node) (run : LookState) (log : List RootCall) (told : Told) (account clock : ℕ) (cases : List Case)
    (log_is : log ≡ calls_of run.log) (told_is : told ≡ run.node) (account_is : account ≡ node.account)
    (clock_is : clock ≡ unwrap_or told.clock (now log)) (cases_are : cases ≡ node.cases log told.hidden) where
  same : {X : Type 0} (f : List RootCall → ℕ → ℕ → List Case → X)
      → f log account clock cases
      ≡ f (calls_of run.log) node.account (unwrap_or run.node.clock (now (calls_of run.log)))
      (node.cases (calls_of run.log) run.node.hidden)
  same f =
      ap (f log account clock) cases_are
      ∙ ap (λ (c : ℕ). f log account c (node.cases log told.hidden)) clock_is
      ∙ ap (λ (a : ℕ). f log a (unwrap_or told.clock (now log)) (node.cases log told.hidden)) account_is
      ∙ ap (λ (l : List RootCall). f l node.account (unwrap_or told.clock (now l)) (node.cases l told.hidden)) log_is
      ∙ ap (λ (t : Told). f (calls_of run.log) node.account (unwrap_or t.clock (now (calls_of run.log)))
      (node.cases (calls_of run.log) t.hidden)) told_is

  pub text-said : flat_map (case_text log account clock) cases ≡ (whole_output node run).answers
  text-said = same (λ (l : List RootCall) (a c : ℕ) (cs : List Case). flat_map (case_text l a c) cs)

  pub good-said : (good : Bool) → good ≡ list_all (is_case_good log account clock) cases
      → (whole_output node run).status ≡ (if good then Done else Refused)
  good-said good is =
      status-said node run good
      (is ∙ same (λ (l : List RootCall) (a c : ℕ) (cs : List Case). list_all (is_case_good l a c) cs))
