-- Where the answered lines of a run leave its node: where the commands among them do, one after another, behind the log
-- that it was handed.
use Rattle.std.proofs.Common.{◌≡◌, ℕ, Bool, true, false, if◌then◌else◌, List, [], ◌∷◌, Option, Some, None, is_some, Result, Ok, Err, refl, sym, ap, ◌∙◌, subst, bytes_eq, arith}
use Rattle.std.specs.Prelude.{codes, option_map}
use Rattle.std.specs.List.{filter_map}
use Rattle.std.proofs.lemmas.Slice.Eq.{bytes_eq-Decides}
use Rattle.std.proofs.lemmas.Grind.{common_steps}
use Rattle.plasma_tx.specs.declared.call.RootCall.{RootCall}
use Rattle.plasma_tx.specs.Chain.{Chain, with_log}
use Rattle.line_forms.specs.Forms.{value_in}
use Rattle.root_log.specs.Grammar.{chain_in, call_in}
use Rattle.root_log.specs.EndOfLog.{is_end_of_log}
use Rattle.streamed_lines.specs.declared.ending.Stop.TheVariants.{Ends}
use Rattle.node_rules.specs.Wallet.{WalletRecords}
use Rattle.node_roles.specs.Notes.{NotesAt}
use Rattle.node_roles.specs.Nodes.{NodeAt}
use Rattle.node_sessions.specs.Sessions.{SessionState, calls_of, other_chain, first_log, longer_log, joins, done, leaves, command_line, log_line, line_of, next_line}
use Rattle.node_lives.specs.Answered.{kept_at}
use Rattle.chain_lives.specs.Steps.{Deed, left_by}
use Rattle.chain_lives.specs.Acts.{deeds_of, behind_log}

some-same : (one other : Chain) → Some one ≡ Some other → one ≡ other
some-same one other is = cc is

-- ---- a line that was answered

-- a first line doesn't end a log
end-is-none : chain_in (codes "--") ≡ None
unfolding chain_in value_in
end-is-none = refl

first-goes-on : (line : List ℕ) (chain : Chain) → chain_in line ≡ Some chain → is_end_of_log line ≡ false
first-goes-on line chain is = grind (arith, common_steps, bytes_eq-Decides, end-is-none) steps 20000

module _ {L : Type 0} (tag : List ℕ) (command_in : List ℕ → Option L)
    (answers : List RootCall → NodeAt NotesAt → L → Result (NodeAt NotesAt × List ℕ) (List ℕ)) where
  abbrev Session : Type 0
  Session = SessionState (NodeAt NotesAt)

  -- what a line comes to that was answered: a log begins, ends or has one more call; or a command was done
  pub data Came (session : Session) (line : List ℕ) (next : Session) : Type 0 where
    First : (chain : Chain) → session.log ≡ None → chain_in line ≡ Some chain → chain.tag ≡ tag
        → next ≡ record session { log = Some chain } → Came session line next
    Last : (chain : Chain) → session.log ≡ Some chain → session.is_over ≡ false → is_end_of_log line ≡ true
        → next ≡ record session { is_over = true } → Came session line next
    More : (chain longer : Chain) → session.log ≡ Some chain → session.is_over ≡ false → is_end_of_log line ≡ false
        → longer.tag ≡ chain.tag → next ≡ record session { log = Some longer } → Came session line next
    Command : (chain : Chain) (command : L) (left : NodeAt NotesAt) (text : List ℕ) → session.log ≡ Some chain
        → session.is_over ≡ true → command_in line ≡ Some command
        → answers chain.log session.node command ≡ Ok (left, text) → next ≡ record session { node = left }
        → Came session line next

  module _ (session : Session) (line : List ℕ) (answered : Session × List ℕ) where
    first-came : session.log ≡ None → (found : Option Chain) → chain_in line ≡ found
        → joins session (first_log tag found) ≡ Ok answered → Came session line answered.0
    first-came none None found is = absurd (cc is)
    first-came none (Some chain) found is = by (bytes_eq chain.tag tag) refl is
      where
        by : (same : Bool) → bytes_eq chain.tag tag ≡ same
            → joins session (if same then Ok chain else Err (Ends other_chain)) ≡ Ok answered
            → Came session line answered.0
        by false same is = absurd (cc is)
        by true same is =
            (let one : (record session { log = Some chain }, []) ≡ answered = cc is in
            First chain none found ((bytes_eq-Decides chain.tag tag).0 same)
            (sym (ap (λ (a : Session × List ℕ). a.0) one)))

    more-came : (chain : Chain) → session.log ≡ Some chain → session.is_over ≡ false → (ends : Bool)
        → is_end_of_log line ≡ ends → (found : Option RootCall)
        → (if ends then Ok (record session { is_over = true }, [])
        else joins session (longer_log (option_map (λ call. with_log chain (call ∷ chain.log)) found))) ≡ Ok answered
        → Came session line answered.0
    more-came chain there over true ends found is =
        (let one : (record session { is_over = true }, []) ≡ answered = cc is in
        Last chain there over ends (sym (ap (λ (a : Session × List ℕ). a.0) one)))
    more-came chain there over false ends None is = absurd (cc is)
    more-came chain there over false ends (Some call) is =
        (let longer : Chain = with_log chain (call ∷ chain.log) in
        let one : (record session { log = Some longer }, []) ≡ answered = cc is in
        More chain longer there over ends refl (sym (ap (λ (a : Session × List ℕ). a.0) one)))

    done-came : (chain : Chain) → session.log ≡ Some chain → session.is_over ≡ true → (command : L)
        → command_in line ≡ Some command → (outcome : Result (NodeAt NotesAt × List ℕ) (List ℕ))
        → answers chain.log session.node command ≡ outcome → leaves session (done outcome) ≡ Ok answered
        → Came session line answered.0
    done-came chain there over command spells (Err cause) did is = absurd (cc is)
    done-came chain there over command spells (Ok left) did is =
        (let one : (record session { node = left.0 }, left.1) ≡ answered = cc is in
        Command chain command left.0 left.1 there over spells did (sym (ap (λ (a : Session × List ℕ). a.0) one)))

    command-came : (chain : Chain) → session.log ≡ Some chain → session.is_over ≡ true → (spelled : Option L)
        → command_in line ≡ spelled
        → leaves session (command_line answers chain.log session.node spelled) ≡ Ok answered
        → Came session line answered.0
    command-came chain there over None spells is = absurd (cc is)
    command-came chain there over (Some command) spells is =
        done-came chain there over command spells (answers chain.log session.node command) refl is

    later-came : (chain : Chain) → session.log ≡ Some chain → (over : Bool) → session.is_over ≡ over
        → (if over then leaves session (command_line answers chain.log session.node (command_in line))
        else log_line session chain line) ≡ Ok answered → Came session line answered.0
    later-came chain there true over is = command-came chain there over (command_in line) refl is
    later-came chain there false over is =
        more-came chain there over (is_end_of_log line) refl (call_in line) is

    log-came : (log : Option Chain) → session.log ≡ log
        → line_of tag command_in answers session log line ≡ Ok answered → Came session line answered.0
    log-came None there is = first-came there (chain_in line) refl is
    log-came (Some chain) there is = later-came chain there session.is_over refl is

    pub line-came : next_line tag command_in answers session line ≡ Ok answered → Came session line answered.0
    unfolding next_line
    line-came is = log-came session.log refl is

-- ---- lines, one after another

-- the texts that may spell commands, of those behind a session
abbrev pub texts_behind : Bool → List (List ℕ) → List (List ℕ)
texts_behind over texts = if over then texts else behind_log texts

-- Of a node whose command's answer says Ok left behind a log: it has Q still, and its records are those with what the
-- command adds.
module _ {L : Type 0} (tag : List ℕ) (command_in : List ℕ → Option L)
    (answers : List RootCall → NodeAt NotesAt → L → Result (NodeAt NotesAt × List ℕ) (List ℕ))
    (does : List RootCall → WalletRecords → L → Deed) (Q : NodeAt NotesAt → Type 0)
    (step : (log : List RootCall) (at : NodeAt NotesAt) (command : L) (left : NodeAt NotesAt) (text : List ℕ) → Q at
    → answers log at command ≡ Ok (left, text) → Q left × (kept_at left ≡ (does log (kept_at at) command).left)) where
  abbrev State : Type 0
  State = SessionState (NodeAt NotesAt)

  -- where the commands that these texts spell leave records
  abbrev pub left_with : List RootCall → WalletRecords → List (List ℕ) → WalletRecords
  left_with log records texts = left_by records (deeds_of (does log) records (filter_map command_in texts))

  -- what such texts come to, behind a session
  pub record Behind (session : State) (texts : List (List ℕ)) (run : State) : Type 0 where
    pub node : Q run.node
    pub kept : kept_at run.node
        ≡ left_with (calls_of run.log) (kept_at session.node) (texts_behind session.is_over texts)
    pub same : session.is_over ≡ true → (run.log ≡ session.log) × (run.is_over ≡ true)
    pub none : run.is_over ≡ false → texts_behind session.is_over texts ≡ []
    pub logged : run.is_over ≡ true → is_some run.log ≡ true
    pub tagged : (chain : Chain) → run.log ≡ Some chain → chain.tag ≡ tag

  -- a session that goes on so
  pub record Goes (session : State) : Type 0 where
    pub node : Q session.node
    pub logged : session.is_over ≡ true → is_some session.log ≡ true
    pub tagged : (chain : Chain) → session.log ≡ Some chain → chain.tag ≡ tag

  behind-none : (over : Bool) → texts_behind over [] ≡ []
  behind-none true = refl
  behind-none false = refl

  pub came-none : (session : State) → Goes session → Behind session [] session
  came-none session goes = grind (arith, common_steps, behind-none) steps 20000

  -- with a line of the log
  came-logged : (session next run : State) (line : List ℕ) (texts : List (List ℕ)) → session.is_over ≡ false
      → next.node ≡ session.node → texts_behind next.is_over texts ≡ behind_log (line ∷ texts)
      → Behind next texts run → Behind session (line ∷ texts) run
  came-logged session next run line texts over node same came = grind (arith, common_steps) steps 20000

  came-first : (session next run : State) (line : List ℕ) (texts : List (List ℕ)) → session.is_over ≡ false
      → next.node ≡ session.node → next.is_over ≡ false → is_end_of_log line ≡ false → Behind next texts run
      → Behind session (line ∷ texts) run
  came-first session next run line texts over node off goes came =
      came-logged session next run line texts over node
      (ap (λ (b : Bool). texts_behind b texts) off
      ∙ ap (λ (b : Bool). if b then texts else behind_log texts) (sym goes)) came

  came-last : (session next run : State) (line : List ℕ) (texts : List (List ℕ)) → session.is_over ≡ false
      → next.node ≡ session.node → next.is_over ≡ true → is_end_of_log line ≡ true → Behind next texts run
      → Behind session (line ∷ texts) run
  came-last session next run line texts over node on ends came = grind (arith, common_steps, came-logged) steps 20000

  -- with a command
  came-command : (session next run : State) (line : List ℕ) (texts : List (List ℕ)) (command : L)
      → session.is_over ≡ true → next.is_over ≡ true → next.log ≡ session.log → command_in line ≡ Some command
      → kept_at next.node ≡ (does (calls_of session.log) (kept_at session.node) command).left
      → Behind next texts run → Behind session (line ∷ texts) run
  came-command session next run line texts command over on log spells kept came =
      grind (arith, common_steps) steps 20000

  -- the session with a line that was answered goes on, and what comes behind it comes behind the line
  pub record GoesOn (session next : State) (line : List ℕ) : Type 0 where
    pub goes : Goes next
    pub behind : (texts : List (List ℕ)) (run : State) → Behind next texts run → Behind session (line ∷ texts) run

  not-over : (session : State) → Goes session → session.log ≡ None → session.is_over ≡ false
  not-over session goes none = grind (arith, common_steps) steps 20000

  pub goes-by : (session next : State) (line : List ℕ) → Goes session → Came tag command_in answers session line next
      → GoesOn session next line
  goes-by session next line goes (First chain none found tag_is is) =
      let over = not-over session goes none in
      subst (λ (s : State). GoesOn session s line) (sym is) (record {
        goes = record {
          node = goes.node;
          logged = λ on. refl;
          tagged = λ other same. ap (λ (c : Chain). c.tag) (sym (some-same chain other same)) ∙ tag_is;
        };
        behind = λ texts run came.
            came-first session (record session { log = Some chain }) run line texts over refl over
            (first-goes-on line chain found) came;
      })
  goes-by session next line goes (Last chain there over ends is) = grind (arith, common_steps, came-last) steps 150000
  goes-by session next line goes (More chain longer there over ends tag_is is) =
      grind (arith, common_steps, some-same, came-first) steps 150000
  goes-by session next line goes (Command chain command left text there over spells did is) =
      grind (arith, common_steps, came-command) steps 150000
