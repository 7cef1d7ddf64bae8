-- The events of a chain with its nodes are legal: each run finds what the events before it say of its node.
use Rattle.std.proofs.Common.{◌≡◌, ◌≢◌, ℕ, ◌==◌, Bool, if◌then◌else◌, List, [], ◌∷◌, ◌++◌, Option, Some, None, refl, sym, ap, ◌∙◌, subst, inl, inr, arith}
use Rattle.std.proofs.lemmas.Bool.{cases_eq, eq-eqb, ne_eqb}
use Rattle.std.proofs.lemmas.Grind.{common_steps}
use Rattle.crash_disk.specs.Disk.{History, FaultPlan}
use Rattle.plasma_tx.specs.declared.owner.Owner.{Owner}
use Rattle.plasma_tx.specs.declared.call.RootCall.{RootCall}
use Rattle.plasma_tx.specs.Shown.{Rules, tests_by}
use Rattle.plasma_tx.specs.Table.{answer_to, is_accepted}
use Rattle.node_rules.specs.declared.identity.WalletIdentity.{WalletIdentity}
use Rattle.node_rules.specs.WalletRecords.{identity_in, owner_of}
use Rattle.node_rules.specs.Wallet.{WalletRecords}
use Rattle.node_replies.specs.Roles.{Role, Wallet, Watcher, Operator}
use Rattle.node_lives.specs.Calls.{Begun, Asked, ToBegin, Call}
use Rattle.node_lives.specs.Lives.{IsLife}
use Rattle.node_lives.specs.Standing.{identity_alone}
use Rattle.node_lives.specs.Laws.{begun_of, Begins as BeginsNode}
use Rattle.world_rules.specs.Events.{Event, Joins, Bounces, log_of}
use Rattle.world_rules.proofs.Said.{said, nothing_said, said-none, said-other}
use Rattle.world_laws.specs.Legal.{left_by, LegalDeclaration, IsLegal}
use Rattle.world_laws.proofs.LeftRuns.{left-plain}
use Rattle.chain_lives.specs.Steps.{Act, Begins, Runs, Rests, Enters, Refuses, Does, Found, chain_of, act_events, found_by, none_found, events_behind}
use Rattle.chain_lives.specs.Acts.{begun_by, act_of, acts_of}
use Rattle.chain_lives.specs.Chains.{Steps, calls_by, IsNode, MayDo, KeepsTo, IsChain}
use Rattle.chain_lives.specs.Keeping.{ChainsAreLegal}
use Rattle.chain_lives.proofs.Log.{IsQuietAct, quiet_step, by_call, behind}
use Rattle.chain_lives.proofs.Entered.{entries_are_legal}
use Rattle.chain_lives.proofs.Begun.{beginnings_are_legal}
use Rattle.chain_lives.proofs.Sayings.{said-apart, left-apart}
use Rattle.chain_lives.proofs.WalletDeeds.{TellsWallet, wallet-aside, wallet-joined}
use Rattle.chain_lives.proofs.WatcherDeeds.{TellsWatcher, watcher-aside}
use Rattle.chain_lives.proofs.Disks.{notes_alone}
use Rattle.chain_lives.proofs.NodeLives.{BegunAs, FindsWith, MayFind, IsAct, Rested, WalletRan, WatcherRan, Life, first-act, begun-only, life-goes-on}
use Rattle.chain_lives.proofs.Running.{RanTo}
use Rattle.chain_lives.proofs.NodeRuns.{wallet-ran, watcher-ran}
use Rattle.chain_lives.proofs.Beginning.{Tells, has-begun}
use Rattle.chain_lives.proofs.Asides.{run-same}

module _ {D : Type 0} (told : D → Option History) (plan : D → Option FaultPlan) (faults : D → ℕ)
    (dig : List ℕ → List ℕ) (rules : Rules) where
  abbrev pub TheCall : Type 0
  TheCall = Call told plan faults dig

  abbrev pub TheSteps : Type 0
  TheSteps = Steps told plan faults dig rules

  abbrev pub by_node : ℕ → TheSteps → List TheCall
  by_node n steps = calls_by told plan faults dig rules n steps

  -- what events say of a node that was begun, whose next run finds this
  pub record Held (now : Option WalletRecords) (events : List Event) (n : ℕ) (last : TheCall) (calls : List TheCall)
      : Type 0 where
    pub role : Role
    pub tag : List ℕ
    pub life : Life told plan faults dig role n last calls
    pub records : WalletRecords
    pub found_is : (r : WalletRecords) → now ≡ Some r → r ≡ records
    pub tells : Tells dig role tag n events records

  -- and of any
  abbrev pub Holds : Option WalletRecords → List Event → ℕ → List TheCall → Type 0
  Holds now events n [] = (said events n ≡ nothing_said) × (left_by events n ≡ [])
  Holds now events n (last ∷ calls) = Held now events n last calls

  pub record AllHold (found : Found) (events : List Event) (calls : ℕ → List TheCall) : Type 0 where
    pub legal : IsLegal (tests_by dig) rules events
    pub nodes : (n : ℕ) → Holds (found n) events n (calls n)

  abbrev pub Fit : Found → TheSteps → Type 0
  Fit found steps =
      (n : ℕ) (r : WalletRecords) → found n ≡ Some r → MayFind told plan faults dig n (by_node n steps) r

  -- ---- more events that say nothing of a node

  tells-aside : (role : Role) (tag : List ℕ) (n : ℕ) (events more : List Event) (records : WalletRecords)
      → log_of more ≡ log_of events → said more n ≡ said events n → left_by more n ≡ left_by events n
      → Tells dig role tag n events records → Tells dig role tag n more records
  tells-aside role tag n events more records log same starts tells =
      grind (arith, common_steps, wallet-aside, watcher-aside) steps 20000

  tells-joined : (role : Role) (tag : List ℕ) (n : ℕ) (events more : List Event) (records : WalletRecords)
      (call : RootCall) → log_of more ≡ call ∷ log_of events → said more n ≡ said events n
      → left_by more n ≡ left_by events n → Tells dig role tag n events records → Tells dig role tag n more records
  tells-joined Wallet tag n events more records call log same starts tells =
      wallet-joined dig tag n events records tells call more log same starts
  tells-joined Watcher tag n events more records call log same starts tells =
      watcher-aside dig tag n events more records tells same
  tells-joined Operator tag n events more records call log same starts tells = tt

  -- whatever else keeps what is told
  holds-more : (now : Option WalletRecords) (events more : List Event) (n : ℕ) (calls : List TheCall)
      → said more n ≡ said events n → left_by more n ≡ left_by events n
      → ((role : Role) (tag : List ℕ) (records : WalletRecords) → Tells dig role tag n events records
      → Tells dig role tag n more records)
      → Holds now events n calls → Holds now more n calls
  holds-more now events more n [] same starts each (silent, none) = (same ∙ silent, starts ∙ none)
  holds-more now events more n (last ∷ calls) same starts each held = record {
    role = held.role;
    tag = held.tag;
    life = held.life;
    records = held.records;
    found_is = held.found_is;
    tells = each held.role held.tag held.records held.tells;
  }

  -- ---- steps

  chain-behind-call : (call : RootCall) (steps : TheSteps) → IsChain told plan faults dig rules (Enters call ∷ steps)
      → IsChain told plan faults dig rules steps
  unfolding KeepsTo calls_by
  chain-behind-call call steps chain =
      record { digest = chain.digest; nodes = λ n. chain.nodes n; keeps = chain.keeps.1 }

  calls-other : (m n : ℕ) (call : TheCall) (steps : TheSteps) → m ≢ n
      → by_node n (Does m call ∷ steps) ≡ by_node n steps
  unfolding calls_by
  calls-other m n call steps other = simp (ne_eqb m n other) refl

  calls-own : (m : ℕ) (call : TheCall) (steps : TheSteps) → by_node m (Does m call ∷ steps) ≡ call ∷ by_node m steps
  unfolding calls_by
  calls-own m call steps = simp (eq-eqb m m refl) refl

  -- the calls of a node behind its last one are those of a node
  node-behind : (last : TheCall) (calls : List TheCall) → calls ≢ [] → IsNode told plan faults dig rules (last ∷ calls)
      → IsNode told plan faults dig rules calls
  unfolding IsLife
  node-behind last calls some node = by node.later node.are
    where
      by : (later : List TheCall) → last ∷ calls ≡ later ++ node.first ∷ [] → IsNode told plan faults dig rules calls
      by [] are = absurd (some (cc are))
      by (one ∷ later) are = record {
        role = node.role;
        later = later;
        first = node.first;
        are = cc are;
        begins = node.begins;
        life = node.life.2;
      }

  chain-behind-act : (m : ℕ) (call : TheCall) (steps : TheSteps)
      → IsChain told plan faults dig rules (Does m call ∷ steps) → IsChain told plan faults dig rules steps
  unfolding KeepsTo
  chain-behind-act m call steps chain = record {
    digest = chain.digest;
    nodes = λ n some. elim (cases_eq m n) [
      | inl same ↦
          let all : by_node n (Does m call ∷ steps) ≡ call ∷ by_node n steps =
          subst (λ (k : ℕ). by_node k (Does m call ∷ steps) ≡ call ∷ by_node k steps) same (calls-own m call steps) in
          node-behind call (by_node n steps) some
          (subst (IsNode told plan faults dig rules) all (chain.nodes n (λ none. cc (all, none))))
      | inr other ↦
          let all = calls-other m n call steps other in
          subst (IsNode told plan faults dig rules) all (chain.nodes n (λ none. some (sym all ∙ none)))
    ];
    keeps = chain.keeps.1;
  }

  -- ---- a step of a node

  -- what an act of one node leaves of the others
  record IsAside (n : ℕ) (events more : List Event) : Type 0 where
    log : log_of more ≡ log_of events
    same : said more n ≡ said events n
    starts : left_by more n ≡ left_by events n

  act-aside : (m n : ℕ) (now : Option WalletRecords) (act : Act) (events : List Event) → IsQuietAct m act → m ≢ n
      → IsAside n events (act_events m now act events)
  unfolding log_of
  act-aside m n now (Begins (Some me)) events quiet other =
      grind (arith, common_steps, said-other, ne_eqb, left-plain) steps 20000
  act-aside m n now (Begins None) events quiet other = record { log = refl; same = refl; starts = refl }
  act-aside m n now (Runs visit) events quiet other = record {
    log = run-same log_of m (λ event others is. quiet_step m event others is) now visit events quiet;
    same =
        run-same (λ es. said es n) m (λ event others is. said-apart m others n event is.own other) now visit events
        quiet;
    starts =
        run-same (λ es. left_by es n) m (λ event others is. left-apart m others n event is.own other) now visit events
        quiet;
  }
  act-aside m n now Rests events quiet other = record { log = refl; same = refl; starts = refl }

  -- of the node itself
  record OwnStep (m : ℕ) (call : TheCall) (calls : List TheCall) (now : Option WalletRecords) (events : List Event)
      : Type 0 where
    legal : IsLegal (tests_by dig) rules events
    held : Held now events m call calls

  -- ---- the first call of a node

  one-first : (call first : TheCall) (later : List TheCall) → call ∷ [] ≡ later ++ first ∷ [] → first ≡ call
  one-first call first later are = grind (arith, common_steps) steps 20000

  finds-alone : (o : Option WalletIdentity) (asked : Asked) (before : WalletRecords → Type 0) (r : WalletRecords)
      → FindsWith (begun_by o) asked before r → BegunAs asked r
  finds-alone None asked before r is = is
  finds-alone (Some me) asked before r is = is

  begun-alone : (asked : Asked) (disks : Begun) (identity : List ℕ) (r : WalletRecords) → asked ≡ ToBegin disks identity
      → BegunAs asked r → r ≡ identity_alone identity
  begun-alone asked disks identity r is (others, (other, also, same)) =
      same ∙ ap identity_alone (let one : other ≡ identity = cc (is, also) in one)

  legal-begun : (m : ℕ) (now : Option WalletRecords) (start : List Event) (o : Option WalletIdentity)
      → IsLegal (tests_by dig) rules start
      → ((me : Owner) → begun_by o ≡ Begins (Some me) → LegalDeclaration start m me)
      → IsLegal (tests_by dig) rules (act_events m now (begun_by o) start)
  unfolding IsLegal
  legal-begun m now start None legal declared = legal
  legal-begun m now start (Some me) legal declared = (declared (owner_of me) refl, legal)

  first-step : (m : ℕ) (call : TheCall) (now : Option WalletRecords) (start : List Event)
      → IsNode told plan faults dig rules (call ∷ []) → IsLegal (tests_by dig) rules start
      → ((me : Owner) → act_of told plan faults dig m call ≡ Begins (Some me) → LegalDeclaration start m me)
      → said start m ≡ nothing_said → left_by start m ≡ []
      → ((r : WalletRecords) → now ≡ Some r → MayFind told plan faults dig m (call ∷ []) r)
      → OwnStep m call [] now (act_events m now (act_of told plan faults dig m call) start)
  unfolding MayFind
  first-step m call now start node legal declared silent unleft fits =
      let begins : BeginsNode told plan faults dig node.role call =
      subst (BeginsNode told plan faults dig node.role) (one-first call node.first node.later node.are) node.begins in
      let act_is = first-act told plan faults dig node.role m call begins in
      let begun = has-begun dig m start silent unleft node.role begins.identity begins.is now in
      subst (λ (act : Act). OwnStep m call [] now (act_events m now act start)) (sym act_is) (record {
        legal =
            legal-begun m now start (identity_in begins.identity) legal (λ me is. declared me (act_is ∙ is));
        held = record {
          role = node.role;
          tag = begun.tag;
          life = record {
            later = [];
            first = call;
            are = refl;
            begins = begins;
            only = begun-only told plan faults dig node.role m call begins;
          };
          records = identity_alone begins.identity;
          found_is = λ r is.
              begun-alone call.asked (begun_of node.role begins.identity) begins.identity r begins.asked
              (finds-alone (identity_in begins.identity) call.asked (MayFind told plan faults dig m []) r
              (subst (λ (act : Act). FindsWith act call.asked (MayFind told plan faults dig m []) r) act_is
              (fits r is)));
          tells = begun.tells;
        };
      })

  -- ---- a later call

  some-is : (m : ℕ) (one other : WalletRecords) (rest : Option WalletRecords)
      → (if m == m then Some one else rest) ≡ Some other → other ≡ one
  some-is m one other rest is = grind (arith, common_steps, eq-eqb) steps 20000

  own-is : (m : ℕ) (one : WalletRecords) (rest : Option WalletRecords) → (if m == m then Some one else rest) ≡ Some one
  own-is m one rest = ap (λ (b : Bool). if b then Some one else rest) (eq-eqb m m refl)

  -- what the run before could leave is found
  act-found : (role : Role) (m : ℕ) (before : WalletRecords → Type 0) (asked : Asked) (act : Act) (found : Found)
      (r : WalletRecords) → IsAct told plan faults dig role m before act
      → ((r : WalletRecords) → found m ≡ Some r → FindsWith act asked before r) → found_by m act found m ≡ Some r
      → before r
  act-found role m before asked act found r Rested fits is = fits r is
  act-found role m before asked act found r (WalletRan same outside records lines comes here) fits is =
      subst before (sym (some-is m records r (found m) is)) here
  act-found role m before asked act found r (WatcherRan same outside notes lines comes here) fits is =
      subst before (sym (some-is m (notes_alone notes) r (found m) is)) here

  act-ran : (role : Role) (tag : List ℕ) (m : ℕ) (before : WalletRecords → Type 0) (asked : Asked) (act : Act)
      (steps : TheSteps) (start : List Event) (found : Found) (records : WalletRecords)
      → IsAct told plan faults dig role m before act → IsLegal (tests_by dig) rules start
      → log_of start ≡ chain_of steps
      → ((r : WalletRecords) → found_by m act found m ≡ Some r → r ≡ records) → Tells dig role tag m start records
      → MayDo told plan faults dig rules steps act
      → ((r : WalletRecords) → found m ≡ Some r → FindsWith act asked before r)
      → RanTo dig rules (Tells dig role tag m) (found m) (act_events m (found m) act start)
  act-ran role tag m before asked act steps start found records Rested legal log_is found_is tells may fits =
      record { legal = legal; records = records; found_is = found_is; tells = tells }
  act-ran role tag m before asked act steps start found records (WalletRan same outside first lines comes here) legal
      log_is found_is tells may fits =
      let one : first ≡ records = found_is first (own-is m first (found m)) in
      let told_of : TellsWallet dig tag m start first =
      subst (TellsWallet dig tag m start) (sym one)
      (subst (λ (r : Role). Tells dig r tag m start records) same tells) in
      subst (λ (r : Role). RanTo dig rules (Tells dig r tag m) (found m) (act_events m (found m) act start)) (sym same)
      (wallet-ran dig rules m (chain_of steps) start legal log_is (found m) tag outside first lines comes may told_of
      fits)
  act-ran role tag m before asked act steps start found records (WatcherRan same outside notes lines comes here) legal
      log_is found_is tells may fits =
      let one : notes_alone notes ≡ records = found_is (notes_alone notes) (own-is m (notes_alone notes) (found m)) in
      let told_of : TellsWatcher dig tag m start (notes_alone notes) =
      subst (TellsWatcher dig tag m start) (sym one)
      (subst (λ (r : Role). Tells dig r tag m start records) same tells) in
      subst (λ (r : Role). RanTo dig rules (Tells dig r tag m) (found m) (act_events m (found m) act start)) (sym same)
      (watcher-ran dig rules m (chain_of steps) start legal log_is (found m) tag outside notes lines comes may told_of
      fits)

  later-step : (m : ℕ) (call last : TheCall) (calls : List TheCall) (steps : TheSteps) (start : List Event)
      (found : Found) → IsLife told plan faults dig (call ∷ last ∷ calls) → IsLegal (tests_by dig) rules start
      → log_of start ≡ chain_of steps
      → Held (found_by m (act_of told plan faults dig m call) found m) start m last calls
      → MayDo told plan faults dig rules steps (act_of told plan faults dig m call)
      → ((r : WalletRecords) → found m ≡ Some r → MayFind told plan faults dig m (call ∷ last ∷ calls) r)
      → OwnStep m call (last ∷ calls) (found m) (act_events m (found m) (act_of told plan faults dig m call) start)
  unfolding MayFind
  later-step m call last calls steps start found life legal log_is held may fits =
      let on = life-goes-on told plan faults dig held.role m call last calls held.life life in
      let to = act-ran held.role held.tag m (MayFind told plan faults dig m (last ∷ calls)) call.asked
      (act_of told plan faults dig m call) steps start found held.records on.act legal log_is held.found_is held.tells
      may fits in
      record {
        legal = to.legal;
        held = record {
          role = held.role;
          tag = held.tag;
          life = on.life;
          records = to.records;
          found_is = to.found_is;
          tells = to.tells;
        };
      }

  -- ---- any call

  -- the life of a node, up to any of its calls
  life-of : (role : Role) (m : ℕ) (last : TheCall) (calls later : List TheCall) (first : TheCall)
      → last ∷ calls ≡ later ++ first ∷ [] → BeginsNode told plan faults dig role first
      → IsLife told plan faults dig (last ∷ calls) → Life told plan faults dig role m last calls
  unfolding IsLife
  life-of role m last [] later first are begins life =
      let here : BeginsNode told plan faults dig role last =
      subst (BeginsNode told plan faults dig role) (one-first last first later are) begins in
      record {
        later = [];
        first = last;
        are = refl;
        begins = here;
        only = begun-only told plan faults dig role m last here;
      }
  life-of role m last (previous ∷ calls) [] first are begins life = absurd (cc are)
  life-of role m last (previous ∷ calls) (one ∷ later) first are begins life =
      (life-goes-on told plan faults dig role m last previous calls
      (life-of role m previous calls later first (cc are) begins life.2) life).life

  found-other : (m n : ℕ) (act : Act) (found : Found) → n ≢ m → found_by m act found n ≡ found n
  found-other m n act found other = grind (arith, common_steps, ne_eqb) steps 20000

  -- what is found before a call of node m
  own-fit : (m : ℕ) (call : TheCall) (calls : List TheCall) (found : Found) (r : WalletRecords)
      → IsNode told plan faults dig rules (call ∷ calls)
      → ((r : WalletRecords) → found m ≡ Some r → MayFind told plan faults dig m (call ∷ calls) r)
      → found_by m (act_of told plan faults dig m call) found m ≡ Some r → MayFind told plan faults dig m calls r
  unfolding MayFind IsLife
  own-fit m call [] found r node fits is = tt
  own-fit m call (last ∷ calls) found r node fits is = by node.later node.are
    where
      by : (later : List TheCall) → call ∷ last ∷ calls ≡ later ++ node.first ∷ []
          → MayFind told plan faults dig m (last ∷ calls) r
      by [] are = absurd (cc are)
      by (one ∷ later) are =
          let life = life-of node.role m last calls later node.first (cc are) node.begins node.life.2 in
          let on = life-goes-on told plan faults dig node.role m call last calls life node.life in
          act-found node.role m (MayFind told plan faults dig m (last ∷ calls)) call.asked
          (act_of told plan faults dig m call) found r on.act fits is

  step-fit : (m : ℕ) (call : TheCall) (steps : TheSteps) (found : Found)
      → IsNode told plan faults dig rules (call ∷ by_node m steps) → Fit found (Does m call ∷ steps)
      → Fit (found_by m (act_of told plan faults dig m call) found) steps
  step-fit m call steps found node fits n r is = elim (cases_eq n m) [
    | inl same ↦
        subst (λ (k : ℕ). MayFind told plan faults dig k (by_node k steps) r) (sym same)
        (own-fit m call (by_node m steps) found r node
        (λ other found_is. subst (λ (calls : List TheCall). MayFind told plan faults dig m calls other)
        (calls-own m call steps) (fits m other found_is))
        (subst (λ (k : ℕ). found_by m (act_of told plan faults dig m call) found k ≡ Some r) same is))
    | inr other ↦
        subst (λ (calls : List TheCall). MayFind told plan faults dig n calls r)
        (calls-other m n call steps (λ same. other (sym same)))
        (fits n r (sym (found-other m n (act_of told plan faults dig m call) found other) ∙ is))
  ]

  own-step : (m : ℕ) (call : TheCall) (steps : TheSteps) (found : Found) (start : List Event) (calls : List TheCall)
      → IsNode told plan faults dig rules (call ∷ calls) → IsLegal (tests_by dig) rules start
      → log_of start ≡ chain_of steps
      → ((me : Owner) → act_of told plan faults dig m call ≡ Begins (Some me) → LegalDeclaration start m me)
      → MayDo told plan faults dig rules steps (act_of told plan faults dig m call)
      → ((r : WalletRecords) → found m ≡ Some r → MayFind told plan faults dig m (call ∷ calls) r)
      → Holds (found_by m (act_of told plan faults dig m call) found m) start m calls
      → OwnStep m call calls (found m) (act_events m (found m) (act_of told plan faults dig m call) start)
  own-step m call steps found start [] node legal log_is declared may fits (silent, unleft) =
      first-step m call (found m) start node legal declared silent unleft fits
  own-step m call steps found start (last ∷ calls) node legal log_is declared may fits held =
      later-step m call last calls steps start found node.life legal log_is held may fits

  step-holds : (m : ℕ) (call : TheCall) (steps : TheSteps) (found : Found) (start : List Event)
      → IsChain told plan faults dig rules (Does m call ∷ steps)
      → log_of start ≡ chain_of steps
      → ((me : Owner) → act_of told plan faults dig m call ≡ Begins (Some me) → LegalDeclaration start m me)
      → Fit found (Does m call ∷ steps)
      → AllHold (found_by m (act_of told plan faults dig m call) found) start (λ n. by_node n steps)
      → AllHold found (act_events m (found m) (act_of told plan faults dig m call) start)
      (λ n. by_node n (Does m call ∷ steps))
  unfolding KeepsTo
  step-holds m call steps found start chain log_is declared fits before =
      let act = act_of told plan faults dig m call in
      let all = calls-own m call steps in
      let node : IsNode told plan faults dig rules (call ∷ by_node m steps) =
      subst (IsNode told plan faults dig rules) all (chain.nodes m (λ none. cc (all, none))) in
      let own = own-step m call steps found start (by_node m steps) node before.legal log_is declared chain.keeps.0
      (λ r is. subst (λ (calls : List TheCall). MayFind told plan faults dig m calls r) all (fits m r is))
      (before.nodes m) in
      let quiet = by_call told plan faults dig m call.asked call.old call.new call.outside call.status call.did in
      record {
        legal = own.legal;
        nodes = λ n. elim (cases_eq m n) [
          | inl same ↦
              subst (λ (k : ℕ). Holds (found k) (act_events m (found m) act start) k (by_node k (Does m call ∷ steps)))
              same (subst (Holds (found m) (act_events m (found m) act start) m) (sym all) own.held)
          | inr other ↦
              let aside = act-aside m n (found m) act start quiet other in
              subst (Holds (found n) (act_events m (found m) act start) n) (sym (calls-other m n call steps other))
              (holds-more (found n) start (act_events m (found m) act start) n (by_node n steps) aside.same aside.starts
              (λ role tag records tells.
              tells-aside role tag n start (act_events m (found m) act start) records aside.log aside.same aside.starts
              tells)
              (subst (λ (now : Option WalletRecords). Holds now start n (by_node n steps))
              (found-other m n act found (λ same. other (sym same))) (before.nodes n)))
        ];
      }

  -- ---- all steps

  pub holds : (steps : TheSteps) → IsChain told plan faults dig rules steps → (found : Found) → Fit found steps
      → AllHold found (events_behind found (acts_of told plan faults dig steps)) (λ n. by_node n steps)
  unfolding events_behind acts_of IsLegal calls_by KeepsTo log_of left_by
  holds [] chain found fits = record { legal = tt; nodes = λ n. (said-none n, refl) }
  holds (Enters call ∷ steps) chain found fits =
      let events = events_behind found (acts_of told plan faults dig steps) in
      let rest = holds steps (chain-behind-call call steps chain) found fits in
      record {
        legal = (entries_are_legal told plan faults dig rules steps found call chain.keeps.0, rest.legal);
        nodes = λ n.
            holds-more (found n) events (Joins call ∷ events) n (by_node n steps)
            (said-other (Joins call) events n refl) refl
            (λ role tag records tells.
            tells-joined role tag n events (Joins call ∷ events) records call refl
            (said-other (Joins call) events n refl) refl tells)
            (rest.nodes n);
      }
  holds (Refuses call ∷ steps) chain found fits =
      let events = events_behind found (acts_of told plan faults dig steps) in
      let before : IsChain told plan faults dig rules steps =
      record { digest = chain.digest; nodes = λ n. chain.nodes n; keeps = chain.keeps.1 } in
      let rest = holds steps before found fits in
      record {
        legal = (
          ap (λ log. is_accepted (answer_to (tests_by dig) rules log call)) (behind told plan faults dig found steps)
              ∙ chain.keeps.0,
          rest.legal,
        );
        nodes = λ n.
            holds-more (found n) events (Bounces call ∷ events) n (by_node n steps)
            (said-other (Bounces call) events n refl) refl
            (λ role tag records tells.
            tells-aside role tag n events (Bounces call ∷ events) records refl
            (said-other (Bounces call) events n refl) refl tells)
            (rest.nodes n);
      }
  holds (Does m call ∷ steps) chain found fits =
      let act = act_of told plan faults dig m call in
      let all = calls-own m call steps in
      let node : IsNode told plan faults dig rules (call ∷ by_node m steps) =
      subst (IsNode told plan faults dig rules) all (chain.nodes m (λ none. cc (all, none))) in
      step-holds m call steps found (events_behind (found_by m act found) (acts_of told plan faults dig steps)) chain
      (behind told plan faults dig (found_by m act found) steps)
      (λ me is. beginnings_are_legal told plan faults dig rules [] steps m call me (found_by m act found) chain is)
      fits
      (holds steps (chain-behind-act m call steps chain) (found_by m act found)
      (step-fit m call steps found node fits))

  -- the events of a chain with its nodes are legal
  pub chains_are_legal : ChainsAreLegal told plan faults dig rules
  chains_are_legal steps chain = (holds steps chain none_found (λ n r wrong. absurd (cc wrong))).legal
