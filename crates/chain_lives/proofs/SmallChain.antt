-- A small chain with a wallet is one, and the wallet holds its coin.
use Rattle.std.proofs.Common.{◌≡◌, ◌≢◌, ℕ, ◌==◌, Bool, true, false, if◌then◌else◌, List, [], ◌∷◌, Some, None, length, refl, sym, ap, ◌∙◌, subst, inl, arith, lit<}
use Rattle.std.specs.Prelude.{replicate, nat_le}
use Rattle.std.proofs.lemmas.Bool.{eq-eqb, and_from, false≢true}
use Rattle.std.proofs.lemmas.List.{length-take-le}
use Rattle.std.proofs.lemmas.Slice.Eq.{bytes_eq-Decides}
use Rattle.std.proofs.lemmas.Grind.{common_steps}
use Rattle.plasma_tx.specs.declared.owner.Owner.{Owner}
use Rattle.plasma_tx.specs.declared.call.RootCall.{RootCall}
use Rattle.plasma_tx.specs.Shown.{Rules, rules_of}
use Rattle.plasma_tx.specs.Table.{is_key, answer_to}
use Rattle.plasma_tx.specs.Views.{coins, coin_at, blocks, is_withdrawn}
use Rattle.plasma_tx.specs.Money.{pays, takes, share_of, balance_of, funded}
use Rattle.sha2.specs.Sha256.{sha256}
use Rattle.sha2.proofs.Facts256.{length-sha256}
use Rattle.lms_sign.specs.Types.{is_supported}
use Rattle.lms_sign.proofs.Laws.{key-types}
use Rattle.wallet_core.specs.State.{is_owner}
use Rattle.node_rules.specs.declared.identity.WalletIdentity.{WalletIdentity}
use Rattle.node_rules.specs.WalletRecords.{identity_in, owner_of, secret_of}
use Rattle.node_rules.specs.Wallet.{watch_answer}
use Rattle.line_forms.specs.Forms.{value_in}
use Rattle.node_replies.specs.Roles.{Wallet}
use Rattle.node_replies.specs.Orders.{wallet_does}
use Rattle.node_replies.proofs.ByteTexts.{small-cons, small-zeros}
use Rattle.node_lines.specs.Grammar.{wallet_line_in}
use Rattle.node_answers.specs.Answers.{Outcome}
use Rattle.node_roles.specs.Notes.{NotesAt}
use Rattle.node_roles.specs.Nodes.{NodeAt}
use Rattle.node_sessions.specs.Sessions.{SessionState}
use Rattle.streamed_lines.specs.Lines.{lines_in}
use Rattle.streamed_lines.specs.Streams.{Streamed}
use Rattle.run_endings.specs.declared.status.Status.TheVariants.{Done}
use Rattle.node_runs.specs.Runs.{RunsWallet}
use Rattle.node_lives.specs.Disks.{Pair, Stays}
use Rattle.node_lives.specs.Calls.{BothDisks, ToBegin, ToRun, Call}
use Rattle.node_lives.specs.Lives.{IsLife}
use Rattle.node_lives.specs.Standing.{IsIdentityOf}
use Rattle.node_lives.specs.Samples.{Drive, told, foretold, met, identity}
use Rattle.node_lives.proofs.Drives.{blank, stopped_notes, begun_notes, begun_leaves, opened}
use Rattle.world_rules.specs.Events.{Event, Declares, Joins, Watches, Other, log_of, wallet_owner, accepted, bound_by, taken_back, not_taken}
use Rattle.world_rules.specs.OrderEvents.{event_of}
use Rattle.world_rules.specs.Exhibits.{openings_of, seen, strings_of, has_clash, collides, is_forged}
use Rattle.world_rules.specs.Safety.{holds}
use Rattle.world_rules.specs.Laws.{IsDigest}
use Rattle.world_laws.specs.Looked.{is_looked_after}
use Rattle.chain_lives.specs.Steps.{Visit, Begins, Runs, Enters, Does, chain_of, answered_events, act_events, events_behind}
use Rattle.chain_lives.specs.Acts.{answer_text, begun_by, wallet_deed, visit_of, wallet_visit, act_by, act_of, acts_of}
use Rattle.chain_lives.specs.Chains.{Steps, events_in, calls_by, IsNode, MayEnter, MayDo, KeepsTo, IsChain}
use Rattle.chain_lives.specs.SmallChain.{SmallChain}
use Rattle.chain_lives.proofs.SampleRun.{made_text, init_passes, input, chain, wallet, watches, streamed, session-is, outside, session, run}

-- ---- who the wallet is

abbrev begun_as : WalletIdentity
begun_as = record {
  tag = replicate 32 0;
  account = 0;
  seed = replicate 32 0;
  types = record { lms = 5; ots = 4 };
}

identity-read : identity_in identity ≡ Some begun_as
unfolding identity_in
identity-read = refl

abbrev pub me : Owner
me = owner_of begun_as

is-me : is_owner me me ≡ true
is-me =
    and_from (me.account == me.account) _ (eq-eqb me.account me.account refl) ((bytes_eq-Decides me.key me.key).1 refl)

abbrev pub funds : RootCall
funds = RootCall.Fund me.account 5

abbrev pub deposits : RootCall
deposits = RootCall.Deposit me.account 5 me.key

-- ---- the calls

abbrev pair : Drive → Drive → Pair Drive
pair notes leaves = record { notes = notes; leaves = leaves }

module _ (dig : List ℕ → List ℕ) where
  abbrev pub TheCall : Type 0
  TheCall = Call told foretold met dig

  abbrev pub begins : TheCall
  begins = record {
    asked = ToBegin BothDisks identity;
    old = pair stopped_notes blank;
    new = pair begun_notes begun_leaves;
    outside = record { left = Some []; later = Some []; taken = Some []; after = Some made_text };
    status = Done;
    did = inl init_passes;
  }

  abbrev pub runs : TheCall
  runs = record {
    asked = ToRun Wallet;
    old = pair begun_notes begun_leaves;
    new = pair (opened begun_notes) (opened begun_leaves);
    outside = outside dig;
    status = Done;
    did = inl (run dig);
  }

  abbrev pub rules : Rules
  rules = rules_of chain

  abbrev TheSteps : Type 0
  TheSteps = Steps told foretold met dig rules

  abbrev begun : TheSteps
  begun = Does 1 begins ∷ []

  abbrev watched : TheSteps
  watched = Does 1 runs ∷ begun

  abbrev funded_steps : TheSteps
  funded_steps = Enters funds ∷ watched

  abbrev pub steps : TheSteps
  steps = Enters deposits ∷ funded_steps

  -- ---- their acts

  act-begins : act_of told foretold met dig 1 begins ≡ Begins (Some me)
  unfolding act_by
  act-begins = ap begun_by identity-read

  abbrev visit_with : Streamed (SessionState (NodeAt NotesAt)) (List ℕ) → Visit
  visit_with s =
      visit_of wallet_line_in (wallet_deed 1 dig) (outside dig) (wallet dig).records
      (record { bytes = input; stream = s.stream })

  act-runs : act_of told foretold met dig 1 runs ≡ Runs (visit_with (streamed dig))
  unfolding act_by wallet_visit RunsWallet run session
  act-runs = ap (λ (s : Streamed (SessionState (NodeAt NotesAt)) (List ℕ)). Runs (visit_with s)) (session-is dig)

  -- ---- their events

  watch-events : (events : List Event)
      → act_events 1 None (Runs (visit_with (streamed dig))) events ≡ Watches 1 [] ∷ events
  unfolding answered_events lines_in wallet_line_in value_in wallet_does watch_answer event_of coins
  watch-events events =
      ap (λ (o : Outcome). (if nat_le (length (answer_text o.says)) 9 then Watches 1 [] else Other 1) ∷ events)
      (watches dig)

  watched-events : events_in told foretold met dig rules watched ≡ Watches 1 [] ∷ Declares 1 me ∷ []
  unfolding events_behind acts_of
  watched-events = grind (arith, common_steps, act-runs, act-begins, watch-events) steps 20000

  pub all-events : events_in told foretold met dig rules steps
      ≡ Joins deposits ∷ Joins funds ∷ Watches 1 [] ∷ Declares 1 me ∷ []
  unfolding events_behind acts_of
  all-events = ap (λ (events : List Event). Joins deposits ∷ Joins funds ∷ events) watched-events

  -- ---- the chain

  may-fund : MayEnter told foretold met dig rules watched funds
  unfolding chain_of answer_to funded
  may-fund = record { accepted = refl; offered = λ w other is starts. absurd (false≢true starts) }

  id-long : length (secret_of begun_as).id ≡ 16
  id-long = length-take-le 16 (sha256 begun_as.seed) (omega (arith, length-sha256 begun_as.seed))

  key-reads : is_key me.key ≡ true
  unfolding owner_of
  key-reads = ap is_supported (key-types (secret_of begun_as) refl id-long)

  may-deposit : MayEnter told foretold met dig rules funded_steps deposits
  unfolding chain_of answer_to balance_of pays takes share_of blocks coins owner_of
  may-deposit = grind (arith, common_steps, key-reads, false≢true) steps 20000

  handed : MayDo told foretold met dig rules begun (act_of told foretold met dig 1 runs)
  unfolding chain_of
  handed = grind (arith, common_steps, act-runs, chain) steps 20000

  fresh : MayDo told foretold met dig rules [] (act_of told foretold met dig 1 begins)
  unfolding chain_of events_behind acts_of wallet_owner
  fresh =
      subst (MayDo told foretold met dig rules []) (sym act-begins)
      (record { no_deposit = refl; no_start = refl; own_account = λ v other is. absurd (cc is) })

  pub keeps : KeepsTo told foretold met dig rules steps
  unfolding KeepsTo
  keeps = (may-deposit, (may-fund, (handed, (fresh, tt))))

  pub is-identity : IsIdentityOf dig Wallet identity
  unfolding identity_in
  is-identity = record { is = refl; bytes = (small-cons 1 (lit< tt) (small-zeros 72)).are; digests = tt }

  own-node : IsNode told foretold met dig rules (runs ∷ begins ∷ [])
  unfolding IsLife
  own-node = record {
    role = Wallet;
    later = runs ∷ [];
    first = begins;
    are = refl;
    begins = record { identity = identity; is = is-identity; asked = refl; made = refl };
    life = ((refl, refl), (Stays refl, Stays refl), ((refl, refl), tt, tt));
  }

  nodes : (n : ℕ) → calls_by told foretold met dig rules n steps ≢ []
      → IsNode told foretold met dig rules (calls_by told foretold met dig rules n steps)
  unfolding calls_by
  nodes n some = by (1 == n) some
    where
      by : (b : Bool)
          → ((if b then runs ∷ (if b then begins ∷ [] else []) else (if b then begins ∷ [] else [])) ≢ [])
          → IsNode told foretold met dig rules
          (if b then runs ∷ (if b then begins ∷ [] else []) else (if b then begins ∷ [] else []))
      by true some = own-node
      by false some = absurd (some refl)

  is-chain : IsDigest dig → IsChain told foretold met dig rules steps
  is-chain digest = record { digest = digest; nodes = nodes; keeps = keeps }

  pub is-held : holds (Joins deposits ∷ Joins funds ∷ Watches 1 [] ∷ Declares 1 me ∷ []) 1 1 1 ≡ true
  unfolding holds log_of wallet_owner accepted bound_by taken_back not_taken coins coin_at blocks is_withdrawn
  is-held = simp is-me refl

  pub is-looked : is_looked_after (Joins deposits ∷ Joins funds ∷ Watches 1 [] ∷ Declares 1 me ∷ []) 1 1 1 ≡ true
  unfolding is_looked_after
  is-looked = refl

  pub is-apart : collides dig (Joins deposits ∷ Joins funds ∷ Watches 1 [] ∷ Declares 1 me ∷ []) 1 ≡ false
  unfolding collides seen has_clash strings_of openings_of
  is-apart = refl

  pub is-unforged : is_forged rules.tag (Joins deposits ∷ Joins funds ∷ Watches 1 [] ∷ Declares 1 me ∷ []) 1 1 ≡ false
  unfolding is_forged wallet_owner openings_of
  is-unforged = refl

  pub small_chain : IsDigest dig → SmallChain dig
  small_chain digest = record {
    me = me;
    rules = rules;
    steps = steps;
    chain = is-chain digest;
    events = all-events;
    held = ap (λ (events : List Event). holds events 1 1 1) all-events ∙ is-held;
    looked = ap (λ (events : List Event). is_looked_after events 1 1 1) all-events ∙ is-looked;
    apart = ap (λ (events : List Event). collides dig events 1) all-events ∙ is-apart;
    unforged = ap (λ (events : List Event). is_forged rules.tag events 1 1) all-events ∙ is-unforged;
  }
