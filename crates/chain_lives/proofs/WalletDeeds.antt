-- What a wallet's command is, where events say what its records are: a legal event; and with it they say so still.
use Rattle.std.proofs.Common.{◌≡◌, ℕ, ◌^◌, ◌<◌, true, List, ◌∷◌, Option, Some, None, refl, sym, ap, ◌∙◌, subst, arith}
use Rattle.std.proofs.lemmas.Bool.{false≢true}
use Rattle.std.specs.Prelude.{IfSome}
use Rattle.std.proofs.lemmas.Grind.{common_steps}
use Rattle.line_forms.specs.Tokens.{optional_number}
use Rattle.node_journal.specs.Role.{Kinds, are_of}
use Rattle.plasma_tx.specs.declared.call.RootCall.{RootCall}
use Rattle.plasma_tx.specs.Views.{blocks}
use Rattle.plasma_tx.specs.Shown.{Rules, tests_by}
use Rattle.wallet_core.specs.State.{is_noted}
use Rattle.node_rules.specs.WalletRecords.{who_is, wallet_kinds}
use Rattle.node_rules.specs.WalletCommandLaws.{with_more, HaveOpenings}
use Rattle.node_rules.specs.Wallet.{WalletRecords, who, noted}
use Rattle.node_rules.proofs.WalletGrow.{wallet-parts}
use Rattle.node_replies.specs.declared.order.WalletOrder.{WalletOrder}
use Rattle.node_replies.specs.declared.order.NodeOrder.{NodeOrder}
use Rattle.node_replies.specs.Orders.{with_record, wallet_does}
use Rattle.node_lines.specs.declared.wallet_line.WalletLine.{WalletLine}
use Rattle.node_lines.specs.Grammar.{IsWalletLine}
use Rattle.node_answers.specs.Answers.{wallet_outcome}
use Rattle.world_rules.specs.Events.{Event, Other, log_of, accepted}
use Rattle.world_rules.specs.World.{Wallet}
use Rattle.world_rules.specs.OrderEvents.{event_of}
use Rattle.world_rules.specs.Steps.{without_offers}
use Rattle.world_rules.proofs.OrderEnds.{OrderEnds, Others, Accepting, Binding, Leaving, TakingBack, Watching, Guarding, Releasing, GuardWatching, Sealing, IsOrderAt, each-answer, order-ends}
use Rattle.world_rules.proofs.Said.{Said, said, told}
use Rattle.world_rules.proofs.KeptWallet.{KeptWallet, wallet-longer}
use Rattle.world_rules.proofs.KeptNode.{IsFitOrder}
use Rattle.world_rules.proofs.WalletAccepts.{accepts-kept}
use Rattle.world_rules.proofs.WalletSends.{sends-kept}
use Rattle.world_rules.proofs.WalletNotes.{reclaims-kept, leaves-kept, migrates-kept}
use Rattle.world_laws.specs.Legal.{left_by, is_left, IsLegalEvent}
use Rattle.world_laws.proofs.GuardsShown.{AreShown}
use Rattle.world_laws.proofs.AcceptsShown.{node_with, accepted_in, wallet-shown}
use Rattle.world_laws.proofs.LeftNotes.{StillLeft, wallet-left}
use Rattle.world_laws.proofs.LeftRuns.{left-more, cut-other}
use Rattle.world_laws.proofs.LegalLeaves.{legal-left, legal-wallet-watched}
use Rattle.world_laws.proofs.LegalCoins.{legal-accepted, legal-bound, legal-reclaimed}
use Rattle.chain_lives.specs.Steps.{Deed}
use Rattle.chain_lives.specs.Acts.{wallet_deed}
use Rattle.chain_lives.proofs.Log.{line_quiet, quiet_step, without_quiet}
use Rattle.chain_lives.proofs.Sayings.{said-near, said-cut}
use Rattle.chain_lives.proofs.Following.{Follows}

-- ---- what events say of a wallet

-- What events say of wallet n, whose chain has this tag, is what its records are; bundles that it accepted show what
-- they accept; and what it left with is noted.
pub record TellsWallet (dig : List ℕ → List ℕ) (tag : List ℕ) (n : ℕ) (events : List Event) (wallet : WalletRecords)
    : Type 0 where
  pub kept : KeptWallet dig (said events n) (log_of events) wallet
  pub tag_is : (who wallet).tag ≡ tag
  pub shown : AreShown tag (said events n).accepted (accepted_in dig wallet.notes)
  pub openings : HaveOpenings dig wallet
  pub left : (c e : ℕ) → is_left (left_by events n) c e ≡ true → is_noted c e (noted dig wallet).leaving ≡ true

-- who the first record names stays with more behind it
pub who-more : (kinds : Kinds) (records : List (List ℕ)) (note : Option (List ℕ)) → are_of kinds records ≡ true
    → who_is (with_record records note) ≡ who_is records
unfolding who_is
who-more kinds records added is = grind (arith, common_steps, false≢true) steps 20000

records-more : (records : List (List ℕ)) (added : Option (List ℕ)) → with_more added records ≡ with_record records added
records-more records None = refl
records-more records (Some body) = refl

module _ (dig : List ℕ → List ℕ) (tag : List ℕ) (n : ℕ) (events : List Event) (wallet : WalletRecords)
    (tells : TellsWallet dig tag n events wallet) where
  -- behind more events that say nothing of the wallet
  pub wallet-aside : (more : List Event) → log_of more ≡ log_of events → said more n ≡ said events n
      → left_by more n ≡ left_by events n → TellsWallet dig tag n more wallet
  wallet-aside more log same starts = grind (arith, common_steps, said, accepted_in) steps 20000

  -- with a call that joins the log
  pub wallet-joined : (call : RootCall) (more : List Event) → log_of more ≡ call ∷ log_of events
      → said more n ≡ said events n → left_by more n ≡ left_by events n → TellsWallet dig tag n more wallet
  wallet-joined call more log same starts = record {
    kept =
        subst (λ (s : Said). KeptWallet dig s (log_of more) wallet) (sym same)
        (subst (λ (l : List RootCall). KeptWallet dig (said events n) l wallet) (sym log)
        (wallet-longer dig (said events n) (log_of events) call wallet tells.kept));
    tag_is = tells.tag_is;
    shown = subst (λ (s : Said). AreShown tag s.accepted (accepted_in dig wallet.notes)) (sym same) tells.shown;
    openings = tells.openings;
    left = λ c e is. tells.left c e (ap (λ (calls : List RootCall). is_left calls c e) (sym starts) ∙ is);
  }

-- ---- an order

module _ (dig : List ℕ → List ℕ) (rules : Rules) (n : ℕ) (events : List Event) (wallet : WalletRecords)
    (tells : TellsWallet dig rules.tag n events wallet) (few : blocks (log_of events) < 2 ^ 64) where
  abbrev log : List RootCall
  log = log_of events

  -- the event of an order, and the records with what it adds
  abbrev order_event : WalletOrder → Event
  order_event order = event_of n (NodeOrder.Wallet order) (wallet_does dig log wallet order).response

  abbrev after_order : WalletOrder → WalletRecords
  after_order order = record {
    notes = with_record wallet.notes (wallet_does dig log wallet order).note;
    leaves = with_record wallet.leaves (wallet_does dig log wallet order).leaf;
  }

  by-more : (s : Said) (note leaf : Option (List ℕ))
      → KeptWallet dig s log (record { notes = with_more note wallet.notes; leaves = with_more leaf wallet.leaves })
      → KeptWallet dig s log (record { notes = with_record wallet.notes note; leaves = with_record wallet.leaves leaf })
  by-more s note leaf kept =
      subst (KeptWallet dig s log)
      (λ i. record { notes = records-more wallet.notes note i; leaves = records-more wallet.leaves leaf i }) kept

  order-kept : (order : WalletOrder) → IsFitOrder (NodeOrder.Wallet order)
      → KeptWallet dig (told (order_event order) (said events n)) log (after_order order)
  unfolding wallet_does event_of
  order-kept (WalletOrder.Accept bytes) fit =
      by-more _ _ _ (accepts-kept dig (said events n) log wallet tells.kept bytes fit n)
  order-kept (WalletOrder.Send coin to last) fit =
      by-more _ _ _
      (sends-kept dig (said events n) log wallet tells.kept few coin to last fit.0 fit.1.is fit.1.key fit.2 n)
  order-kept (WalletOrder.Again coin) fit = grind (arith, common_steps, each-answer, told, said) steps 20000
  order-kept (WalletOrder.Leave coin) fit =
      by-more _ _ _ (leaves-kept dig (said events n) log wallet tells.kept few n coin fit)
  order-kept (WalletOrder.Reclaim bytes) fit =
      by-more _ _ _ (reclaims-kept dig (said events n) log wallet tells.kept few n bytes fit)
  order-kept WalletOrder.Migrate fit =
      by-more _ _ _ (migrates-kept dig (said events n) log wallet tells.kept few n)
  order-kept WalletOrder.Watch fit = tells.kept

  -- with an event that says of the wallet what the order's does
  order-tells : (order : WalletOrder) → IsFitOrder (NodeOrder.Wallet order) → (event : Event)
      → log_of (event ∷ events) ≡ log → said (event ∷ events) n ≡ told (order_event order) (said events n)
      → ((c e : ℕ) → is_left (left_by (event ∷ events) n) c e ≡ true
      → is_noted c e (noted dig (after_order order)).leaving ≡ true)
      → TellsWallet dig rules.tag n (event ∷ events) (after_order order)
  order-tells order fit event log_same same left = record {
    kept =
        subst (λ (s : Said). KeptWallet dig s (log_of (event ∷ events)) (after_order order)) (sym same)
        (subst (λ (l : List RootCall). KeptWallet dig (told (order_event order) (said events n)) l (after_order order))
        (sym log_same) (order-kept order fit));
    tag_is =
        ap (λ w. w.tag)
        (who-more (wallet_kinds dig) wallet.notes (wallet_does dig log wallet order).note
        (wallet-parts dig wallet tells.kept.is).role)
        ∙ tells.tag_is;
    shown =
        subst (λ (s : Said). AreShown rules.tag s.accepted (accepted_in dig (after_order order).notes)) (sym same)
        (wallet-shown dig rules.tag log few n wallet (said events n) tells.kept tells.tag_is tells.shown order fit);
    openings = (wallet-left dig (said events n) log few n wallet tells.kept tells.openings order fit).still.openings
        tells.openings;
    left = left;
  }

  still-left : (order : WalletOrder) → IsFitOrder (NodeOrder.Wallet order)
      → StillLeft dig wallet (after_order order) (order_event order)
  still-left order fit = wallet-left dig (said events n) log few n wallet tells.kept tells.openings order fit

  left-with : (order : WalletOrder) → IsFitOrder (NodeOrder.Wallet order) → (c e : ℕ)
      → is_left (left_by (order_event order ∷ events) n) c e ≡ true
      → is_noted c e (noted dig (after_order order)).leaving ≡ true
  left-with order fit c e =
      let more = still-left order fit in
      left-more (noted dig (after_order order)).leaving events n c e
      (λ is. more.still.leaving c e (tells.left c e is)) (order_event order) more.left

  left-without : (order : WalletOrder) → IsFitOrder (NodeOrder.Wallet order) → (c e : ℕ)
      → is_left (left_by (without_offers n (order_event order) ∷ events) n) c e ≡ true
      → is_noted c e (noted dig (after_order order)).leaving ≡ true
  left-without order fit c e =
      let more = still-left order fit in
      left-more (noted dig (after_order order)).leaving events n c e
      (λ is. more.still.leaving c e (tells.left c e is)) (without_offers n (order_event order))
      (λ m call is. absurd (cut-other n (order_event order) m call is))

  accepts : AreShown rules.tag (accepted events n) (accepted_in dig wallet.notes)
  unfolding said
  accepts = tells.shown

  order-legal : (own : NodeOrder) (event : Event) (calls : List RootCall) → IsOrderAt Wallet own → IsFitOrder own
      → OrderEnds dig log n (node_with wallet) own event calls → IsLegalEvent (tests_by dig) rules events event
  order-legal own event calls role fit (Others order) = tt
  order-legal own event calls role fit (Accepting bytes taken made) =
      legal-accepted dig rules events log refl n wallet tells.kept tells.tag_is tells.left few bytes taken made
  order-legal own event calls role fit (Binding coin to last sent made) =
      legal-bound dig rules events log refl n wallet tells.kept tells.tag_is tells.left few coin to last sent fit.0
      fit.1.is fit.2 made
  order-legal own event calls role fit (Leaving coin call made) =
      legal-left dig rules events log refl n wallet tells.kept tells.tag_is accepts coin call made
  order-legal own event calls role fit (TakingBack bytes taken made) =
      legal-reclaimed dig rules events log refl n wallet tells.kept tells.tag_is tells.left few bytes taken made
  order-legal own event calls role fit Watching =
      legal-wallet-watched dig rules events log refl n wallet tells.kept tells.tag_is accepts
  order-legal own event calls role fit (Guarding bytes taken made) = absurd (false≢true role)
  order-legal own event calls role fit (Releasing coin tip) = tt
  order-legal own event calls role fit GuardWatching = absurd (false≢true role)
  order-legal own event calls role fit Sealing = absurd (false≢true role)

  -- ---- a command

  some-fits : (last : Option ℕ) → (optional_number).Is last → IfSome last (λ n. n < 2 ^ 64)
  some-fits None is = tt
  some-fits (Some block) is = is

  fit-order : (order : WalletOrder) → IsWalletLine (WalletLine.Order order) → IsFitOrder (NodeOrder.Wallet order)
  fit-order (WalletOrder.Accept bundle) is = record { are = is.0 }
  fit-order (WalletOrder.Send coin to last) is =
      (is.0, record { is = is.1.0.0; key = record { are = is.1.0.1 } }, some-fits last is.1.1.0)
  fit-order (WalletOrder.Again coin) is = tt
  fit-order (WalletOrder.Leave coin) is = is.0
  fit-order (WalletOrder.Reclaim bundle) is = record { are = is.0 }
  fit-order WalletOrder.Migrate is = tt
  fit-order WalletOrder.Watch is = tt

  other-follows : (deed : Deed) → deed.event ≡ Other n → deed.left ≡ wallet
      → Follows dig rules n (TellsWallet dig rules.tag n) events deed
  unfolding log_of left_by
  other-follows deed is same = grind (arith, common_steps, wallet-aside, said-near) steps 150000

  -- a command in the grammar
  pub wallet-follows : (line : WalletLine) → IsWalletLine line
      → Follows dig rules n (TellsWallet dig rules.tag n) events (wallet_deed n dig log wallet line)
  unfolding wallet_outcome
  wallet-follows (WalletLine.Order order) is =
      let fit = fit-order order is in
      let quiet = line_quiet n dig log wallet (WalletLine.Order order) in
      let event = order_event order in
      record {
        legal =
            order-legal (NodeOrder.Wallet order) event _ refl fit
            (order-ends dig log n (node_with wallet) (NodeOrder.Wallet order));
        tells =
            order-tells order fit event (quiet_step n event events quiet) (said-near n events event quiet.own)
            (left-with order fit);
        silent =
            order-tells order fit (without_offers n event)
            (quiet_step n (without_offers n event) events (without_quiet n event quiet))
            (said-cut n events event quiet.own) (left-without order fit);
      }
  wallet-follows (WalletLine.State coin) is = other-follows _ refl refl
  wallet-follows WalletLine.Who is = other-follows _ refl refl
