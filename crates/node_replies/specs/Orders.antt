-- What an order of a node does, once and for all its uses: its answer, the bytes that it makes, the calls that it
-- offers, and the record that it adds.
use Rattle.std.specs.Prelude.{ℕ, ◌||◌, Bool, List, [], ◌∷◌, ◌++◌, Option, Some, None, is_some, Result, Ok, Err}
use Rattle.std.specs.List.{filter_map}
use Rattle.node_journal.specs.Effect.{Effect}
use Rattle.plasma_tx.specs.declared.opening.RawOpening.{RawOpening}
use Rattle.plasma_tx.specs.declared.call.RootCall.{RootCall}
use Rattle.coin_history.specs.declared.bundle.Bundle.{Bundle}
use Rattle.coin_history.specs.Bundles.{bundle_text}
use Rattle.node_rules.specs.declared.answers.Accepted.{Accepted}
use Rattle.node_rules.specs.declared.answers.Sent.{Sent}
use Rattle.node_rules.specs.declared.answers.Reclaimed.{Reclaimed}
use Rattle.node_rules.specs.declared.refusal.WalletRefusal.{WalletRefusal}
use Rattle.node_rules.specs.Wallet.{WalletRecords, WalletEffect, accept_effect, send_effect, again_answer, leave_effect, reclaim_effect, migrate_effect, watch_answer as wallet_watch}
use Rattle.node_rules.specs.Watcher.{guard_effect, release_effect, watch_answer as watcher_watch}
use Rattle.operator_rules.specs.declared.sealed.Sealed.{Sealed}
use Rattle.operator_rules.specs.Commands.{offer_effect, lay_effect, seal_effect, prove_answer, bundle_answer, absences_answer}
use Rattle.node_replies.specs.declared.reply.Reply.{Reply}
use Rattle.node_replies.specs.declared.reply.OfferKind.{OfferKind}
use Rattle.node_replies.specs.declared.order.WalletOrder.{WalletOrder}
use Rattle.node_replies.specs.declared.order.WatcherOrder.{WatcherOrder}
use Rattle.node_replies.specs.declared.order.OperatorOrder.{OperatorOrder}
use Rattle.node_replies.specs.Causes.{wallet_cause, watcher_cause, offer_cause, lay_cause, seal_cause, prove_cause}

-- what an order gives out: its answer, the bytes that it makes, and the calls that it offers
pub record Response : Type 0 where
  pub reply : Reply
  pub made : List ℕ
  pub offers : List RootCall

-- what it gives out, and the record that it adds to the node's notes or to its leaves
pub record Doing : Type 0 where
  pub response : Response
  pub note : Option (List ℕ)
  pub leaf : Option (List ℕ)

-- it is answered so
abbrev pub says : Reply → Response
says reply = record { reply = reply; made = []; offers = [] }

-- it is answered so, and makes bytes
abbrev pub makes : Reply → List ℕ → Response
makes reply made = record { reply = reply; made = made; offers = [] }

-- it is answered so, and offers calls
abbrev pub offers : Reply → List RootCall → Response
offers reply calls = record { reply = reply; made = []; offers = calls }

-- it is refused
abbrev pub refused : List ℕ → Response
refused cause = says (Reply.Refused cause)

-- an answer, by what is given out for it, or the refusal for its cause
abbrev pub answered : {A E : Type 0} → (E → List ℕ) → (A → Response) → Result A E → Response
answered cause give (Ok answer) = give answer
answered cause give (Err why) = refused (cause why)

-- it adds no record
abbrev pub without_record : Response → Doing
without_record response = record { response = response; note = None; leaf = None }

-- what a wallet's effect does, and that of another node
abbrev pub wallet_doing : {A : Type 0} → (A → Response) → WalletEffect (Result A WalletRefusal) → Doing
wallet_doing give effect =
    record { response = answered wallet_cause give effect.answer; note = effect.note; leaf = effect.leaf }

abbrev pub noting_doing : {A E : Type 0} → (E → List ℕ) → (A → Response) → Effect (Result A E) → Doing
noting_doing cause give effect =
    record { response = answered cause give effect.answer; note = effect.note; leaf = None }

-- the records of one kind with what an order adds
abbrev pub with_record : List (List ℕ) → Option (List ℕ) → List (List ℕ)
with_record records None = records
with_record records (Some body) = records ++ body ∷ []

-- it adds a record
abbrev pub adds_record : Doing → Bool
adds_record doing = is_some doing.note || is_some doing.leaf

-- ---- watches

-- the kind of a call that is due
abbrev pub kind_of : RootCall → Option OfferKind
kind_of (RootCall.After account coin exit spend) = Some OfferKind.After
kind_of (RootCall.Between account coin exit spend) = Some OfferKind.Between
kind_of (RootCall.Before account coin exit shown) = Some OfferKind.Before
kind_of (RootCall.Respond account coin exit challenged spend) = Some OfferKind.Respond
kind_of call = None

-- the calls are offered
abbrev pub on_watch : List RootCall → Response
on_watch calls = offers (Reply.Offers (filter_map kind_of calls)) calls

-- ---- wallets

-- the block of the exit that a call starts
abbrev pub exit_block : RootCall → ℕ
exit_block (RootCall.StartDeposit account coin block) = block
exit_block (RootCall.StartSpend account coin parent exit) = exit.block
exit_block call = 0

-- a coin was accepted
abbrev pub on_accepted : Accepted → Response
on_accepted taken = says (Reply.Accepted taken.coin taken.tip)

-- a transfer was signed, or is made again
abbrev pub on_sent : Sent → Response
on_sent sent = makes (Reply.Sent sent.q) sent.bytes

-- the start of an exit is offered
abbrev pub on_leaving : RootCall → Response
on_leaving call = offers (Reply.Leaving (exit_block call)) (call ∷ [])

-- a transfer was taken back
abbrev pub on_reclaimed : Reclaimed → Response
on_reclaimed taken = says (Reply.Reclaimed taken.coin taken.q)

-- the journal of leaves has its marker
abbrev pub on_migrated : Unit {0} → Response
on_migrated done = says Reply.Migrated

-- a transfer is given out again, and the marker is added
abbrev pub again_does : WalletRecords → ℕ → Doing
again_does wallet coin = without_record (answered wallet_cause on_sent (again_answer wallet coin))

abbrev pub migrate_does : WalletRecords → Doing
migrate_does wallet = wallet_doing on_migrated (migrate_effect wallet)

-- What an order does at a wallet that is up, by its records, behind a log.
unfoldable pub wallet_does : (List ℕ → List ℕ) → List RootCall → WalletRecords → WalletOrder → Doing
wallet_does dig log wallet (WalletOrder.Accept bundle) =
    wallet_doing on_accepted (accept_effect dig wallet log bundle)
wallet_does dig log wallet (WalletOrder.Send coin to last) =
    wallet_doing on_sent (send_effect dig wallet log coin to last)
wallet_does dig log wallet (WalletOrder.Again coin) = again_does wallet coin
wallet_does dig log wallet (WalletOrder.Leave coin) = wallet_doing on_leaving (leave_effect dig wallet log coin)
wallet_does dig log wallet (WalletOrder.Reclaim bundle) =
    wallet_doing on_reclaimed (reclaim_effect dig wallet log bundle)
wallet_does dig log wallet WalletOrder.Migrate = migrate_does wallet
wallet_does dig log wallet WalletOrder.Watch = without_record (on_watch (wallet_watch dig wallet log))

-- ---- watchers

-- a coin is guarded
abbrev pub on_guarded : Accepted → Response
on_guarded taken = says (Reply.Guarded taken.coin taken.tip)

-- a guard was let go
abbrev pub on_released : Unit {0} → Response
on_released done = says Reply.Released

-- What an order does at a watcher that is up, by its records, behind a log.
unfoldable pub watcher_does : (List ℕ → List ℕ) → List RootCall → List (List ℕ) → WatcherOrder → Doing
watcher_does dig log notes (WatcherOrder.Guard bundle) =
    noting_doing watcher_cause on_guarded (guard_effect dig notes log bundle)
watcher_does dig log notes (WatcherOrder.Release coin tip) =
    noting_doing watcher_cause on_released (release_effect dig notes coin tip)
watcher_does dig log notes WatcherOrder.Watch = without_record (on_watch (watcher_watch dig notes log))

-- ---- the operator

-- a transfer is in the pool, and bytes are laid
abbrev pub on_pooled : ℕ → Response
on_pooled coin = says (Reply.Pooled coin)

abbrev pub on_laid : ℕ → Unit {0} → Response
on_laid coin done = says (Reply.Laid coin)

-- the pool is sealed, and the commit of its root is offered
abbrev pub on_sealed : Sealed → Response
on_sealed sealed = offers (Reply.Sealed sealed.leaves) (sealed.call ∷ [])

-- a bundle and an opening are made
abbrev pub on_bundled : Bundle → Response
on_bundled bundle = makes (Reply.Bundled bundle.tip) (bundle_text bundle)

abbrev pub on_proved : RawOpening → Response
on_proved opening = makes Reply.Proved opening.bytes

-- What an order does at an operator that is up, by its records, behind a log.
unfoldable pub operator_does : (List ℕ → List ℕ) → List RootCall → List (List ℕ) → OperatorOrder → Doing
operator_does dig log notes (OperatorOrder.Offer transfer) =
    noting_doing offer_cause on_pooled (offer_effect dig notes log transfer)
operator_does dig log notes (OperatorOrder.Lay coin leaf) =
    noting_doing lay_cause (on_laid coin) (lay_effect coin leaf)
operator_does dig log notes OperatorOrder.Seal = noting_doing seal_cause on_sealed (seal_effect dig notes)
operator_does dig log notes (OperatorOrder.Bundle coin tip) =
    without_record (answered prove_cause on_bundled (bundle_answer dig notes log coin tip))
operator_does dig log notes (OperatorOrder.Prove coin block) =
    without_record (answered prove_cause on_proved (prove_answer dig notes log coin block))
operator_does dig log notes (OperatorOrder.Absences coin after last) =
    without_record (answered prove_cause on_bundled (absences_answer dig notes log coin after last))
