-- Small journals, logs and bundles with transfers and promises of another tag: what the laws suppose is there.
use Rattle.std.specs.Prelude.{◌≡◌, ℕ, true, false, List, [], ◌∷◌, ◌++◌, length, replicate, None, Ok, Err, is_ok}
use Rattle.std.specs.Str.{bytes_eq}
use Rattle.gate_journal.specs.Image.{spelled}
use Rattle.node_journal.specs.Role.{are_of}
use Rattle.lms_sign.specs.Tree.{signature_of}
use Rattle.leaf_journal.specs.Records.{is_marked, leaf_records_in_of, marker, messages_of, with_number}
use Rattle.plasma_tx.specs.declared.owner.Owner.{Owner}
use Rattle.plasma_tx.specs.declared.body.Body.{Body}
use Rattle.plasma_tx.specs.declared.opening.RawOpening.{RawOpening}
use Rattle.plasma_tx.specs.declared.call.Shown.TheVariants.{Deposit as AtDeposit}
use Rattle.plasma_tx.specs.declared.call.RootCall.{RootCall}
use Rattle.plasma_tx.specs.declared.call.RootCall.TheVariants.{Fund, Deposit, Commit, StartSpend}
use Rattle.plasma_tx.specs.declared.answer.Answer.TheVariants.{Refused}
use Rattle.plasma_tx.specs.declared.answer.Refusal.TheVariants.{BadOpening}
use Rattle.plasma_tx.specs.Spelling.{body_text}
use Rattle.plasma_tx.specs.Shown.{Tests, Rules}
use Rattle.plasma_tx.specs.Table.{answer_to, is_accepted}
use Rattle.coin_history.specs.declared.bundle.Bundle.{Bundle}
use Rattle.coin_history.specs.declared.refusal.HistoryRefusal.TheVariants.{NotLink}
use Rattle.coin_history.specs.Checking.{history_of}
use Rattle.wallet_core.specs.declared.notes.Notes.{Notes}
use Rattle.wallet_core.specs.declared.coin_state.CoinState.TheVariants.{Sending, Held}
use Rattle.wallet_core.specs.State.{state_of}
use Rattle.node_rules.specs.declared.identity.WalletIdentity.{WalletIdentity}
use Rattle.node_rules.specs.WalletRecords.{identity_text, is_body, leaves_in, secret_of}
use Rattle.node_rules.specs.Wallet.{WalletRecords, again_answer}
use Rattle.node_rules.specs.WalletOpening.{is_wallet}
use Rattle.operator_rules.specs.Records.{Offered, note_text, notes_of, operator_kinds, identity_text as operator_text}
use Rattle.receipt_audit.specs.declared.promise.Promise.{Promise}
use Rattle.receipt_audit.specs.Promises.{is_promise, promise_at_start, promise_text}
use Rattle.tag_laws.specs.Tags.{tag_named}
use Rattle.tag_laws.specs.Wallets.{AreAlike}

-- the chain's tag, and another chain's
abbrev pub own : List ℕ
own = replicate 32 1

abbrev pub other : List ℕ
other = replicate 32 2

-- to whom coins go, and who deposits
abbrev pub payee : Owner
payee = record { account = 5; key = replicate 56 0 }

abbrev pub depositor : Owner
depositor = record { account = 7; key = replicate 56 0 }

-- ---- journals

-- the transfer of coin 1 from block 1, of a tag
abbrev pub transfer : List ℕ → Body
transfer tag = record { tag = tag; coin = 1; parent = 1; to = payee; last = None }

abbrev pub message : List ℕ → List ℕ
message tag = body_text (transfer tag)

-- the promise of such a transfer, of a tag
abbrev pub promise : List ℕ → Promise
promise tag = record { tag = tag; coin = 1; parent = 1; digest = replicate 32 0; issued = 1; due = 4 }

-- a wallet of the chain, with one leaf that binds a transfer of a tag
abbrev pub identity : WalletIdentity
identity = record { tag = own; account = 7; seed = replicate 32 3; types = record { lms = 5; ots = 4 } }

abbrev pub wallet : List ℕ → WalletRecords
wallet tag = record { notes = identity_text identity ∷ []; leaves = message tag ∷ [] }

-- a desk's records, with one promise of a tag
abbrev pub desk : List ℕ → List (List ℕ)
desk tag = marker ∷ with_number 0 (promise_text (promise tag)) ∷ []

-- an operator's records, which say that a transfer of a tag was offered
abbrev pub offered : List ℕ → List (List ℕ)
offered tag =
    operator_text (record { tag = own; account = 9; key_seed = None }) ∷ note_text (Offered (message tag)) ∷ []

-- A journal with one leaf of another tag opens, as a wallet's and as a desk's; and an operator's doesn't, with an
-- offered transfer of one.
pub record OthersAreOpened : Type 0 where
  pub apart : bytes_eq other own ≡ false
  pub named : tag_named (message other) ≡ other
  pub promised : (promise_at_start (promise_text (promise other))).tag ≡ other
  pub leaves : leaf_records_in_of is_body 32 (spelled (message other ∷ []) ++ 0 ∷ []) ≡ Ok (message other ∷ [])
  pub promises : leaf_records_in_of is_promise 32 (spelled (desk other) ++ 0 ∷ []) ≡ Ok (desk other)
  pub wallets : (dig : List ℕ → List ℕ) → is_wallet dig (wallet other) ≡ true
  pub offers : are_of operator_kinds (offered own) ≡ true
  pub other_offers : are_of operator_kinds (offered other) ≡ false
  pub notes : notes_of (offered own) ≡ Offered (message own) ∷ []

-- ---- wallets

-- what the depositor of coin 1 noted, which is nothing, and the log with the coin
abbrev pub noted : Notes
noted = record { me = depositor; accepted = []; leaving = []; reclaimed = [] }

abbrev pub deposited : List RootCall
deposited = Deposit 7 100 depositor.key ∷ Fund 7 200 ∷ []

-- A leaf of another tag signs the coin away, which is held without it; again gives it out; and the wallet is alike one
-- whose leaf is of its own tag.
pub record OthersCount : Type 0 where
  pub held : state_of noted [] deposited 1 ≡ Held 1
  pub sending : state_of noted (leaves_in (wallet other).leaves) deposited 1 ≡ Sending 1 0
  pub again : again_answer (wallet other) 1
      ≡ Ok (record { q = 0; bytes = message other ++ signature_of (secret_of identity) 0 (message other) })
  pub alike : AreAlike (wallet other) (wallet own)
  pub desks : length (messages_of (desk other)) ≡ length (messages_of (desk own))
  pub desks_marked : is_marked (desk other) ≡ is_marked (desk own)

-- ---- histories and calls

-- tests that every opening and every signature passes
abbrev pub lax : Tests
lax = record { opens = λ root coin opening. true; is_signed = λ tx owner. true }

abbrev pub rules : Rules
rules = record { tag = own; operator = 9; most_blocks = 100 }

-- block 2, and its opening with a transfer of a tag
abbrev pub committed : List RootCall
committed = Fund 5 200 ∷ Commit 9 (replicate 32 0) ∷ deposited

abbrev pub opening : List ℕ → RawOpening
opening tag = record { block = 2; bytes = 0 ∷ 0 ∷ 0 ∷ 116 ∷ message tag }

abbrev pub bundle : List ℕ → Bundle
bundle tag = record { coin = 1; tip = 2; openings = opening tag ∷ [] }

abbrev pub start : List ℕ → RootCall
start tag = StartSpend 5 1 (AtDeposit 1) (opening tag)

-- of the chain's tag it is a history, and starts an exit; of another it is refused for its leaf
pub record OthersAreTold : Type 0 where
  pub history : is_ok (history_of lax rules committed (bundle own)) ≡ true
  pub other_history : history_of lax rules committed (bundle other) ≡ Err (NotLink 2)
  pub accepted : is_accepted (answer_to lax rules committed (start own)) ≡ true
  pub refused : answer_to lax rules committed (start other) ≡ Refused BadOpening
