-- What a node's command is answered in a run of its own, as text, and what it adds to the node's records.
use Rattle.std.specs.Prelude.{◌≡◌, ◌⊎◌, ℕ, List, [], ◌∷◌, ◌++◌, codes, Option, Some, None, Result, Ok, Err}
use Rattle.std.specs.List.{flat_map}
use Rattle.plasma_base.specs.HexText.{hex_text}
use Rattle.plasma_tx.specs.declared.call.RootCall.{RootCall}
use Rattle.plasma_tx.specs.Spelling.{owner_text}
use Rattle.root_log.specs.Grammar.{call_text}
use Rattle.wallet_core.specs.declared.coin_state.CoinState.{CoinState}
use Rattle.wallet_core.specs.declared.coin_state.CoinState.TheVariants.{Nothing, Sending, Leaving, Held}
use Rattle.node_rules.specs.Wallet.{WalletRecords, who, coin_state}
use Rattle.node_rules.specs.WalletRecords.{owner_of}
use Rattle.node_replies.specs.declared.reply.Reply.{Reply}
use Rattle.node_replies.specs.Causes.{phrase}
use Rattle.node_replies.specs.Orders.{Response, Doing, wallet_does, watcher_does, operator_does}
use Rattle.node_replies.specs.Texts.{reply_text}
use Rattle.node_replies.specs.declared.order.WatcherOrder.{WatcherOrder}
use Rattle.node_lines.specs.declared.wallet_line.WalletLine.{WalletLine}
use Rattle.node_lines.specs.declared.operator_line.OperatorLine.{OperatorLine}
use Rattle.node_journal.specs.declared.stop.Stop.{Stop}
use Rattle.node_journal.specs.declared.stop.Stop.TheVariants.{NoMemory}
use Rattle.node_sessions.specs.declared.said.Said.{Said}
use Rattle.node_sessions.specs.declared.said.Said.TheVariants.{Answered, Refused}

-- ---- what is given out, as text; 10 is the line feed

-- the bytes that a command makes, as a hex on a line of its own
abbrev pub made_text : List ℕ → List ℕ
made_text [] = []
made_text (byte ∷ bytes) = hex_text (byte ∷ bytes) ++ 10 ∷ []

-- an offered call, as a line of a log
abbrev pub offer_text : RootCall → List ℕ
offer_text call = call_text call ++ 10 ∷ []

-- the answer, what is made, and what is offered
unfoldable pub given_text : Response → List ℕ
given_text response =
    (reply_text response.reply ++ 10 ∷ []) ++ made_text response.made ++ flat_map offer_text response.offers

-- what a coin is to a wallet
abbrev pub state_words : CoinState → List ℕ
state_words Nothing = codes "nothing"
state_words (Held tip) = phrase (codes "held") (tip ∷ [])
state_words (Sending tip q) = phrase (codes "sending") (tip ∷ q ∷ [])
state_words (Leaving tip) = phrase (codes "leaving") (tip ∷ [])

-- ---- what a command comes to

-- the text of its answer, or the cause for which it is refused
abbrev pub said_by : Reply → List ℕ → Result (List ℕ) (List ℕ)
said_by (Reply.Refused cause) text = Err cause
said_by reply text = Ok text

abbrev pub said : Response → Result (List ℕ) (List ℕ)
said response = said_by response.reply (given_text response)

-- its answer, and the record that it adds to the node's notes, or to its leaves
pub record Outcome : Type 0 where
  pub says : Result (List ℕ) (List ℕ)
  pub note : Option (List ℕ)
  pub leaf : Option (List ℕ)

abbrev pub outcome_of : Doing → Outcome
outcome_of doing = record { says = said doing.response; note = doing.note; leaf = doing.leaf }

-- a text that tells of the node, and adds nothing
abbrev pub tells : List ℕ → Outcome
tells words = record { says = Ok (words ++ 10 ∷ []); note = None; leaf = None }

-- a refusal for this cause, which adds nothing
abbrev pub refuses : List ℕ → Outcome
refuses cause = record { says = Err cause; note = None; leaf = None }

-- what a wallet's command comes to by its records, behind this log
unfoldable pub wallet_outcome : (List ℕ → List ℕ) → List RootCall → WalletRecords → WalletLine → Outcome
wallet_outcome dig log wallet (WalletLine.Order order) = outcome_of (wallet_does dig log wallet order)
wallet_outcome dig log wallet (WalletLine.State coin) = tells (state_words (coin_state dig wallet log coin))
wallet_outcome dig log wallet WalletLine.Who = tells (hex_text (owner_text (owner_of (who wallet))))

-- what a watcher's comes to
unfoldable pub watcher_outcome : (List ℕ → List ℕ) → List RootCall → List (List ℕ) → WatcherOrder → Outcome
watcher_outcome dig log notes order = outcome_of (watcher_does dig log notes order)

-- what an operator's comes to that has no key: neither a receipt nor a migration is to be had there
unfoldable pub operator_outcome : (List ℕ → List ℕ) → List RootCall → List (List ℕ) → OperatorLine → Outcome
operator_outcome dig log notes (OperatorLine.Order order) = outcome_of (operator_does dig log notes order)
operator_outcome dig log notes line = refuses (codes "no-key")

-- ---- answering

-- a command that comes to this was answered so, behind the text
abbrev pub IsSaid : Result (List ℕ) (List ℕ) → Said → List ℕ → List ℕ → Type 0
IsSaid says Answered before after = (text : List ℕ) × (says ≡ Ok text) × (after ≡ before ++ text)
IsSaid says (Refused cause) before after = (says ≡ Err cause) × (after ≡ before)

-- what stopped the node in a command that was answered so: nothing where there is an answer; where memory ran out the
-- command may have been done before
abbrev pub StopsIn : Result Said Stop → Option Stop → Type 0
StopsIn (Ok told) stop = stop ≡ None
StopsIn (Err NoMemory) stop = (stop ≡ None) ⊎ (stop ≡ Some NoMemory)
StopsIn (Err why) stop = stop ≡ Some why
