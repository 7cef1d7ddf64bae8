-- What is in memory of a node's coins.
use Rattle.std.specs.Prelude.{◌≡◌, ℕ, ◌==◌, ◌&&◌, ◌++◌, not, Bool, true, false, List, [], ◌∷◌, drop, map, filter, find, nat_le, if◌then◌else◌, length, slice_get, Option, Some, None, option_map, Result, Ok, Err}
use Rattle.std.specs.Option.{option_map_or}
use Rattle.gate_journal.specs.declared.refusal.JournalRefusal.{JournalRefusal}
use Rattle.gate_journal.specs.declared.refusal.JournalRefusal.TheVariants.{NotJournal, NoMemory}
use Rattle.plasma_tx.specs.declared.call.RootCall.{RootCall}
use Rattle.plasma_tx.specs.declared.call.RootCall.TheVariants.{Deposit, Commit}
use Rattle.plasma_tx.specs.declared.links.Link.{Link}
use Rattle.plasma_tx.specs.Spelling.{has_second_mark, number_at}
use Rattle.plasma_tx.specs.Views.{coin_at}
use Rattle.leaf_journal.specs.Records.{is_marker, messages_of}
use Rattle.coin_safety.specs.declared.kept.Sent.{Sent}
use Rattle.node_rules.specs.declared.kept_coin.KeptCoin.{KeptCoin}
use Rattle.node_rules.specs.KeptCoins.{kept_coin_of}
use Rattle.node_rules.specs.Watcher.{Note, Guarded, Released}
use Rattle.node_rules.specs.WalletRecords.{Note as WalletNote, Accepts, accepted_of, notes_of, leaves_in, note_in as wallet_note_in}
use Rattle.node_rules.specs.Wallet.{WalletRecords, who}
use Rattle.watcher_node.specs.Inside.{with_watched, is_watched_at}
use Rattle.wallet_node.specs.Inside.{is_kept_at}
use Rattle.streamed_lines.specs.declared.ending.Ending.{Ending}
use Rattle.streamed_lines.specs.declared.ending.Ending.TheVariants.{Complete, BadLine, ReadFault, TooLong, Ended}
use Rattle.safe_runs.specs.declared.case.Case.{Case}
use Rattle.safe_runs.specs.Cases.{is_hidden}
use Rattle.safe_runs.specs.declared.guards.Change.{Change}
use Rattle.safe_runs.specs.declared.guards.Change.TheVariants.{Guards, Releases}

-- why an image isn't taken, where no disk fails
abbrev pub only_place : JournalRefusal → JournalRefusal
only_place (NotJournal place) = NotJournal place
only_place why = NoMemory

-- the lines were read to the end of the input
abbrev pub is_complete : Ending (List ℕ) → Bool
is_complete Complete = true
is_complete (BadLine n) = false
is_complete ReadFault = false
is_complete (TooLong n) = false
is_complete (Ended n cause) = false

-- the case of a coin with these links behind its deposit, which was signed away so from there, if it was; guarded,
-- or had
abbrev pub case_with : List RootCall → List ℕ → ℕ → List Link → Option Sent → Bool → Case
case_with log hidden coin spends sent guarded = record {
  coin = coin;
  kept =
      option_map
      (λ made. record {
        links = record { coin = coin; deposit = made.deposit; owner = made.owner; spends = spends };
        sent = sent;
        guarded = guarded;
        hidden = is_hidden hidden coin;
      })
      (coin_at log coin);
}

-- ---- a watcher

-- a note as it is read
abbrev pub change_of : List ℕ → Note → Change
change_of tag (Guarded kept) = Guards (kept_coin_of tag kept)
change_of tag (Released coin tip) = Releases coin tip

-- what a change leaves
abbrev pub changed : Change → List KeptCoin → List KeptCoin
changed (Guards watched) all = with_watched watched all
changed (Releases coin tip) all = filter (λ watched. not (is_watched_at coin tip watched)) all

-- what a record leaves that spells a change, or none
abbrev pub changed_by : Option Change → List KeptCoin → List KeptCoin
changed_by None all = all
changed_by (Some change) all = changed change all

-- ---- a wallet

-- the kept coin of a note that accepts one
abbrev pub accepted_by : List ℕ → Option WalletNote → Option KeptCoin
accepted_by tag (Some (Accepts kept)) = Some (kept_coin_of tag kept)
accepted_by tag _ = None

-- the coins that the wallet accepted, as they stand in memory
abbrev pub accepted_in : (List ℕ → List ℕ) → WalletRecords → List KeptCoin
accepted_in dig wallet = map (kept_coin_of (who wallet).tag) (accepted_of (notes_of dig wallet.notes))

-- the last block of the transfer that a leaf's message spells, if it names one
abbrev pub last_in : List ℕ → Option ℕ
last_in message =
    if has_second_mark message && nat_le 124 (length message) then Some (number_at message 116) else None

-- the last blocks of the transfers that leaves bind, by their numbers
abbrev pub lasts_in : List (List ℕ) → List (Option ℕ)
lasts_in leaves = map last_in (messages_of leaves)

-- that which one record adds, behind the marker or before it
abbrev pub lasts_of : Bool → List ℕ → List (Option ℕ)
lasts_of true body = last_in (drop 4 body) ∷ []
lasts_of false body = if is_marker body then [] else last_in body ∷ []

-- the last block of the transfer of leaf q
abbrev pub last_at : List (Option ℕ) → ℕ → Option ℕ
last_at lasts q = option_map_or (λ last. last) (slice_get lasts q) None

-- what was read of a wallet's records: the coins that it accepted, and of its leaves the last blocks
pub record AreRead (dig : List ℕ → List ℕ) (wallet : WalletRecords) (accepted : List KeptCoin)
    (lasts : List (Option ℕ)) : Type 0 where
  pub accepted_are : accepted ≡ accepted_in dig wallet
  pub lasts_are : lasts ≡ map (λ leaf. leaf.body.last) (leaves_in wallet.leaves)

-- the call makes a block
abbrev pub makes_block : RootCall → Bool
makes_block (Deposit account amount key) = true
makes_block (Commit account root) = true
makes_block call = false

-- the links of a coin up to a tip that is kept; none where it isn't
abbrev pub spends_of : List KeptCoin → ℕ → ℕ → List Link
spends_of accepted coin tip = option_map_or (λ kept. kept.spends) (find (is_kept_at coin tip) accepted) []
