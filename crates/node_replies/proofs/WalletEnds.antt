-- How a wallet's commands end: each is refused, or answered with what it adds.
use Rattle.node_replies.proofs.Names.{◌≡◌, ℕ, Bool, true, false, if◌then◌else◌, List, Option, Some, None, Ok, Err, refl, nat_lt, arith, Result, common_steps, Owner, Links, RootCall, Bundle, bundle_in, kept_of, links_handed, standing_block, tests_by}
use Rattle.plasma_tx.specs.Links.{tip_of, last_owner_of}
use Rattle.coin_history.specs.declared.refusal.HistoryRefusal.{HistoryRefusal}
use Rattle.wallet_core.specs.declared.notes.Notes.{Notes}
use Rattle.wallet_core.specs.declared.coin_state.CoinState.{CoinState}
use Rattle.wallet_core.specs.declared.coin_state.CoinState.TheVariants.{Sending, Leaving, Held}
use Rattle.wallet_core.specs.State.{is_owner}
use Rattle.node_rules.specs.declared.answers.Accepted.{Accepted}
use Rattle.node_rules.specs.declared.answers.Sent.{Sent}
use Rattle.node_rules.specs.declared.answers.Reclaimed.{Reclaimed}
use Rattle.node_rules.specs.declared.refusal.WalletRefusal.{WalletRefusal}
use Rattle.node_rules.specs.declared.refusal.WalletRefusal.TheVariants.{History, NotHeld, NotSending, NoLast, NotYet, Leaving as LeavingCoin}
use Rattle.node_rules.specs.WalletRecords.{Accepts, Reclaims, note_text, leaves_in}
use Rattle.node_rules.specs.Wallet.{WalletRecords, WalletEffect, answers, notes_it, unless, who, noted, coin_state, accept_causes, is_known, accept_by, accept_effect, send_causes, send_body, send_from, send_effect, last_of, reclaim_shown, reclaim_last, reclaim_from, reclaim_by, reclaim_effect, standing_causes}
use Rattle.node_rules.specs.WalletCommandLaws.{sent_body}
use Rattle.node_journal.specs.Effect.{first_cause}
use Rattle.coin_history.specs.Checking.{absence_of}
use Rattle.plasma_tx.specs.Views.{blocks}

-- ---- accept

abbrev taken_of : Links → Accepted
taken_of links = record { coin = links.coin; tip = tip_of links }

-- an accept is refused, or its links are the wallet's: these are known, or are noted
pub data AcceptEnds (dig : List ℕ → List ℕ) (wallet : WalletRecords) (log : List RootCall) (bytes : List ℕ)
    (effect : WalletEffect (Result Accepted WalletRefusal)) : Type 0 where
  Refused : (why : WalletRefusal) → effect ≡ answers (Err why) → AcceptEnds dig wallet log bytes effect
  Known : (links : Links) → links_handed dig (who wallet).tag log bytes ≡ Ok links
      → is_owner (last_owner_of links) (noted dig wallet).me ≡ true → is_known (noted dig wallet) links ≡ true
      → effect ≡ answers (Ok (taken_of links)) → AcceptEnds dig wallet log bytes effect
  New : (links : Links) → links_handed dig (who wallet).tag log bytes ≡ Ok links
      → effect ≡ notes_it (Ok (taken_of links)) (note_text (Accepts (kept_of links)))
      → AcceptEnds dig wallet log bytes effect

pub accept_ends : (dig : List ℕ → List ℕ) (wallet : WalletRecords) (log : List RootCall) (bytes : List ℕ)
    → AcceptEnds dig wallet log bytes (accept_effect dig wallet log bytes)
unfolding accept_effect
accept_ends dig wallet log bytes = at (links_handed dig (who wallet).tag log bytes) refl
  where
    notes : Notes
    notes = noted dig wallet

    by : (links : Links) → links_handed dig (who wallet).tag log bytes ≡ Ok links
        → (mine : Bool) → is_owner (last_owner_of links) notes.me ≡ mine
        → (failed : Option WalletRefusal)
        → first_cause (accept_causes notes.me log links) ≡ failed
        → (known : Bool) → is_known notes links ≡ known
        → AcceptEnds dig wallet log bytes
        (unless failed (if known then answers (Ok (taken_of links))
        else notes_it (Ok (taken_of links)) (note_text (Accepts (kept_of links)))))
    by links handed mine mine_is (Some why) failed_is known known_is = Refused why refl
    by links handed true mine_is None failed_is true known_is = Known links handed mine_is known_is refl
    by links handed true mine_is None failed_is false known_is = New links handed refl
    by links handed false mine_is None failed_is known known_is = grind (arith, common_steps) steps 20000

    at : (handed : Result Links HistoryRefusal) → links_handed dig (who wallet).tag log bytes ≡ handed
        → AcceptEnds dig wallet log bytes (accept_by log notes handed)
    at (Err why) handed = Refused (History why) refl
    at (Ok links) handed =
        by links handed (is_owner (last_owner_of links) notes.me) refl
        (first_cause (accept_causes notes.me log links)) refl (is_known notes links) refl

-- ---- send

-- a send is refused, or binds the transfer from the tip
pub data SendEnds (dig : List ℕ → List ℕ) (wallet : WalletRecords) (log : List RootCall) (coin : ℕ) (to : Owner)
    (last : Option ℕ) (effect : WalletEffect (Result Sent WalletRefusal)) : Type 0 where
  Refused : (why : WalletRefusal) → effect ≡ answers (Err why) → SendEnds dig wallet log coin to last effect
  Sends : (tip : ℕ) → coin_state dig wallet log coin ≡ Held tip
      → effect ≡ send_body wallet (sent_body wallet coin tip to last)
      → SendEnds dig wallet log coin to last effect

pub send_ends : (dig : List ℕ → List ℕ) (wallet : WalletRecords) (log : List RootCall) (coin : ℕ) (to : Owner)
    (last : Option ℕ) → SendEnds dig wallet log coin to last (send_effect dig wallet log coin to last)
unfolding send_effect
send_ends dig wallet log coin to last = at (coin_state dig wallet log coin) refl
  where
    by : (tip : ℕ) → coin_state dig wallet log coin ≡ Held tip → (failed : Option WalletRefusal)
        → SendEnds dig wallet log coin to last
        (unless failed (send_body wallet (sent_body wallet coin tip to last)))
    by tip held None = Sends tip held refl
    by tip held (Some why) = Refused why refl

    at : (state : CoinState) → coin_state dig wallet log coin ≡ state
        → SendEnds dig wallet log coin to last (send_from wallet log coin to last state)
    at (Leaving tip) is = Refused LeavingCoin refl
    at (Held tip) is = by tip is (first_cause (send_causes wallet log last))
    at state is = Refused NotHeld refl

-- ---- reclaim

-- a reclaim is refused, or notes what it takes back
pub data ReclaimEnds (effect : WalletEffect (Result Reclaimed WalletRefusal)) : Type 0 where
  Refused : (why : WalletRefusal) → effect ≡ answers (Err why) → ReclaimEnds effect
  Takes : (taken : Reclaimed)
      → effect ≡ notes_it (Ok taken) (note_text (Reclaims taken.coin taken.tip taken.q)) → ReclaimEnds effect

pub reclaim_ends : (dig : List ℕ → List ℕ) (wallet : WalletRecords) (log : List RootCall) (bytes : List ℕ)
    → ReclaimEnds (reclaim_effect dig wallet log bytes)
unfolding reclaim_effect
reclaim_ends dig wallet log bytes = at (bundle_in bytes)
  where
    standing : (taken : Reclaimed) (failed : Option WalletRefusal)
        → ReclaimEnds (unless failed (notes_it (Ok taken) (note_text (Reclaims taken.coin taken.tip taken.q))))
    standing taken None = Takes taken refl
    standing taken (Some why) = Refused why refl

    shown : (taken : Reclaimed) (absent : Result Unit HistoryRefusal)
        → ReclaimEnds (reclaim_shown log taken absent)
    shown taken (Err why) = Refused (History why) refl
    shown taken (Ok done) = standing taken (first_cause (standing_causes (standing_block log taken.coin)))

    late : (bundle : Bundle) (taken : Reclaimed) (last : ℕ) (b : Bool)
        → ReclaimEnds (if b then answers (Err (NotYet last))
        else reclaim_shown log taken (absence_of (tests_by dig) log taken.tip last bundle))
    late bundle taken last true = Refused (NotYet last) refl
    late bundle taken last false = shown taken (absence_of (tests_by dig) log taken.tip last bundle)

    last_is : (bundle : Bundle) (taken : Reclaimed) (last : Option ℕ)
        → ReclaimEnds (reclaim_last dig log bundle taken last)
    last_is bundle taken None = Refused NoLast refl
    last_is bundle taken (Some last) = late bundle taken last (nat_lt (blocks log) last)

    by : (bundle : Bundle) (state : CoinState) → ReclaimEnds (reclaim_from dig wallet log bundle state)
    by bundle (Sending tip q) =
        last_is bundle (record { coin = bundle.coin; tip = tip; q = q }) (last_of (leaves_in wallet.leaves) q)
    by bundle state = Refused NotSending refl

    at : (read : Result Bundle HistoryRefusal) → ReclaimEnds (reclaim_by dig wallet log read)
    at (Err why) = Refused (History why) refl
    at (Ok bundle) = by bundle (coin_state dig wallet log bundle.coin)
