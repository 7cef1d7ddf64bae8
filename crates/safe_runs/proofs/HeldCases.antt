-- What a wallet accepted, and what a coin is to it by the calls that make blocks.
use Rattle.std.proofs.Common.{◌≡◌, ◌<◌, ◌+◌, ◌==◌, ◌||◌, ℕ, Bool, true, false, if◌then◌else◌, List, [], ◌∷◌, ◌++◌, length, take, get_or, map, filter, reverse, Option, None, Some, refl, sym, ◌∙◌, ap, append-nil, append_assoc}
use Rattle.std.specs.Prelude.{is_none, drop, option_map}
use Rattle.std.specs.List.{filter_map}
use Rattle.std.specs.Option.{option_map_or}
use Rattle.std.proofs.lemmas.List.{reverse-append, reverse-reverse, take_more}
use Rattle.std.proofs.lemmas.List.Elements.{filter-append}
use Rattle.plasma_tx.specs.declared.call.RootCall.{RootCall}
use Rattle.plasma_tx.specs.declared.call.RootCall.TheVariants.{Fund, Tick, Deposit, Commit, StartDeposit, StartSpend, After, Between, Before, Respond, Finish}
use Rattle.plasma_tx.specs.declared.links.Link.{Link}
use Rattle.plasma_tx.specs.declared.views.CoinView.{CoinView}
use Rattle.plasma_tx.specs.Views.{blocks, coins, coin_at, deposits_of, is_withdrawn}
use Rattle.wallet_core.specs.declared.coin_state.CoinState.{CoinState}
use Rattle.wallet_core.specs.declared.coin_state.CoinState.TheVariants.{Nothing, Sending, Leaving, Held}
use Rattle.wallet_core.specs.declared.notes.LeafRecord.{LeafRecord}
use Rattle.wallet_core.specs.declared.notes.Notes.{Notes}
use Rattle.wallet_core.specs.State.{tips_of, greatest, sending_leaf, is_noted, state_at, state_by, state_of}
use Rattle.coin_history.specs.declared.bundle.Bundle.{Bundle}
use Rattle.node_rules.specs.declared.kept_coin.KeptCoin.{KeptCoin}
use Rattle.node_rules.specs.KeptCoins.{kept_coin_of}
use Rattle.node_rules.specs.WalletRecords.{Note, Accepts, LeavesWith, Reclaims, accepted_of, leaves_in, note_in, notes_of, owner_of}
use Rattle.node_rules.specs.Wallet.{WalletRecords, who, noted, links_at, coin_state}
use Rattle.wallet_node.proofs.Spends.{links-are, spends-kept}
use Rattle.coin_safety.specs.declared.kept.Kept.{Kept}
use Rattle.coin_safety.specs.declared.kept.Sent.{Sent}
use Rattle.safe_runs.specs.declared.case.Case.{Case}
use Rattle.safe_runs.specs.Cases.{sent_by, is_hidden, coins_of, kept_at_tip, rising_with, wallet_case}
use Rattle.safe_runs.specs.Inside.{accepted_by, accepted_in, case_with, makes_block, spends_of}

-- ---- what was accepted

accepted-append : (front back : List Note) → accepted_of (front ++ back) ≡ accepted_of back ++ accepted_of front
unfolding accepted_of
accepted-append [] back = sym (append-nil (accepted_of back))
accepted-append (Accepts kept ∷ front) back =
    ap (λ (all : List Bundle). all ++ kept ∷ []) (accepted-append front back)
    ∙ append_assoc (accepted_of back) (accepted_of front) (kept ∷ [])
accepted-append (LeavesWith coin tip ∷ front) back = accepted-append front back
accepted-append (Reclaims coin tip q ∷ front) back = accepted-append front back

module _ (dig : List ℕ → List ℕ) (tag : List ℕ) where
  -- as it stands in memory
  abbrev read : List ℕ → Option KeptCoin
  read body = accepted_by tag (note_in dig tag body)

  abbrev all_of : List Note → List KeptCoin
  all_of notes = map (kept_coin_of tag) (accepted_of notes)

  map-behind : (kept : Bundle) (all : List Bundle)
      → map (kept_coin_of tag) (kept ∷ [] ++ all) ≡ kept_coin_of tag kept ∷ map (kept_coin_of tag) all
  map-behind kept all = refl

  one-more : (note : Note) (notes : List Note)
      → accepted_of (reverse (note ∷ notes)) ≡ accepted_of (note ∷ []) ++ accepted_of (reverse notes)
  one-more note notes =
      ap accepted_of (reverse-append (note ∷ []) notes) ∙ accepted-append (reverse notes) (note ∷ [])

  pub accepted-read : (bodies : List (List ℕ))
      → filter_map read bodies ≡ all_of (reverse (filter_map (note_in dig tag) bodies))
  unfolding accepted_of
  accepted-read [] = refl
  accepted-read (body ∷ bodies) = at (accepted-read bodies) (note_in dig tag body) refl
    where
      at : filter_map read bodies ≡ all_of (reverse (filter_map (note_in dig tag) bodies)) → (note : Option Note)
          → note_in dig tag body ≡ note
          → filter_map read (body ∷ bodies) ≡ all_of (reverse (filter_map (note_in dig tag) (body ∷ bodies)))
      at rest None is = rw is rest
      at rest (Some (Accepts kept)) is =
          rw is
          (ap (λ (all : List KeptCoin). kept_coin_of tag kept ∷ all) rest
          ∙ sym (ap (map (kept_coin_of tag)) (one-more (Accepts kept) (filter_map (note_in dig tag) bodies))))
      at rest (Some (LeavesWith coin tip)) is =
          rw is
          (rest
          ∙ sym (ap (map (kept_coin_of tag)) (one-more (LeavesWith coin tip) (filter_map (note_in dig tag) bodies))))
      at rest (Some (Reclaims coin tip q)) is =
          rw is
          (rest
          ∙ sym (ap (map (kept_coin_of tag)) (one-more (Reclaims coin tip q) (filter_map (note_in dig tag) bodies))))

pub accepted-are : (dig : List ℕ → List ℕ) (wallet : WalletRecords)
    → filter_map (λ note. accepted_by (who wallet).tag (note_in dig (who wallet).tag note)) (drop 1 wallet.notes)
    ≡ accepted_in dig wallet
unfolding notes_of
accepted-are dig wallet = accepted-read dig (who wallet).tag (drop 1 wallet.notes)

-- ---- the calls that make blocks

abbrev made : List RootCall → List RootCall
made log = filter makes_block log

blocks-made : (log : List RootCall) → blocks (made log) ≡ blocks log
unfolding blocks
blocks-made [] = refl
blocks-made (Fund account amount ∷ log) = blocks-made log
blocks-made (Tick time ∷ log) = blocks-made log
blocks-made (Deposit account amount key ∷ log) = ap (λ (n : ℕ). n + 1) (blocks-made log)
blocks-made (Commit account root ∷ log) = ap (λ (n : ℕ). n + 1) (blocks-made log)
blocks-made (StartDeposit account coin block ∷ log) = blocks-made log
blocks-made (StartSpend account coin parent exit ∷ log) = blocks-made log
blocks-made (After account coin exit spend ∷ log) = blocks-made log
blocks-made (Between account coin exit spend ∷ log) = blocks-made log
blocks-made (Before account coin exit shown ∷ log) = blocks-made log
blocks-made (Respond account coin exit challenged spend ∷ log) = blocks-made log
blocks-made (Finish account coin exit ∷ log) = blocks-made log

coins-made : (log : List RootCall) → coins (made log) ≡ coins log
unfolding coins
coins-made [] = refl
coins-made (Fund account amount ∷ log) = coins-made log
coins-made (Tick time ∷ log) = coins-made log
coins-made (Deposit account amount key ∷ log) = ap (λ (n : ℕ). n + 1) (coins-made log)
coins-made (Commit account root ∷ log) = coins-made log
coins-made (StartDeposit account coin block ∷ log) = coins-made log
coins-made (StartSpend account coin parent exit ∷ log) = coins-made log
coins-made (After account coin exit spend ∷ log) = coins-made log
coins-made (Between account coin exit spend ∷ log) = coins-made log
coins-made (Before account coin exit shown ∷ log) = coins-made log
coins-made (Respond account coin exit challenged spend ∷ log) = coins-made log
coins-made (Finish account coin exit ∷ log) = coins-made log

coin-made : (log : List RootCall) (c : ℕ) → coin_at (made log) c ≡ coin_at log c
unfolding coin_at
coin-made [] c = refl
coin-made (Fund account amount ∷ log) c = coin-made log c
coin-made (Tick time ∷ log) c = coin-made log c
coin-made (Deposit account amount key ∷ log) c = rw (coins-made log, blocks-made log, coin-made log c) refl
coin-made (Commit account root ∷ log) c = coin-made log c
coin-made (StartDeposit account coin block ∷ log) c = coin-made log c
coin-made (StartSpend account coin parent exit ∷ log) c = coin-made log c
coin-made (After account coin exit spend ∷ log) c = coin-made log c
coin-made (Between account coin exit spend ∷ log) c = coin-made log c
coin-made (Before account coin exit shown ∷ log) c = coin-made log c
coin-made (Respond account coin exit challenged spend ∷ log) c = coin-made log c
coin-made (Finish account coin exit ∷ log) c = coin-made log c

none-withdrawn : (log : List RootCall) (c : ℕ) → is_withdrawn (made log) c ≡ false
unfolding is_withdrawn
none-withdrawn [] c = refl
none-withdrawn (Fund account amount ∷ log) c = none-withdrawn log c
none-withdrawn (Tick time ∷ log) c = none-withdrawn log c
none-withdrawn (Deposit account amount key ∷ log) c = none-withdrawn log c
none-withdrawn (Commit account root ∷ log) c = none-withdrawn log c
none-withdrawn (StartDeposit account coin block ∷ log) c = none-withdrawn log c
none-withdrawn (StartSpend account coin parent exit ∷ log) c = none-withdrawn log c
none-withdrawn (After account coin exit spend ∷ log) c = none-withdrawn log c
none-withdrawn (Between account coin exit spend ∷ log) c = none-withdrawn log c
none-withdrawn (Before account coin exit shown ∷ log) c = none-withdrawn log c
none-withdrawn (Respond account coin exit challenged spend ∷ log) c = none-withdrawn log c
none-withdrawn (Finish account coin exit ∷ log) c = none-withdrawn log c

-- what a coin of the log is to a wallet by these calls
state-made : (notes : Notes) (leaves : List LeafRecord) (log : List RootCall) (c : ℕ) → is_none (coin_at log c) ≡ false
    → state_of notes leaves (made log) c ≡ state_by notes leaves c (greatest (tips_of notes log c))
unfolding state_of
state-made notes leaves log c there = rw (coin-made log c, none-withdrawn log c, there) refl

-- one more call that was followed
pub made-more : (events : List RootCall) (i : ℕ) (call : RootCall) → i < length events → call ≡ get_or events i call
    → made (call ∷ []) ++ made (reverse (take i events)) ≡ made (reverse (take (i + 1) events))
made-more events i call less is =
    sym (filter-append makes_block (call ∷ []) (reverse (take i events)))
    ∙ ap made
    (sym (reverse-append (take i events) (call ∷ []))
    ∙ ap (λ (c : RootCall). reverse (take i events ++ c ∷ [])) is
    ∙ ap reverse (sym (take_more events i call less)))

-- ---- the case of a coin

module _ (dig : List ℕ → List ℕ) (wallet : WalletRecords) (log : List RootCall) (hidden : List ℕ) (coin : ℕ) where
  abbrev with : ℕ → Option Sent → Case
  with tip sent = case_with log hidden coin (spends_of (accepted_in dig wallet) coin tip) sent false

  -- what is said of a coin that is this to the wallet
  abbrev said : CoinState → Option Case
  said Nothing = None
  said (Sending tip q) = Some (with tip (sent_by (leaves_in wallet.leaves) (Some q)))
  said (Leaving tip) = Some (with tip None)
  said (Held tip) = Some (with tip None)

  some-coin : (found : Option CoinView) → is_none found ≡ false → (made : CoinView) × (found ≡ Some made)
  some-coin None wrong = absurd (cc)
  some-coin (Some made) there = (made, refl)

  kept-at : (tip : ℕ) (sent : Option Sent) → is_none (coin_at log coin) ≡ false
      → option_map
      (λ links. record { links = links; sent = sent; guarded = false; hidden = is_hidden hidden coin })
      (links_at dig wallet log coin tip)
      ≡ (with tip sent).kept
  kept-at tip sent there =
      let found = some-coin (coin_at log coin) there in
      let links = links-are dig wallet log coin tip found.0 found.1 in
      ap (option_map (λ links. record {
        links = links;
        sent = sent;
        guarded = false;
        hidden = is_hidden hidden coin;
      })) links
      ∙ ap (λ (spends : List Link). Some (record {
        links = record { coin = coin; deposit = found.0.deposit; owner = found.0.owner; spends = spends };
        sent = sent;
        guarded = false;
        hidden = is_hidden hidden coin;
      })) (sym (spends-kept (who wallet).tag coin tip (accepted_of (notes_of dig wallet.notes))))
      ∙ sym (ap (option_map (λ (made : CoinView). record {
        links = record {
          coin = coin;
          deposit = made.deposit;
          owner = made.owner;
          spends = spends_of (accepted_in dig wallet) coin tip;
        };
        sent = sent;
        guarded = false;
        hidden = is_hidden hidden coin;
      })) found.1)

  by-leaf : (tip : ℕ) (leaf : Option ℕ) → is_none (coin_at log coin) ≡ false
      → Some (with tip (sent_by (leaves_in wallet.leaves) leaf)) ≡ said (state_at (noted dig wallet) coin tip leaf)
  by-leaf tip (Some q) there = refl
  by-leaf tip None there = elim (is_noted coin tip (noted dig wallet).leaving) as (λ b.
      Some (with tip None) ≡ said (if b then Leaving tip else Held tip)) [
        | true ↦ refl
        | false ↦ refl
      ]

  by-tip : (tip : Option ℕ) → is_none (coin_at log coin) ≡ false
      → option_map (λ t. record { coin = coin; kept = kept_at_tip dig wallet log hidden coin t }) tip
      ≡ said (state_by (noted dig wallet) (leaves_in wallet.leaves) coin tip)
  by-tip None there = refl
  by-tip (Some tip) there =
      let leaf = sending_leaf (noted dig wallet).reclaimed (leaves_in wallet.leaves) coin tip in
      ap (λ (kept : Option Kept). Some (record { coin = coin; kept = kept }))
      (kept-at tip (sent_by (leaves_in wallet.leaves) leaf) there)
      ∙ by-leaf tip leaf there

  pub case-said : is_none (coin_at log coin) ≡ false
      → wallet_case dig wallet log hidden coin ≡ said (coin_state dig wallet (made log) coin)
  unfolding coin_state
  case-said there =
      rw there
      (by-tip (greatest (tips_of (noted dig wallet) log coin)) there
      ∙ ap said (sym (state-made (noted dig wallet) (leaves_in wallet.leaves) log coin there)))

  -- by what it is to the wallet
  pub case-is : (state : CoinState) → is_none (coin_at log coin) ≡ false
      → state ≡ coin_state dig wallet (made log) coin → said state ≡ wallet_case dig wallet log hidden coin
  case-is state there is = ap said is ∙ sym (case-said there)

-- ---- all coins

coins-same : (tag : List ℕ) (all : List Bundle)
    → map (λ (kept : KeptCoin). kept.coin) (map (kept_coin_of tag) all) ≡ map (λ (kept : Bundle). kept.coin) all
coins-same tag [] = refl
coins-same tag (kept ∷ all) = ap (λ (coins : List ℕ). kept.coin ∷ coins) (coins-same tag all)

pub coins-are : (dig : List ℕ → List ℕ) (wallet : WalletRecords) (log : List RootCall) (accepted : List KeptCoin)
    → accepted ≡ accepted_in dig wallet
    → rising_with [] (map (λ (kept : KeptCoin). kept.coin) accepted ++ deposits_of log (who wallet).account)
    ≡ coins_of dig wallet log
coins-are dig wallet log accepted is =
    ap (λ (coins : List ℕ). rising_with [] (coins ++ deposits_of log (who wallet).account))
    (ap (map (λ (kept : KeptCoin). kept.coin)) is
    ∙ coins-same (who wallet).tag (accepted_of (notes_of dig wallet.notes)))

pub account-is : (wallet : WalletRecords) → (owner_of (who wallet)).account ≡ (who wallet).account
unfolding owner_of
account-is wallet = refl

pub case-unmade : (dig : List ℕ → List ℕ) (wallet : WalletRecords) (log : List RootCall) (hidden : List ℕ) (coin : ℕ)
    → is_none (coin_at log coin) ≡ true
    → Some (record { coin = coin; kept = None }) ≡ wallet_case dig wallet log hidden coin
case-unmade dig wallet log hidden coin none = rw none refl
