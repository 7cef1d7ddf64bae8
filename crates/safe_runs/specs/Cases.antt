-- What a node keeps of each coin that it ever had, or guards.
use Rattle.std.specs.Prelude.{ℕ, ◌==◌, Bool, true, false, if◌then◌else◌, List, [], ◌∷◌, ◌++◌, map, Option, Some, None, is_none}
use Rattle.std.specs.List.{flat_map, list_any}
use Rattle.std.specs.Option.{option_map, option_to_list}
use Rattle.std.specs.Ordering.{nat_cmp}
use Rattle.std.specs.BTreeSet.{insert_key}
use Rattle.plasma_tx.specs.declared.call.RootCall.{RootCall}
use Rattle.plasma_tx.specs.Views.{coin_at, deposits_of}
use Rattle.coin_history.specs.declared.bundle.Bundle.{Bundle}
use Rattle.wallet_core.specs.declared.notes.LeafRecord.{LeafRecord}
use Rattle.wallet_core.specs.State.{tips_of, greatest, sending_leaf}
use Rattle.node_rules.specs.Kept.{kept_links}
use Rattle.node_rules.specs.Watcher.{guards_in, who_is}
use Rattle.node_rules.specs.WalletRecords.{accepted_of, notes_of, leaves_in}
use Rattle.node_rules.specs.Wallet.{WalletRecords, who, noted, links_at, last_of}
use Rattle.coin_safety.specs.declared.kept.Kept.{Kept}
use Rattle.coin_safety.specs.declared.kept.Sent.{Sent}
use Rattle.safe_runs.specs.declared.case.Case.{Case}

-- of these leaves that which signed a coin away, if one did, and the last block of its transfer, if it names one
abbrev pub sent_by : List LeafRecord → Option ℕ → Option Sent
sent_by leaves leaf = option_map (λ q. record { leaf = q; last = last_of leaves q }) leaf

-- the coin is one of these, of which the operator didn't show a block when it was asked
abbrev pub is_hidden : List ℕ → ℕ → Bool
is_hidden hidden coin = list_any (λ other. other == coin) hidden

-- ---- a watcher

-- a guard: its links, where the log has its coin
abbrev pub guard_case : List ℕ → List RootCall → List ℕ → Bundle → Case
guard_case tag log hidden guard = record {
  coin = guard.coin;
  kept =
      option_map
      (λ links. record { links = links; sent = None; guarded = true; hidden = is_hidden hidden guard.coin })
      (kept_links tag log guard);
}

-- the guards, in the order of coins and tips
abbrev pub guard_cases : (List ℕ → List ℕ) → List (List ℕ) → List RootCall → List ℕ → List Case
guard_cases dig records log hidden = map (guard_case (who_is records).tag log hidden) (guards_in dig records)

-- ---- a wallet

-- the numbers, rising and each once, with these before
unfoldable pub rising_with : List ℕ → List ℕ → List ℕ
rising_with before [] = before
rising_with before (number ∷ numbers) = rising_with (insert_key nat_cmp before number) numbers

-- the coins that the wallet accepted or its account deposited, rising
abbrev pub coins_of : (List ℕ → List ℕ) → WalletRecords → List RootCall → List ℕ
coins_of dig wallet log =
    rising_with []
    (map (λ kept. kept.coin) (accepted_of (notes_of dig wallet.notes)) ++ deposits_of log (who wallet).account)

-- what it keeps of a coin at the last block at which it came to have it: the links up to there, and the leaf that
-- signed it away from there, if one did and wasn't taken back
abbrev pub kept_at_tip : (List ℕ → List ℕ) → WalletRecords → List RootCall → List ℕ → ℕ → ℕ → Option Kept
kept_at_tip dig wallet log hidden coin tip =
    let leaves = leaves_in wallet.leaves in
    option_map
    (λ links. record {
      links = links;
      sent = sent_by leaves (sending_leaf (noted dig wallet).reclaimed leaves coin tip);
      guarded = false;
      hidden = is_hidden hidden coin;
    })
    (links_at dig wallet log coin tip)

-- A coin that it accepted or its account deposited; None where the deposit isn't to its own key. One that the log
-- doesn't have was accepted with a longer log.
abbrev pub wallet_case : (List ℕ → List ℕ) → WalletRecords → List RootCall → List ℕ → ℕ → Option Case
wallet_case dig wallet log hidden coin =
    if is_none (coin_at log coin) then Some (record { coin = coin; kept = None })
    else option_map (λ tip. record { coin = coin; kept = kept_at_tip dig wallet log hidden coin tip })
    (greatest (tips_of (noted dig wallet) log coin))

-- the coins that it ever had, by rising coin
abbrev pub wallet_cases : (List ℕ → List ℕ) → WalletRecords → List RootCall → List ℕ → List Case
wallet_cases dig wallet log hidden =
    flat_map (λ coin. option_to_list (wallet_case dig wallet log hidden coin)) (coins_of dig wallet log)
