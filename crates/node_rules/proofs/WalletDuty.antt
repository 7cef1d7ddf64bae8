-- What a wallet answers is due for the coins that it holds or leaves with.
use Rattle.node_rules.proofs.Words.{◌≡◌, ℕ, List, [], ◌∷◌, ◌++◌, Option, refl, arith, filter_map, flat_map, cons_option, range_with_len, option_map, option_map_or, common_steps, Links, RootCall, coins, due_of, due_calls, CoinState, guard_in, WalletsDoTheirDuty}
use Rattle.watch_duty.specs.declared.guard.Guard.{Guard}
use Rattle.node_rules.specs.Wallet.{WalletRecords, who, coin_state, due_in, watch_answer}

module _ (dig : List ℕ → List ℕ) (wallet : WalletRecords) (log : List RootCall) where
  abbrev guard_of_coin : ℕ → Option Guard
  guard_of_coin coin = guard_in dig wallet log coin (coin_state dig wallet log coin)

  abbrev due_of_coin : ℕ → List RootCall
  due_of_coin coin = due_in dig wallet log coin (coin_state dig wallet log coin)

  linked : (links : Option Links) (calls : List RootCall) (guards : List Guard)
      → calls ≡ flat_map (due_of log (who wallet).account) guards
      → option_map_or (λ l. due_of log (who wallet).account (record { links = l })) links [] ++ calls
      ≡ flat_map (due_of log (who wallet).account)
      (cons_option (option_map (λ l. record { links = l }) links) guards)
  linked links calls guards is = grind (arith, common_steps) steps 20000

  by-state : (coin : ℕ) (state : CoinState) (calls : List RootCall) (guards : List Guard)
      → calls ≡ flat_map (due_of log (who wallet).account) guards
      → due_in dig wallet log coin state ++ calls
      ≡ flat_map (due_of log (who wallet).account) (cons_option (guard_in dig wallet log coin state) guards)
  by-state coin state calls guards is = grind (arith, common_steps, linked) steps 20000

  due-held : (some : List ℕ)
      → flat_map due_of_coin some ≡ flat_map (due_of log (who wallet).account) (filter_map guard_of_coin some)
  due-held [] = refl
  due-held (coin ∷ some) = grind (arith, common_steps, due-held some, by-state) steps 20000

pub wallets_do_their_duty : WalletsDoTheirDuty
unfolding watch_answer due_calls
wallets_do_their_duty dig wallet log = due-held dig wallet log (range_with_len 1 (coins log))
