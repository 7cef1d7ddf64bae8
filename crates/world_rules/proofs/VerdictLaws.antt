-- A wallet and a coin that it ever held have one verdict, and each verdict is on such a coin at its greatest block.
use Rattle.world_rules.proofs.Basics.{◌≡◌, ℕ, ◌+◌, ◌≤◌, true, List, [], ◌∷◌, slice_get, Contains, count_by, Option, Some, inl, inr, sym, ap, ◌∙◌, subst, arith, rules, option_map_or, or_cases, false≢true, cases_eq, ne_eqb, common_steps}
use Rattle.world_rules.proofs.CoinWords.{RootCall, CoinView, coins, coin_at, some_same, tests_by, rules_of}
use Rattle.world_rules.proofs.WorldWords.{Verdict, Event, log_of, Wallet, Node, World, is_wallet_role, Run, events_of, ever_held, held_tip, Named, verdict_of, verdicts_on, verdicts_in, verdicts_of, is_on, HeldCoinsHaveOneVerdict, IsOfHeld, VerdictsAreOfHeldCoins}
use Rattle.plasma_tx.specs.declared.call.RootCall.TheVariants.{Deposit}
use Rattle.plasma_tx.proofs.Bounds.{coin_at-le}
use Rattle.world_rules.proofs.HeldTips.{OwnersStay, IsCoin, IsTip, ever-tip, held_tip-is, held_tip-some}
use Rattle.world_rules.proofs.Named.{Card, card, cards, card-at}
use Rattle.world_rules.proofs.VerdictCounts.{IsVerdict, one-verdict, verdict-is, from-coin, from-wallet}
use Rattle.world_rules.proofs.KeptNames.{Kept}
use Rattle.world_rules.proofs.NamedSteps.{run-kept}

-- coins are counted from 1
pub coin_at-positive : (log : List RootCall) (c : ℕ) (made : CoinView) → coin_at log c ≡ Some made → 1 ≤ c
unfolding coin_at
coin_at-positive [] c made is = absurd (cc is)
coin_at-positive (Deposit account amount key ∷ log) c made is = elim (cases_eq c (coins log + 1)) [
  | inl last ↦ omega arith
  | inr other ↦ coin_at-positive log c made (simp (ne_eqb c (coins log + 1) other) at is)
]
coin_at-positive (call ∷ log) c made is = coin_at-positive log c made is

-- the verdicts of a run whose chain has begun
verdicts-are : (dig : List ℕ → List ℕ) (run : Run) (world : World) → run.world ≡ Some world
    → verdicts_of dig run ≡ verdicts_in dig world (events_of run.entries)
unfolding verdicts_of
verdicts-are dig run world is =
    ap (λ (o : Option World). option_map_or (λ w. verdicts_in dig w (events_of run.entries)) o []) is

module _ (world : World) (events : List Event) (kept : Kept (cards world.nodes) world.chain.log events) where
  -- a coin that a wallet came to have is in the log
  tip-coin : (w c e : ℕ) → IsTip events w c e → IsCoin (log_of events) c
  tip-coin w c e tip = grind (arith, common_steps, or_cases, false≢true)

  one : (dig : List ℕ → List ℕ) (n : ℕ) (node : Node) (c e : ℕ) → slice_get world.nodes n ≡ Some node
      → ever_held events n c e ≡ true → count_by (is_on node.name c) (verdicts_in dig world events) ≡ 1
  unfolding verdicts_in
  one dig n node c e node_is held =
      let tip = ever-tip events n c e kept.stay held in
      let coin = tip-coin n c e tip in
      let wallet = kept.wallets n tip.me tip.owner in
      let greatest = held_tip-some events n c e kept.stay held in
      let same = some_same (card node) (record { name = wallet.name; role = Wallet })
      (sym (card-at world.nodes n node node_is) ∙ wallet.is) in
      one-verdict (tests_by dig) (rules_of world.chain) events world.nodes n c greatest.0 node tip.me kept.distinct
      node_is (ap (λ (x : Card). is_wallet_role x.role) same) tip.owner greatest.1
      (coin_at-positive (log_of events) c coin.made coin.is) (coin_at-le (log_of events) c coin.made coin.is)

pub held_coins_have_one_verdict : HeldCoinsHaveOneVerdict
held_coins_have_one_verdict dig lines run world n node c e ran world_is node_is held =
    ap (count_by (is_on node.name c)) (verdicts-are dig run world world_is)
    ∙ one world (events_of run.entries) ((run-kept dig lines run ran).kept world world_is) dig n node c e node_is held

-- a verdict on node n, where it is a wallet, is on a coin that it ever held
on-held : (dig : List ℕ → List ℕ) (run : Run) (world : World) (verdict : Verdict) (n : ℕ) (node : Node) (c : ℕ)
    → OwnersStay (events_of run.entries) → slice_get world.nodes n ≡ Some node
    → IsVerdict (tests_by dig) (rules_of world.chain) (events_of run.entries)
    (record { number = n; name = node.name }) c verdict → IsOfHeld dig run world verdict
on-held dig run world verdict n node c stay is_node is =
    let events : List Event = events_of run.entries in
    let held = held_tip-is events n verdict.coin is.tip stay (ap (held_tip events n) is.coin ∙ is.tip_is) in
    grind (arith, common_steps)

pub verdicts_are_of_held_coins : VerdictsAreOfHeldCoins
unfolding verdicts_in
verdicts_are_of_held_coins dig lines run world verdict ran world_is found =
    let tests = tests_by dig in
    let rules = rules_of world.chain in
    let events : List Event = events_of run.entries in
    let kept = (run-kept dig lines run ran).kept world world_is in
    let among = subst (λ (verdicts : List Verdict). Contains verdicts verdict) (verdicts-are dig run world world_is)
    found in
    let from = from-wallet (verdicts_on tests rules events) world.nodes 0 verdict among in
    let wallet : Named = record { number = 0 + from.place; name = from.node.name } in
    let coin = from-coin (verdict_of tests rules events wallet) (coins (log_of events)) 1 verdict from.among in
    let here : 0 + from.place ≡ from.place = omega arith in
    on-held dig run world verdict from.place from.node coin.0 kept.stay from.is_node
    (grind (arith, common_steps, verdict-is))
