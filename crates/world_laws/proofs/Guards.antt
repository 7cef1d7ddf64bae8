-- Who guards a held coin: the holder, and each watcher that keeps a guard at its tip.
use Rattle.world_laws.proofs.Basics.{◌≡◌, ℕ, ◌==◌, true, false, if◌then◌else◌, List, [], ◌∷◌, Option, Some, None, inl, inr, refl, sym, ap, ◌∙◌, subst, arith, rules, list_any, eqb-true, and_from, or_cases, or_left, or_right, not_from_false, common_steps, some_same, any-some}
use Rattle.world_laws.proofs.CoinWords.{Owner, RawOpening, Links, RootCall, CoinView, ExitView, tip_of, last_owner_of, coin_at, block_of, exits_of, Tests, Rules, Bundle, links_in, links_of, IsHistory, tip-is, tip_from, none-linked, tip_shown, due_of, due_for, Has, contains-has, has-contains, has-flat_map, has-filter, IsDueFor, due_for-due}
use Rattle.world_laws.proofs.NodeWords.{chain_of, kept_links}
use Rattle.world_laws.proofs.WorldWords.{Event, Watches, Guards, Releases, log_of, coin_of_call, wallet_owner, accepted, is_bundle, guarded_by, is_command_of, seen, is_forged, was_deposited, holds, Taken, Bare, IsGuarding, ShowsGuard, IsLegal, is_guardian}
use Rattle.world_laws.proofs.HeldCoins.{links-at, shown-tip, HasOneLeaf, SignsBy, Holding, is_noted, is_kept, known-from, IsGoodGuard, good_guard, held_top, deposited-coin, empty-walk}
use Rattle.world_laws.proofs.Nodes.{owner-same}
use Rattle.world_laws.proofs.DueCalls.{OffersDue}

-- ---- the links of a bundle

-- of histories the tag alone matters
links-tag : (rules : Rules) (c : ℕ) (os : List RawOpening)
    → links_in (chain_of rules.tag) c os ≡ links_in rules c os
unfolding links_in
links-tag rules c os = refl

pub kept-some : (rules : Rules) (log : List RootCall) (b : Bundle) (made : CoinView)
    → coin_at log b.coin ≡ Some made → kept_links rules.tag log b ≡ Some (links_of rules made b)
kept-some rules log b made found = grind (arith, common_steps, links-tag)

-- the bundle has these links, and they make a good guard
pub record ShowsGood (tests : Tests) (rules : Rules) (log : List RootCall) (os : List RawOpening) (c : ℕ)
    (made : CoinView) (e : ℕ) (b : Bundle) : Type 0 where
  pub links : Links
  pub kept : kept_links rules.tag log b ≡ Some links
  pub good : IsGoodGuard tests rules log os c made e links
  pub shown_is : block_of (tip_shown links) ≡ e

module _ (tests : Tests) (rules : Rules) (log : List RootCall) (os : ℕ → List RawOpening) (c : ℕ) (made : CoinView)
    (e : ℕ) (one : HasOneLeaf tests log c (os c)) (found : coin_at log c ≡ Some made) (b : Bundle)
    (c_is : b.coin ≡ c) (e_is : b.tip ≡ e) where
  there : coin_at log b.coin ≡ Some made
  there = ap (coin_at log) c_is ∙ found

  pub history-good : (links : Links) → IsHistory tests rules log b links
      → ((o : RawOpening) → Has b.openings o → Has (os b.coin) o) → ShowsGood tests rules log (os c) c made e b
  history-good links h has =
      let own : Links = links_of rules made b in
      let same : h.made ≡ made = some_same h.made made (sym h.coin ∙ there) in
      let own_is : links ≡ own = h.shown ∙ ap (λ (m : CoinView). links_of rules m b) same in
      let tip_is : tip_of own ≡ e = ap tip_of (sym own_is) ∙ h.tip ∙ e_is in
      record {
        links = own;
        kept = kept-some rules log b made there;
        good = good_guard tests rules log (os c) c made one e (last_owner_of links) b.openings
            (known-from tests rules log os b links c e made h has c_is e_is found) own c_is refl tip_is
            (ap (λ k. links_in rules k b.openings) c_is);
        shown_is = shown-tip own (links-at rules b.coin b.openings) ∙ tip_is;
      }

  pub bare-good : (me : Owner) → was_deposited me b.tip (coin_at log b.coin) ≡ true → b.openings ≡ []
      → ShowsGood tests rules log (os c) c made e b
  bare-good me own none =
      let links : Links = links_of rules made b in
      let d = deposited-coin me b.tip (coin_at log b.coin) own in
      let same : d.0 ≡ made = some_same d.0 made (sym d.1 ∙ there) in
      let deposit : made.deposit ≡ e = ap (λ (m : CoinView). m.deposit) (sym same) ∙ d.2 ∙ e_is in
      let owner : made.owner ≡ me = ap (λ (m : CoinView). m.owner) (sym same) ∙ d.3 in
      let empty : links.spends ≡ [] = ap (links_in rules b.coin) none ∙ none-linked rules b.coin in
      let tip_is : tip_of links ≡ e = tip-is links ∙ ap (tip_from made.deposit) empty ∙ deposit in
      record {
        links = links;
        kept = kept-some rules log b made there;
        good = good_guard tests rules log (os c) c made one e me []
            (record { walk = empty-walk tests rules log c made e me deposit owner; has = λ o h. absurd h }) links c_is
            refl tip_is (empty ∙ sym (none-linked rules c));
        shown_is = shown-tip links (links-at rules b.coin b.openings) ∙ tip_is;
      }

-- ---- what is due is of the coin

due-coin : (log : List RootCall) (account : ℕ) (links : Links) (x : ExitView) (call : RootCall)
    → IsDueFor log account links x call → coin_of_call call ≡ links.coin
due-coin log account links x call h5 = grind (arith, common_steps)

pub due_of-coin : (log : List RootCall) (account : ℕ) (links : Links) (call : RootCall)
    → Has (due_of log account (record { links = links })) call → coin_of_call call ≡ links.coin
due_of-coin log account links call h =
    let r = has-flat_map (due_for log account links) (exits_of log links.coin) call h in
    due-coin log account links r.0 call (due_for-due log account links r.0 call r.2)

-- ---- a node's guard

module _ (tests : Tests) (rules : Rules) (events : List Event) (n c : ℕ) (made : CoinView) (e : ℕ)
    (legal : IsLegal tests rules events) (one : HasOneLeaf tests (log_of events) c (seen events c))
    (found : coin_at (log_of events) c ≡ Some made) where
  shows-good : (o : Option Owner) (b : Bundle) → b.coin ≡ c → b.tip ≡ e → ShowsGuard events n o b
      → ShowsGood tests rules (log_of events) (seen events c) c made e b
  shows-good None b c_is e_is has =
      let k = is_kept tests rules events n b legal (contains-has (guarded_by events n) b has) in
      history-good tests rules (log_of events) (seen events) c made e one found b c_is e_is k.links k.history k.is_seen
  shows-good (Some me) b c_is e_is (Taken has) =
      let k = is_noted tests rules events n b legal (contains-has (accepted events n) b has) in
      history-good tests rules (log_of events) (seen events) c made e one found b c_is e_is k.links k.history k.is_seen
  shows-good (Some me) b c_is e_is (Bare own none) =
      bare-good tests rules (log_of events) (seen events) c made e one found b c_is e_is me own none

-- ---- watchers are no wallets

push-command : (n : ℕ) (event : Event) (events : List Event) → list_any (is_command_of n) events ≡ true
    → list_any (is_command_of n) (event ∷ events) ≡ true
push-command n event events is = or_right (is_command_of n event) (list_any (is_command_of n) events) is

guarded-commanded : (events : List Event) (g : ℕ) (b : Bundle) → Has (guarded_by events g) b
    → list_any (is_command_of g) events ≡ true
unfolding guarded_by
guarded-commanded [] g b h = absurd h
guarded-commanded (Guards v bundle ∷ events) g b h =
    (elim (v == g) as (λ k. (v == g) ≡ k
    → Has (if k then bundle ∷ guarded_by events g else guarded_by events g) b
    → list_any (is_command_of g) (Guards v bundle ∷ events) ≡ true) [
      | true ↦ λ same there. or_left (v == g) (list_any (is_command_of g) events) same
      | false ↦ λ apart there. push-command g (Guards v bundle) events (guarded-commanded events g b there)
    ]) refl h
guarded-commanded (Releases v c e ∷ events) g b h =
    let there : Has (guarded_by events g) b = grind (arith, has-filter) in
    push-command g (Releases v c e) events (guarded-commanded events g b there)
guarded-commanded (event ∷ events) g b h = push-command g event events (guarded-commanded events g b h)

no_wallet-after : (tests : Tests) (rules : Rules) (event : Event) (events : List Event) (g : ℕ) (b : Bundle)
    → IsLegal tests rules (event ∷ events) → Has (guarded_by events g) b → wallet_owner events g ≡ None
    → wallet_owner (event ∷ events) g ≡ None
no_wallet-after tests rules event events g b legal h none =
    owner-same tests rules event events g legal (guarded-commanded events g b h) ∙ none

pub no_wallet : (tests : Tests) (rules : Rules) (events : List Event) (g : ℕ) (b : Bundle)
    → IsLegal tests rules events → Has (guarded_by events g) b → wallet_owner events g ≡ None
unfolding guarded_by IsLegal wallet_owner
no_wallet tests rules [] g b legal h = absurd h
no_wallet tests rules (Guards v bundle ∷ events) g b legal h =
    (elim (v == g) as (λ k. (v == g) ≡ k
    → Has (if k then bundle ∷ guarded_by events g else guarded_by events g) b → wallet_owner events g ≡ None) [
      | true ↦ λ same there. ap (wallet_owner events) (sym (eqb-true v g same)) ∙ legal.0.no_wallet
      | false ↦ λ apart there. no_wallet tests rules events g b legal.1 there
    ]) refl h
no_wallet tests rules (Releases v c e ∷ events) g b legal h =
    let there : Has (guarded_by events g) b = grind (arith, has-filter) in
    no_wallet tests rules events g b legal.1 there
no_wallet tests rules (event ∷ events) g b legal h =
    no_wallet-after tests rules event events g b legal h (no_wallet tests rules events g b legal.1 h)

-- ---- a guardian's watch

pub holds-from : (events : List Event) (w c e : ℕ) → Holding events w c e → holds events w c e ≡ true
unfolding holds
holds-from events w c e h = grind (arith, common_steps, and_from, not_from_false, or_left, or_right)

-- a watch offers what is due for a coin that its node guards
pub watch-due : (tests : Tests) (rules : Rules) (events : List Event) (n : ℕ) (offers : List RootCall) (c : ℕ)
    (made : CoinView) (e : ℕ) → IsLegal tests rules (Watches n offers ∷ events)
    → HasOneLeaf tests (log_of events) c (seen events c) → coin_at (log_of events) c ≡ Some made
    → IsGuarding events n (wallet_owner events n) c e → OffersDue tests rules events c made e offers
unfolding IsLegal
watch-due tests rules events n offers c made e legal one found guarding =
    let has = legal.0.all c e guarding in
    let g = shows-good tests rules events n c made e legal.1 one found (wallet_owner events n) has.bundle has.coin_is
    has.tip_is has.shows in
    record {
      account = legal.0.account;
      links = g.links;
      good = g.good;
      shown_is = g.shown_is;
      due = grind (arith, contains-has, has-contains);
    }

-- a guardian guards the coin that the wallet holds
pub guardian-guards : (tests : Tests) (rules : Rules) → SignsBy tests → (events : List Event) (w c e n : ℕ)
    → IsLegal tests rules events → HasOneLeaf tests (log_of events) c (seen events c)
    → is_forged rules.tag events w c ≡ false → Holding events w c e → is_guardian events w c e n ≡ true
    → IsGuarding events n (wallet_owner events n) c e
guardian-guards tests rules signs events w c e n legal one unforged h guardian =
    elim (or_cases (n == w) (list_any (is_bundle c e) (guarded_by events n)) guardian) [
      | inl own ↦
          let at_top : IsGuarding events w (wallet_owner events w) c e =
          subst (λ o. IsGuarding events w o c e) (sym h.me_is)
          (record {
            held = holds-from events w c e h;
            top = held_top tests rules signs events w c e legal one h
                unforged;
          }) in
          subst (λ k. IsGuarding events k (wallet_owner events k) c e) (sym (eqb-true n w own)) at_top
      | inr kept ↦
          let b = any-some (is_bundle c e) (guarded_by events n) kept in
          subst (λ o. IsGuarding events n o c e) (sym (no_wallet tests rules events n b.0 legal b.1)) kept
    ]
