-- A start that a wallet's leave offers is the start of an exit at a tip that it has.
use Rattle.world_laws.proofs.Basics.{◌≡◌, ℕ, ◌-◌, ◌==◌, true, false, if◌then◌else◌, List, [], ◌∷◌, length, Option, Some, None, inl, inr, refl, sym, ap, ◌∙◌, subst, arith, rules, option_map_or, AllByRecursion, eqb-true, or_cases, or_left, or_right, false≢true, common_steps, some_same, got-has}
use Rattle.world_laws.proofs.CoinWords.{Owner, Link, Links, RootCall, CoinView, ExitView, last_spend, tip_of, coin_at, exits_of, Tests, Rules, Bundle, coin_at-grown, none-linked, due_of, due_for, Has, all-has, contains-has, has-flat_map, IsDueFor, due_for-due}
use Rattle.world_laws.proofs.NodeWords.{kept_links, start_by, start_of, due_for_kept, exit_block}
use Rattle.world_laws.proofs.WorldWords.{Event, Leaves, log_of, coin_of_call, wallet_owner, accepted, is_start, starts_by, left_by, is_tip, ShowsTip, Taken, Bare, LegalLeave, IsLegal, coin-stays}
use Rattle.world_laws.proofs.HeldCoins.{links-at, owner-stays, Holding, holding, is_noted, held_at, deposited-coin}
use Rattle.world_laws.proofs.Guards.{kept-some}

-- ---- what is due starts no exit

due-no_start : (log : List RootCall) (account : ℕ) (links : Links) (x : ExitView) (call : RootCall)
    → IsDueFor log account links x call → is_start call ≡ false
due-no_start log account links x call h5 = grind (arith, common_steps)

pub kept-no_start : (tag : List ℕ) (log : List RootCall) (account : ℕ) (bundle : Bundle) (call : RootCall)
    → Has (due_for_kept tag log account bundle) call → is_start call ≡ false
kept-no_start tag log account bundle call h = by_links (kept_links tag log bundle) h
  where
    by_links : (o : Option Links)
        → Has (option_map_or (λ links. due_of log account (record { links = links })) o []) call
        → is_start call ≡ false
    by_links None none = absurd none
    by_links (Some links) there =
        let r = has-flat_map (due_for log account links) (exits_of log links.coin) call there in
        due-no_start log account links r.0 call (due_for-due log account links r.0 call r.2)

pub start-any : (account : ℕ) (call : RootCall) → starts_by account call ≡ true → is_start call ≡ true
start-any account call is = grind (arith, common_steps, false≢true)

-- ---- the start at the end of links

-- the call starts the exit of this coin at this block
pub record StartsAt (call : RootCall) (c e : ℕ) : Type 0 where
  pub coin_is : coin_of_call call ≡ c
  pub block_is : exit_block call ≡ e

pub start-at : (account tip : ℕ) (links : Links) → tip_of links ≡ tip
    → AllByRecursion (λ link. link.opening.block ≡ link.block) links.spends
    → StartsAt (start_of account tip links) links.coin tip
start-at account tip links end at = by_last (last_spend links) refl
  where
    by_last : (o : Option Link) → last_spend links ≡ o → StartsAt (start_by account tip links o) links.coin tip
    by_last None none = record { coin_is = refl; block_is = refl }
    by_last (Some link) some = record {
      coin_is = refl;
      block_is = all-has (λ (l : Link). l.opening.block ≡ l.block) links.spends link at
          (got-has links.spends (length links.spends - 1) link some)
          ∙ sym (ap (λ (o : Option Link). option_map_or (λ (l : Link). l.block) o links.deposit) some) ∙ end;
    }

module _ (tests : Tests) (rules : Rules) (events : List Event) (w : ℕ) (legal : IsLegal tests rules events) where
  -- the links of what shows a wallet's coin end at its tip
  shown-links : (me : Owner) (b : Bundle) (links : Links) → ShowsTip events w me b
      → kept_links rules.tag (log_of events) b ≡ Some links
      → (links.coin ≡ b.coin) × (tip_of links ≡ b.tip)
      × AllByRecursion (λ link. link.opening.block ≡ link.block) links.spends
  shown-links me b links (Taken has) kept =
      let n = is_noted tests rules events w b legal (contains-has (accepted events w) b has) in
      grind (arith, common_steps, some_same, kept-some, links-at)
  shown-links me b links (Bare deposited none) kept =
      grind (arith, common_steps, deposited-coin, some_same, kept-some, none-linked, links-at)

-- ---- a start that was offered once

-- the start is of a block at which the wallet came to have the coin
pub record IsLeftStart (events : List Event) (w : ℕ) (call : RootCall) : Type 0 where
  pub me : Owner
  pub me_is : wallet_owner events w ≡ Some me
  pub made : CoinView
  pub made_is : coin_at (log_of events) (coin_of_call call) ≡ Some made
  pub tip : is_tip events w me (coin_of_call call) (exit_block call) ≡ true

pub tip-held : (events : List Event) (w c e : ℕ) (h : Holding events w c e) → is_tip events w h.me c e ≡ true
tip-held events w c e h = grind (arith, common_steps, or_left, or_right)

-- a tip stays one, whatever comes
tip-grows : (event : Event) (events : List Event) (w : ℕ) (me : Owner) (c n : ℕ) (made : CoinView)
    → coin_at (log_of events) c ≡ Some made → is_tip events w me c n ≡ true → is_tip (event ∷ events) w me c n ≡ true
unfolding log_of accepted
tip-grows event events w me c n made found is = grind (arith, common_steps, coin_at-grown, or_cases, or_left, or_right)

module _ (tests : Tests) (rules : Rules) where
  -- a leave names the coin and the tip at which the wallet holds it
  pub left-names : (events : List Event) (w : ℕ) (call : RootCall) → IsLegal tests rules events
      → (l : LegalLeave rules events w call) → StartsAt call l.bundle.coin l.bundle.tip
  left-names events w call legal l =
      let shown = shown-links tests rules events w legal l.me l.bundle l.links l.shows l.links_are in
      let at = start-at l.me.account l.bundle.tip l.links shown.1 shown.2 in
      grind (arith, common_steps)

  -- what a leave offers
  left-start : (events : List Event) (w : ℕ) (call : RootCall) → IsLegal tests rules events
      → LegalLeave rules events w call → IsLeftStart events w call
  left-start events w call legal l =
      let h = holding events w l.bundle.coin l.bundle.tip l.at_top.held in
      let mine : h.me ≡ l.me = some_same h.me l.me (sym h.me_is ∙ l.me_is) in
      let held = held_at tests rules events w l.bundle.coin l.bundle.tip legal h in
      let at = left-names events w call legal l in
      grind (arith, common_steps, tip-held)

  left-on : (event : Event) (events : List Event) (w : ℕ) (call : RootCall) → IsLegal tests rules (event ∷ events)
      → IsLeftStart events w call → IsLeftStart (event ∷ events) w call
  left-on event events w call legal k = grind (arith, common_steps, owner-stays, coin-stays, tip-grows)

  pub left_start : (events : List Event) (w : ℕ) (call : RootCall) → IsLegal tests rules events
      → Has (left_by events w) call → IsLeftStart events w call
  unfolding IsLegal left_by
  left_start [] w call legal h = absurd h
  left_start (Leaves v made ∷ events) w call legal h =
      left-on (Leaves v made) events w call legal
      ((elim (v == w) as (λ b. (v == w) ≡ b → Has (if b then made ∷ left_by events w else left_by events w) call
      → IsLeftStart events w call) [
        | true ↦ λ own there. (elim there [
          | inl same ↦
              subst (λ x. IsLeftStart events w x) same
              (subst (λ x. IsLeftStart events x made) (eqb-true v w own) (left-start events v made legal.1 legal.0))
          | inr earlier ↦ left_start events w call legal.1 earlier
        ])
        | false ↦ λ other there. left_start events w call legal.1 there
      ]) refl h)
  left_start (event ∷ events) w call legal h = left-on event events w call legal (left_start events w call legal.1 h)
