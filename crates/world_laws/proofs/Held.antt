-- What the histories of a coin have in common, and what the holder's shows.
use Rattle.world_laws.proofs.Basics.{◌≡◌, ◌⊎◌, ℕ, ◌<◌, ◌≤◌, true, false, List, [], Option, Some, None, inl, inr, refl, sym, ap, ◌∙◌, subst, arith, rules, is_some, list_any, cases_lt, eqb-true, and_parts, or_cases, false≢true, common_steps, some_same, any-some}
use Rattle.world_laws.proofs.CoinWords.{Owner, RawOpening, Links, RootCall, CoinView, tip_of, last_owner_of, coin_at, Tests, Rules, root_at, Bundle, transfer_of, links_in, IsHistory, next_link, link_after, Has}
use Rattle.world_laws.proofs.WorldWords.{Event, log_of, accepted, bound_by, signed_away_by, is_bundle, seen, is_forged, was_deposited, is_tip, IsLegal}
use Rattle.world_laws.proofs.Clash.{IsOpened, HasOneLeaf, one_tx}
use Rattle.world_laws.proofs.Walk.{Place, Spent, Successor, IsWalk, walk-passes, walk-above, walk-covers, walk-opened, walk-end, walk-spends_last, walk-spends, next-last, next-link, next-tip}
use Rattle.world_laws.proofs.Histories.{place_of, history-walk}
use Rattle.world_laws.proofs.Shown.{IsShownAt, Deposited, Transferred}
use Rattle.world_laws.proofs.Absences.{parted}
use Rattle.world_laws.proofs.Bound.{SignsBy, Holding, is_noted, IsSince, bound_since, unspent, owner-is}
use Rattle.world_rules.proofs.WalletAccepts.{bundle-is}

-- a history of the coin up to e, of these openings
pub record Known (tests : Tests) (rules : Rules) (log : List RootCall) (os : List RawOpening) (c : ℕ)
    (made : CoinView) (e : ℕ) (owner : Owner) (openings : List RawOpening) : Type 0 where
  pub walk : IsWalk tests rules log c made.deposit (place_of made) openings (record { block = e; owner = owner })
  pub has : (o : RawOpening) → Has openings o → Has os o

-- a guard with a link after each shown block before the tip, and none after the tip
pub record IsGoodGuard (tests : Tests) (rules : Rules) (log : List RootCall) (os : List RawOpening) (c : ℕ)
    (made : CoinView) (e : ℕ) (links : Links) : Type 0 where
  pub coin_is : links.coin ≡ c
  pub tip_is : tip_of links ≡ e
  pub reaches : (n : ℕ) (o : Owner) → IsShownAt tests rules log os c made n o → n < e
      → is_some (link_after links n) ≡ true
  pub none_after : link_after links e ≡ None

module _ (tests : Tests) (rules : Rules) (log : List RootCall) (os : List RawOpening) (c : ℕ) (made : CoinView)
    (one : HasOneLeaf tests log c os) where
  abbrev End : ℕ → Owner → Place
  End e owner = record { block = e; owner = owner }

  pub shown-ge : (n : ℕ) (o : Owner) → IsShownAt tests rules log os c made n o → made.deposit ≤ n
  shown-ge n o (Deposited is owner) = omega arith
  shown-ge n o (Transferred s opened low) = omega arith

  -- a seen link up to the tip is in each history up to it, with its transfer
  pub link_in : (e : ℕ) (owner : Owner) (openings : List RawOpening)
      → Known tests rules log os c made e owner openings → (n : ℕ) (o : Owner) (s : Spent rules c os n o)
      → IsOpened tests log c s.o → made.deposit < n → n ≤ e
      → (p : RawOpening) × Has openings p × (transfer_of rules c p ≡ Some s.tx) × (p.block ≡ n)
  link_in e owner openings known n o s opened low below =
      let p = walk-covers tests rules log c made.deposit (place_of made) openings (End e owner) known.walk n
      opened.root (ap (root_at log) (sym s.block_is) ∙ opened.root_is) low below in
      grind (arith, common_steps, walk-opened, place_of, one_tx)

  -- what is shown up to the tip is in each history up to it
  pub shown_in : (e : ℕ) (owner : Owner) (openings : List RawOpening)
      → Known tests rules log os c made e owner openings → (n : ℕ) (o : Owner)
      → IsShownAt tests rules log os c made n o → n ≤ e
      → ((n ≡ made.deposit) × (o ≡ made.owner)) ⊎ Spent rules c openings n o
  shown_in e owner openings known n o (Deposited is same) below = inl (is, same)
  shown_in e owner openings known n o (Transferred s opened low) below =
      let p = link_in e owner openings known n o s opened low below in
      inr (record { o = p.0; has = p.1; tx = s.tx; tx_is = p.2; block_is = p.3; to_is = s.to_is })

  -- a block has one owner
  pub shown_same : (n : ℕ) (first other : Owner) → IsShownAt tests rules log os c made n first
      → IsShownAt tests rules log os c made n other → first ≡ other
  shown_same n first other h3 h4 = grind (arith, common_steps, one_tx, some_same)

  -- each shown block before the tip has a successor in each history up to it
  pub successor_in : (e : ℕ) (owner : Owner) (openings : List RawOpening)
      → Known tests rules log os c made e owner openings → (n : ℕ) (o : Owner)
      → IsShownAt tests rules log os c made n o → n < e → Successor tests rules c openings n o
  successor_in e owner openings known n o shown below =
      elim (shown_in e owner openings known n o shown (omega arith)) [
        | inl d ↦ grind (arith, walk-spends_last, place_of)
        | inr s ↦ grind (arith, walk-spends, place_of)
      ]

  pub end_shown : (e : ℕ) (owner : Owner) (openings : List RawOpening)
      → Known tests rules log os c made e owner openings → IsShownAt tests rules log os c made e owner
  end_shown e owner openings known =
      elim (walk-end tests rules log c made.deposit (place_of made) openings (End e owner) known.walk) [
        | inl is ↦ Deposited (sym (ap (λ (x : Place). x.block) is)) (sym (ap (λ (x : Place). x.owner) is))
        | inr s ↦
            let above = walk-above tests rules log c made.deposit (place_of made) openings (End e owner) known.walk
            s.o s.has in
            let at : Spent rules c os e owner = grind (arith) in
            Transferred at
            (walk-opened tests rules log c made.deposit (place_of made) openings (End e owner) known.walk s.o s.has)
            (omega (arith, above, s.block_is))
      ]

  -- the links of a history make a good guard
  pub good_guard : (e : ℕ) (owner : Owner) (openings : List RawOpening)
      → Known tests rules log os c made e owner openings → (links : Links) → links.coin ≡ c
      → links.deposit ≡ made.deposit → tip_of links ≡ e → links.spends ≡ links_in rules c openings
      → IsGoodGuard tests rules log os c made e links
  good_guard e owner openings known links coin_is deposit_is tip_is spends_is = record {
    coin_is = coin_is;
    tip_is = tip_is;
    reaches = λ n o shown below.
        subst (λ d. is_some (next_link n d links.spends) ≡ true) (sym deposit_is)
        (subst (λ l. is_some (next_link n made.deposit l) ≡ true) (sym spends_is) (reach n o shown below));
    none_after = ap (λ d. next_link e d links.spends) deposit_is
        ∙ ap (λ l. next_link e made.deposit l) spends_is
        ∙ next-tip tests rules log c made.deposit (place_of made) openings (End e owner) known.walk (omega arith);
  }
    where
      reach : (n : ℕ) (o : Owner) → IsShownAt tests rules log os c made n o → n < e
          → is_some (next_link n made.deposit (links_in rules c openings)) ≡ true
      reach n o shown below =
          elim (shown_in e owner openings known n o shown (omega arith)) [
            | inl d ↦ next-last tests rules log c made.deposit (place_of made) openings (End e owner) n d.0
                known.walk (omega (arith, d.0))
            | inr s ↦ subst (λ m. is_some (next_link m made.deposit (links_in rules c openings)) ≡ true) s.block_is
                (next-link tests rules log c made.deposit (place_of made) openings (End e owner) known.walk s.o s.tx
                s.has s.tx_is (omega (arith, s.block_is)))
          ]

-- ---- from a checked bundle

walk-as : (tests : Tests) (rules : Rules) (log : List RootCall) (k c : ℕ) (known made : CoinView) (tip e : ℕ)
    (owner : Owner) (openings : List RawOpening) → k ≡ c → known ≡ made → tip ≡ e
    → IsWalk tests rules log k known.deposit (place_of known) openings (record { block = tip; owner = owner })
    → IsWalk tests rules log c made.deposit (place_of made) openings (record { block = e; owner = owner })
walk-as tests rules log k c known made tip e owner openings k_is made_is tip_is walk =
    grind (arith, common_steps, place_of)

pub known-from : (tests : Tests) (rules : Rules) (log : List RootCall) (os : ℕ → List RawOpening) (b : Bundle)
    (links : Links) (c e : ℕ) (made : CoinView) → IsHistory tests rules log b links
    → ((o : RawOpening) → Has b.openings o → Has (os b.coin) o) → b.coin ≡ c → b.tip ≡ e → coin_at log c ≡ Some made
    → Known tests rules log (os c) c made e (last_owner_of links) b.openings
known-from tests rules log os b links c e made history has c_is e_is found =
    grind (arith, common_steps, walk-as, some_same, history-walk)

-- ---- the coin that is held

pub record HeldAt (tests : Tests) (rules : Rules) (events : List Event) (w c e : ℕ) (me : Owner) : Type 0 where
  pub made : CoinView
  pub made_is : coin_at (log_of events) c ≡ Some made
  pub openings : List RawOpening
  pub known : Known tests rules (log_of events) (seen events c) c made e me openings
  pub from : (o : RawOpening) → Has openings o
      → (b : Bundle) × Has (accepted events w) b × (b.coin ≡ c) × Has b.openings o

pub deposited-coin : (me : Owner) (e : ℕ) (o : Option CoinView) → was_deposited me e o ≡ true
    → (made : CoinView) × (o ≡ Some made) × (made.deposit ≡ e) × (made.owner ≡ me)
deposited-coin me e o is = grind (arith, common_steps, false≢true, and_parts, eqb-true, owner-is)

pub empty-walk : (tests : Tests) (rules : Rules) (log : List RootCall) (c : ℕ) (made : CoinView) (e : ℕ) (me : Owner)
    → made.deposit ≡ e → made.owner ≡ me
    → IsWalk tests rules log c made.deposit (place_of made) [] (record { block = e; owner = me })
unfolding IsWalk
empty-walk tests rules log c made e me d o = (d, λ i. record { block = d i; owner = o i })

pub held_at : (tests : Tests) (rules : Rules) (events : List Event) (w c e : ℕ) → IsLegal tests rules events
    → (h : Holding events w c e) → HeldAt tests rules events w c e h.me
held_at tests rules events w c e legal h =
    elim h.source [
      | inl deposited ↦ grind (arith, deposited-coin, empty-walk)
      | inr accepted_is ↦
          let r = any-some (is_bundle c e) (accepted events w) accepted_is in
          let n = is_noted tests rules events w r.0 legal r.1 in
          let name = bundle-is c e r.0 r.2 in
          let mine : last_owner_of n.links ≡ h.me = n.mine ∙ some_same n.me h.me (sym n.me_is ∙ h.me_is) in
          let found : coin_at (log_of events) c ≡ Some n.history.made =
          ap (coin_at (log_of events)) (sym name.0) ∙ n.history.coin in
          record {
            made = n.history.made;
            made_is = found;
            openings = r.0.openings;
            known = subst (λ x. Known tests rules (log_of events) (seen events c) c n.history.made e x
                r.0.openings) mine
                (known-from tests rules (log_of events) (seen events) r.0 n.links c e n.history.made n.history
                n.is_seen name.0 name.1 found);
            from = λ o k. (r.0, r.1, name.0, k);
          }
    ]

module _ (tests : Tests) (rules : Rules) (signs : SignsBy tests) (events : List Event) (w c e : ℕ)
    (legal : IsLegal tests rules events) (one : HasOneLeaf tests (log_of events) c (seen events c)) where
  -- no later tip was accepted
  pub no_later : (h : Holding events w c e) → is_forged rules.tag events w c ≡ false → (b : Bundle)
      → Has (accepted events w) b → b.coin ≡ c → b.tip ≤ e
  no_later h unforged b there c_is =
      elim (cases_lt e b.tip) [
        | inr low ↦ low
        | inl high ↦
            let log : List RootCall = log_of events in
            let held = held_at tests rules events w c e legal h in
            let n = is_noted tests rules events w b legal there in
            let known = known-from tests rules log (seen events) b n.links c b.tip held.made n.history n.is_seen c_is
            refl held.made_is in
            let shown = end_shown tests rules log (seen events c) c held.made one e h.me held.openings held.known in
            let s = successor_in tests rules log (seen events c) c held.made one b.tip (last_owner_of n.links)
            b.openings known e h.me shown high in
            let bound = bound_since tests rules events w c h.me legal h.me_is unforged s.o s.tx
            (subst (λ k. IsSince events w k s.o) c_is (n.is_since s.o s.has)) s.tx_is (signs s.tx h.me s.signed) in
            absurd (unspent tests rules log (seen events c) c e (bound_by events w) (signed_away_by events w) one
            h.not_away (parted tests rules events w c legal) s.o s.tx (known.has s.o s.has)
            (walk-opened tests rules log c held.made.deposit (place_of held.made) b.openings
            (record { block = b.tip; owner = last_owner_of n.links }) known.walk s.o s.has)
            s.above s.tx_is s.parent_is bound)
      ]

  -- so the held block is the greatest at which the wallet came to have the coin
  pub held_top : (h : Holding events w c e) → is_forged rules.tag events w c ≡ false → (n : ℕ)
      → is_tip events w h.me c n ≡ true → n ≤ e
  held_top h unforged n tip =
      elim (or_cases (was_deposited h.me n (coin_at (log_of events) c))
      (list_any (is_bundle c n) (accepted events w)) tip) [
        | inl deposited ↦
            let held = held_at tests rules events w c e legal h in
            grind (arith, common_steps, deposited-coin, some_same, walk-passes, place_of)
        | inr accepted_is ↦ grind (arith, any-some, bundle-is, no_later)
      ]
