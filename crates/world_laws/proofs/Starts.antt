-- A start that a wallet offers is taken while the wallet holds the coin there.
use Rattle.world_laws.proofs.Basics.{◌≡◌, ℕ, suc, ◌-◌, ◌<◌, Bool, true, false, if◌then◌else◌, List, [], ◌∷◌, ◌++◌, length, take, Option, Some, None, inl, inr, refl, sym, ap, ◌∙◌, subst, arith, rules, is_some, slice_get, option_map, option_map_or, AllByRecursion, eq-eqb, eqb-true, lt-ltb, ltb-true, and_from, not_from_true, true≢false, recursion_from_All, common_steps, some_same, got-has}
use Rattle.world_laws.proofs.CoinWords.{Owner, RawOpening, SignedTx, Link, Links, Shown, AtDeposit, Spend, RootCall, StartDeposit, StartSpend, Answer, Refusal, CoinView, last_spend, tip_of, last_owner_of, coin_at, exit_at, block_of, is_withdrawn, EXIT_BOND, Tests, Rules, tests_by, root_at, shown_owner, Cause, decided, too_poor, is_committed_after, is_parent_of, answer_to, is_accepted, ShowsTx, Bundle, opens_block, links_in, links_of, AreLinked, tip_from, owner_from, tip-is, last_owner-is, none-linked, Has, has-left, has-right, has-contains, contains-has}
use Rattle.world_laws.proofs.NodeWords.{kept_links, start_by, start_of, exit_block, due_for_kept}
use Rattle.world_laws.proofs.WorldWords.{Event, Watches, Leaves, Seals, log_of, coin_of_call, wallet_owner, accepted, is_command_of, offered, offers_of, is_start, starter, IsTakenAt, IsTaken, ShowsTip, Taken, Bare, LegalLeave, IsLegal, LegalStartsAreTaken}
use Rattle.world_laws.proofs.HeldCoins.{owner-stays, holding, is_noted, IsKept, kept-grow, deposited-coin}
use Rattle.plasma_tx.specs.declared.answer.Answer.TheVariants.{Refused}
use Rattle.plasma_tx.specs.declared.answer.Refusal.TheVariants.{ExitStands}
use Rattle.plasma_tx.proofs.Acceptance.{transfers_are_shown}
use Rattle.coin_history.proofs.HistoryShape.{links_rise}
use Rattle.watch_duty.proofs.GuardLinks.{Rises, rises-from, has-above, links-opened}
use Rattle.world_laws.proofs.Guards.{kept-some}
use Rattle.world_laws.proofs.Offers.{kept-no_start}
use Rattle.world_laws.proofs.DueTaken.{bare-history}

-- ---- answers

skip : (P : Answer → Type 0) (cause : Bool) (why : Refusal) (causes : List Cause) (effect : Answer) → cause ≡ false
    → P (decided causes effect) → P (decided ((cause, why) ∷ causes) effect)
skip P cause why causes effect off rest =
    subst (λ (b : Bool). P (if b then Refused why else decided causes effect)) (sym off) rest

-- none of the causes holds
skip-all : (P : Answer → Type 0) (causes rest : List Cause) (effect : Answer)
    → AllByRecursion (λ cause. cause.0 ≡ false) causes → P (decided rest effect)
    → P (decided (causes ++ rest) effect)
skip-all P [] rest effect off taken = taken
skip-all P (cause ∷ causes) rest effect off taken =
    skip P cause.0 cause.1 (causes ++ rest) effect off.0 (skip-all P causes rest effect off.1 taken)

-- where the exit stands or the money is missing at most
last-causes : (log : List RootCall) (account c e : ℕ) (effect : Answer) → is_accepted effect ≡ true
    → IsTakenAt log account c e
    (decided ((is_some (exit_at log c e), ExitStands) ∷ too_poor log account EXIT_BOND ∷ []) effect)
last-causes log account c e effect is = grind (arith, common_steps, ltb-true)

-- ---- the last link, and those before it

record IsSplit (ls : List Link) (link : Link) : Type 0 where
  front : List Link
  whole : ls ≡ front ++ link ∷ []
  taken : take (length ls - 1) ls ≡ front

split : (ls : List Link) (link : Link) → slice_get ls (length ls - 1) ≡ Some link → IsSplit ls link
split [] link is = absurd (cc is)
split (x ∷ []) link is = record { front = []; whole = ap (λ y. y ∷ []) (some_same x link is); taken = refl }
split (x ∷ y ∷ ys) link is =
    let e : length (x ∷ y ∷ ys) - 1 ≡ suc (length (y ∷ ys) - 1) = omega arith in
    grind (arith, common_steps, split (y ∷ ys) link (sym (ap (slice_get (x ∷ y ∷ ys)) e) ∙ is))

-- the last link spends what those before it end with
split-linked : (tests : Tests) (block : ℕ) (owner : Owner) (front : List Link) (link : Link)
    → AreLinked tests block owner (front ++ link ∷ [])
    → (link.tx.body.parent ≡ tip_from block front) × (tests.is_signed link.tx (owner_from owner front) ≡ true)
unfolding AreLinked
split-linked tests block owner [] link are = (are.0, are.1)
split-linked tests block owner (x ∷ xs) link are = split-linked tests x.block x.tx.body.to xs link are.2

-- and is later than each
split-rises : (low : ℕ) (front : List Link) (link q : Link) → Rises low (front ++ link ∷ []) → Has front q
    → q.block < link.block
split-rises low [] link q rise h = absurd h
split-rises low (x ∷ xs) link q rise (inl same) =
    let above = has-above x.block (xs ++ link ∷ []) link rise.1 (has-right xs (link ∷ []) link (inl refl)) in
    omega (arith, above, ap (λ (l : Link). l.block) same)
split-rises low (x ∷ xs) link q rise (inr h) = split-rises x.block xs link q rise.1 h

-- ---- a start at the end of a history

module _ (tests : Tests) (rules : Rules) (log : List RootCall) (b : Bundle) (made : CoinView) (me : Owner)
    (found : coin_at log b.coin ≡ Some made)
    (opens : AllByRecursion (λ o. opens_block tests log b.coin o ≡ true) b.openings)
    (linked : AreLinked tests made.deposit made.owner (links_in rules b.coin b.openings))
    (rise : Rises made.deposit (links_in rules b.coin b.openings))
    (end : tip_of (links_of rules made b) ≡ b.tip) (mine : last_owner_of (links_of rules made b) ≡ me)
    (alive : is_withdrawn log b.coin ≡ false) where
  abbrev Own : Links
  Own = links_of rules made b

  abbrev With : List Link → Links
  With front = record (links_of rules made b) { spends = front }

  deposit-taken : b.tip ≡ made.deposit → me.account ≡ made.owner.account
      → IsTakenAt log me.account b.coin b.tip (answer_to tests rules log (StartDeposit me.account b.coin b.tip))
  unfolding answer_to
  deposit-taken tip account = grind (arith, common_steps, skip-all, not_from_true, eq-eqb, last-causes)

  spend-taken : (parent : Shown) (owner : Owner) (exit : RawOpening) (tx : SignedTx)
      → shown_owner tests rules log b.coin parent ≡ Some owner → ShowsTx tests rules log b.coin exit tx
      → is_committed_after log made.deposit exit.block ≡ true → is_parent_of log made exit.block parent ≡ true
      → tx.body.parent ≡ block_of parent → tests.is_signed tx owner ≡ true → tx.body.to.account ≡ me.account
      → IsTakenAt log me.account b.coin exit.block
      (answer_to tests rules log (StartSpend me.account b.coin parent exit))
  unfolding answer_to
  spend-taken parent owner exit tx owner_is shown committed fits child signed to =
      let spend = transfers_are_shown tests rules log b.coin exit tx shown in
      grind (arith, common_steps, skip-all, not_from_true, and_from, eq-eqb, last-causes)

  -- a link of the history is shown, and committed after the deposit
  link-shown : (link : Link) → Has (links_in rules b.coin b.openings) link
      → ShowsTx tests rules log b.coin link.opening link.tx × (link.opening.block ≡ link.block)
      × (made.deposit < link.opening.block) × (is_some (root_at log link.opening.block) ≡ true)
  link-shown link h =
      let o = links-opened tests rules log b.coin b.openings link opens h in
      let above = has-above made.deposit (links_in rules b.coin b.openings) link rise h in
      (o.shown, o.block, omega (arith, above, o.block), ap is_some o.shown.committed)

  by_parent : (link : Link) (front : List Link) → links_in rules b.coin b.openings ≡ front ++ link ∷ []
      → link.tx.body.to ≡ me → (p : Option Link) → slice_get front (length front - 1) ≡ p
      → IsTakenAt log me.account b.coin link.opening.block (answer_to tests rules log (StartSpend me.account b.coin
      (option_map_or (λ (l : Link). Spend l.opening) p (AtDeposit made.deposit)) link.opening))
  by_parent link front whole to p p_is = by_case p p_is
    where
      last-has : Has (links_in rules b.coin b.openings) link
      last-has = subst (λ (l : List Link). Has l link) (sym whole) (has-right front (link ∷ []) link (inl refl))

      chain : (link.tx.body.parent ≡ tip_from made.deposit front)
          × (tests.is_signed link.tx (owner_from made.owner front) ≡ true)
      chain = split-linked tests made.deposit made.owner front link
          (subst (AreLinked tests made.deposit made.owner) whole linked)

      by_case : (o : Option Link) → slice_get front (length front - 1) ≡ o
          → IsTakenAt log me.account b.coin link.opening.block (answer_to tests rules log (StartSpend me.account b.coin
          (option_map_or (λ (l : Link). Spend l.opening) o (AtDeposit made.deposit)) link.opening))
      by_case None none =
          let s = link-shown link last-has in
          let at : tip_from made.deposit front ≡ made.deposit =
          sym (tip-is (With front))
          ∙ ap (λ (q : Option Link). option_map_or (λ (l : Link). l.block) q made.deposit) none in
          let owner : owner_from made.owner front ≡ made.owner =
          sym (last_owner-is (With front))
          ∙ ap (λ (q : Option Link). option_map_or (λ (l : Link). l.tx.body.to) q made.owner) none in
          spend-taken (AtDeposit made.deposit) made.owner link.opening link.tx
          (ap (option_map (λ (m : CoinView). m.owner)) found) s.0 (and_from _ _ s.3 (lt-ltb _ _ s.2))
          (eq-eqb made.deposit made.deposit refl) (chain.0 ∙ at)
          (subst (λ w. tests.is_signed link.tx w ≡ true) owner chain.1) (ap (λ (w : Owner). w.account) to)
      by_case (Some q) some =
          let s = link-shown link last-has in
          let q_front = got-has front (length front - 1) q some in
          let q_has = subst (λ (l : List Link). Has l q) (sym whole) (has-left front (link ∷ []) q q_front) in
          let r = link-shown q q_has in
          let less = split-rises made.deposit front link q (subst (Rises made.deposit) whole rise) q_front in
          let at : tip_from made.deposit front ≡ q.block =
          sym (tip-is (With front))
          ∙ ap (λ (o : Option Link). option_map_or (λ (l : Link). l.block) o made.deposit) some in
          let owner : owner_from made.owner front ≡ q.tx.body.to =
          sym (last_owner-is (With front))
          ∙ ap (λ (o : Option Link). option_map_or (λ (l : Link). l.tx.body.to) o made.owner) some in
          spend-taken (Spend q.opening) q.tx.body.to link.opening link.tx
          (ap (option_map (λ (t : SignedTx). t.body.to))
          (transfers_are_shown tests rules log b.coin q.opening q.tx r.0)) s.0
          (and_from _ _ s.3 (lt-ltb _ _ s.2))
          (grind (arith, common_steps, and_from, lt-ltb)) (chain.0 ∙ at ∙ sym r.1)
          (subst (λ w. tests.is_signed link.tx w ≡ true) owner chain.1) (ap (λ (w : Owner). w.account) to)

  start-taken : IsTaken log me.account (start_of me.account b.tip (links_of rules made b))
      (answer_to tests rules log (start_of me.account b.tip (links_of rules made b)))
  start-taken = by_last (last_spend (links_of rules made b)) refl
    where
      by_last : (o : Option Link) → last_spend (links_of rules made b) ≡ o
          → IsTaken log me.account (start_by me.account b.tip (links_of rules made b) o)
          (answer_to tests rules log (start_by me.account b.tip (links_of rules made b) o))
      by_last None none = grind (arith, common_steps, deposit-taken)
      by_last (Some link) some =
          let r = split (links_in rules b.coin b.openings) link some in
          grind (arith, common_steps, by_parent)

-- ---- a start on offer

pub record IsStartOffered (tests : Tests) (rules : Rules) (events : List Event) (w : ℕ) (call : RootCall)
    : Type 0 where
  pub me : Owner
  pub me_is : wallet_owner events w ≡ Some me
  pub bundle : Bundle
  pub kept : IsKept tests rules events bundle
  pub mine : last_owner_of kept.links ≡ me
  pub call_is : call ≡ start_of me.account bundle.tip kept.links

module _ (tests : Tests) (rules : Rules) where
  left-shown : (events : List Event) (w : ℕ) (me : Owner) (b : Bundle) (links : Links)
      → IsLegal tests rules events → wallet_owner events w ≡ Some me → ShowsTip events w me b
      → kept_links rules.tag (log_of events) b ≡ Some links
      → (k : IsKept tests rules events b) × (last_owner_of k.links ≡ me) × (links ≡ k.links)
  left-shown events w me b links legal me_is (Taken has) kept =
      let n = is_noted tests rules events w b legal (contains-has (accepted events w) b has) in
      let own = kept-some rules (log_of events) b n.history.made n.history.coin in (
        record { links = n.links; history = n.history; is_seen = n.is_seen },
        n.mine ∙ some_same n.me me (sym n.me_is ∙ me_is),
        some_same links (links_of rules n.history.made b) (sym kept ∙ own) ∙ sym n.history.shown,
      )
  left-shown events w me b links legal me_is (Bare own none) kept =
      let d = deposited-coin me b.tip (coin_at (log_of events) b.coin) own in
      let h = bare-history tests rules (log_of events) b d.0 d.1 d.2 none in
      let empty : links_in rules b.coin b.openings ≡ [] = ap (links_in rules b.coin) none
      ∙ none-linked rules b.coin in (
        grind (arith),
        last_owner-is (links_of rules d.0 b) ∙ ap (owner_from d.0.owner) empty ∙ d.3,
        some_same links (links_of rules d.0 b) (sym kept ∙ kept-some rules (log_of events) b d.0 d.1),
      )

  start-after : (event : Event) (events : List Event) (w : ℕ) (call : RootCall)
      → IsLegal tests rules (event ∷ events) → IsStartOffered tests rules events w call
      → IsStartOffered tests rules (event ∷ events) w call
  start-after event events w call legal k = record {
    me = k.me;
    me_is = owner-stays tests rules event events w k.me legal k.me_is;
    bundle = k.bundle;
    kept = kept-grow tests rules event events k.bundle k.kept;
    mine = k.mine;
    call_is = k.call_is;
  }

  left-offered : (events : List Event) (w : ℕ) (call : RootCall) → IsLegal tests rules events
      → LegalLeave rules events w call → IsStartOffered tests rules events w call
  left-offered events w call legal l =
      let s = left-shown events w l.me l.bundle l.links legal l.me_is l.shows l.links_are in
      record {
        me = l.me;
        me_is = l.me_is;
        bundle = l.bundle;
        kept = s.0;
        mine = s.1;
        call_is = l.call_is ∙ ap (start_of l.me.account l.bundle.tip) s.2;
      }

  command-offered : (event : Event) (events : List Event) (w : ℕ) (call : RootCall)
      → IsLegal tests rules (event ∷ events) → is_command_of w event ≡ true → Has (offered event) call
      → is_start call ≡ true → IsStartOffered tests rules (event ∷ events) w call
  unfolding IsLegal
  command-offered (Watches m calls) events w call legal own h start =
      let due = legal.0.only call (has-contains calls call h) in
      absurd (true≢false (sym start ∙ kept-no_start rules.tag (log_of events) legal.0.account due.bundle call
      (contains-has (due_for_kept rules.tag (log_of events) legal.0.account due.bundle) call due.due)))
  command-offered (Leaves m made) events w call legal own (inl same) start =
      start-after (Leaves m made) events w call legal
      (subst (λ x. IsStartOffered tests rules events w x) same
      (subst (λ x. IsStartOffered tests rules events x made) (eqb-true m w own)
      (left-offered events m made legal.1 legal.0)))
  command-offered (Leaves m made) events w call legal own (inr none) start = absurd none
  command-offered (Seals made) events w call legal own (inl same) start =
      absurd (true≢false (sym start ∙ ap is_start (sym same) ∙ legal.0))
  command-offered (Seals made) events w call legal own (inr none) start = absurd none
  command-offered event events w call legal own h start = absurd h

  start-offered : (events : List Event) (w : ℕ) (call : RootCall) → IsLegal tests rules events
      → Has (offers_of events w) call → is_start call ≡ true → IsStartOffered tests rules events w call
  unfolding IsLegal offers_of
  start-offered [] w call legal h start = absurd h
  start-offered (event ∷ events) w call legal h start =
      (elim (is_command_of w event) as (λ b. is_command_of w event ≡ b
      → Has (if b then offered event else offers_of events w) call
      → IsStartOffered tests rules (event ∷ events) w call) [
        | true ↦ λ own there. command-offered event events w call legal own there start
        | false ↦ λ other there. start-after event events w call legal
            (start-offered events w call legal.1 there start)
      ]) refl h

-- the coin of a start
start-coin : (account tip : ℕ) (links : Links) → coin_of_call (start_of account tip links) ≡ links.coin
start-coin account tip links = grind (arith, common_steps)

-- its account
start-starter : (account tip : ℕ) (links : Links) → starter (start_of account tip links) ≡ Some account
start-starter account tip links = grind (arith, common_steps)

pub starts_are_taken : LegalStartsAreTaken
starts_are_taken dig rules events w account call legal offer start held =
    let tests : Tests = tests_by dig in
    let log : List RootCall = log_of events in
    let k = start-offered tests rules events w call legal (contains-has (offers_of events w) call offer)
    (ap is_some start) in
    let h = k.kept.history in
    let own : Links = links_of rules h.made k.bundle in
    let coin : coin_of_call call ≡ k.bundle.coin = ap coin_of_call k.call_is
    ∙ start-coin k.me.account k.bundle.tip k.kept.links ∙ ap (λ (l : Links). l.coin) h.shown in
    let alive : is_withdrawn log k.bundle.coin ≡ false =
    ap (is_withdrawn log) (sym coin) ∙ (holding events w (coin_of_call call) (exit_block call) held).not_withdrawn in
    let call_is : start_of k.me.account k.bundle.tip own ≡ call =
    ap (start_of k.me.account k.bundle.tip) (sym h.shown) ∙ sym k.call_is in
    let account_is : k.me.account ≡ account = some_same k.me.account account
    (sym (start-starter k.me.account k.bundle.tip own) ∙ ap starter call_is ∙ start) in
    subst (λ a. IsTaken log a call (answer_to (tests_by dig) rules (log_of events) call)) account_is
    (subst (λ x. IsTaken log k.me.account x (answer_to (tests_by dig) rules (log_of events) x)) call_is
    (start-taken tests rules log k.bundle h.made k.me h.coin
    (recursion_from_All (λ o. opens_block tests log k.bundle.coin o ≡ true) k.bundle.openings h.opened)
    (subst (λ (l : Links). AreLinked tests l.deposit l.owner l.spends) h.shown h.linked)
    (subst (λ (l : Links). Rises l.deposit l.spends) h.shown
    (rises-from k.kept.links.deposit k.kept.links.spends (links_rise tests rules log k.bundle k.kept.links h)))
    (ap tip_of (sym h.shown) ∙ h.tip) (ap last_owner_of (sym h.shown) ∙ k.mine) alive))
