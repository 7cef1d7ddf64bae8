-- The own start that is advised for the history of a coin is accepted.
use Rattle.coin_safety.proofs.Words.{◌≡◌, ℕ, suc, ◌-◌, ◌<◌, ◌≤◌, ◌==◌, ◌&&◌, ◌||◌, not, Bool, true, false, if◌then◌else◌, List, [], ◌∷◌, ◌++◌, length, take, Option, Some, None, inl, inr, refl, sym, ap, ◌∙◌, subst, arith, is_none, is_some, nat_lt, slice_get, AllByRecursion, option_map, option_map_or, and_parts, and_from, eqb-true, eq-eqb, lt-ltb, ltb-false, not-true, true≢false, recursion_from_All, Owner, SignedTx, Link, Links, Shown, AtDeposit, Spend, RootCall, StartDeposit, StartSpend, CoinView, EXIT_BOND, ShowsTx, StartsDeposit, StartsSpend, last_spend, last_owner_of, tip_of, balance_of, Tests, Rules, root_at, shown_owner, answer_to, is_accepted, is_parent_of, block_of, Exit, exit_at, exit_view, exits_of, is_withdrawn, transfers_are_shown, shown_calls_are_accepted, some_same, Bundle, opens_block, AreLinked, IsHistory, tip_from, owner_from, tip-is, last_owner-is, tip_shown, Rises, has-above, links-opened, Has, has-left, has-right, Kept, standing, tip, holder, exit_in, left_by, may_leave, is_planted, start_by, start_of, own_start, takes, is_poor}
use Rattle.coin_history.specs.Laws.{first_links}
use Rattle.coin_safety.proofs.Blocks.{Spends, Own, rise, linked, got-has}
use Rattle.coin_safety.proofs.Viewed.{viewed}

-- ---- the last link, and those before it

record IsSplit (ls : List Link) (link : Link) : Type 0 where
  front : List Link
  whole : ls ≡ front ++ link ∷ []
  taken : take (length ls - 1) ls ≡ front

split : (ls : List Link) (link : Link) → slice_get ls (length ls - 1) ≡ Some link → IsSplit ls link
split [] link is = absurd (cc is)
split (x ∷ []) link is = record { front = []; whole = ap (λ y. y ∷ []) (some_same x link is); taken = refl }
split (x ∷ y ∷ ys) link is =
    let all : List Link = x ∷ y ∷ ys in
    let e : length all - 1 ≡ suc (length (y ∷ ys) - 1) = omega arith in
    let r = split (y ∷ ys) link (sym (ap (slice_get all) e) ∙ is) in
    record {
      front = x ∷ r.front;
      whole = ap (λ l. x ∷ l) r.whole;
      taken = ap (λ n. take n all) e ∙ ap (λ l. x ∷ l) r.taken;
    }

-- the last link spends what those before it end with
split-linked : (tests : Tests) (block : ℕ) (owner : Owner) (front : List Link) (link : Link)
    → AreLinked tests block owner (front ++ link ∷ [])
    → (link.tx.body.parent ≡ tip_from block front) × (tests.is_signed link.tx (owner_from owner front) ≡ true)
unfolding AreLinked
split-linked tests block owner [] link are = (are.0, are.1)
split-linked tests block owner (x ∷ xs) link are = split-linked tests x.block x.tx.body.to xs link are.2

-- and is later than each
split-rises : (low : ℕ) (front : List Link) (link q : Link) → Rises low (front ++ link ∷ []) → Has front q
    → q.block < link.block
split-rises low [] link q rise h = absurd h
split-rises low (x ∷ xs) link q rise (inl same) =
    let above = has-above x.block (xs ++ link ∷ []) link rise.1 (has-right xs (link ∷ []) link (inl refl)) in
    omega (arith, above, ap (λ (l : Link). l.block) same)
split-rises low (x ∷ xs) link q rise (inr h) = split-rises x.block xs link q rise.1 h

-- no exit stands where none is in the views
none-stands : (log : List RootCall) (c block : ℕ) → exit_in (exits_of log c) block ≡ None → exit_at log c block ≡ None
none-stands log c block none = by (exit_at log c block) (viewed log c block ∙ none)
  where
    by : (o : Option Exit) → option_map exit_view o ≡ None → o ≡ None
    by None is = refl
    by (Some x) is = absurd (cc is)

-- ---- a start at the end of a history

module _ (tests : Tests) (rules : Rules) (log : List RootCall) (account : ℕ) (b : Bundle) (links : Links)
    (is : IsHistory tests rules log b links) (mine : account ≡ (last_owner_of links).account)
    (alive : is_withdrawn log b.coin ≡ false) (unleft : exit_at log b.coin (tip_of links) ≡ None)
    (rich : EXIT_BOND ≤ balance_of log account) where
  abbrev made : CoinView
  made = is.made

  abbrev links_here : List Link
  links_here = Spends tests rules log b links is

  abbrev With : List Link → Links
  With front = record (Own tests rules log b links is) { spends = front }

  opens : AllByRecursion (λ o. opens_block tests log b.coin o ≡ true) b.openings
  opens = recursion_from_All (λ o. opens_block tests log b.coin o ≡ true) b.openings is.opened

  deposit-starts : tip_of links ≡ made.deposit → account ≡ made.owner.account
      → StartsDeposit log account b.coin (tip_of links)
  deposit-starts at own = record {
    coin = made;
    there = is.coin;
    not_withdrawn = alive;
    at_deposit = at;
    owner = own;
    none_stands = unleft;
    covered = rich;
  }

  -- a link of the history is shown, and committed after the deposit
  link-shown : (link : Link) → Has links_here link
      → ShowsTx tests rules log b.coin link.opening link.tx × (link.opening.block ≡ link.block)
      × (made.deposit < link.opening.block) × (is_some (root_at log link.opening.block) ≡ true)
  link-shown link h =
      let o = links-opened tests rules log b.coin b.openings link opens h in
      let above = has-above made.deposit links_here link (rise tests rules log b links is) h in
      (o.shown, o.block, omega (arith, above, o.block), ap is_some o.shown.committed)

  spend-starts : (parent : Shown) (owner : Owner) (link : Link) → Has links_here link
      → shown_owner tests rules log b.coin parent ≡ Some owner
      → is_parent_of log made link.opening.block parent ≡ true
      → link.tx.body.parent ≡ block_of parent → tests.is_signed link.tx owner ≡ true
      → link.tx.body.to.account ≡ account → link.block ≡ tip_of links
      → StartsSpend tests rules log account b.coin parent link.opening
  spend-starts parent owner link h owner_is fits child signed to at =
      let s = link-shown link h in
      record {
        coin = made;
        there = is.coin;
        not_withdrawn = alive;
        committed = and_from (is_some (root_at log link.opening.block)) (nat_lt made.deposit link.opening.block)
            s.3 (lt-ltb made.deposit link.opening.block s.2);
        parent_fits = fits;
        parent_owner = owner;
        parent_shown = owner_is;
        tx = link.tx;
        shown = s.0;
        child = child;
        signed = signed;
        owner = to;
        none_stands = ap (exit_at log b.coin) (s.1 ∙ at) ∙ unleft;
        covered = rich;
      }

  by_parent : (link : Link) (front : List Link) → links_here ≡ front ++ link ∷ []
      → link.tx.body.to.account ≡ account → link.block ≡ tip_of links
      → (p : Option Link) → slice_get front (length front - 1) ≡ p
      → StartsSpend tests rules log account b.coin
      (option_map_or (λ (l : Link). Spend l.opening) p (AtDeposit made.deposit)) link.opening
  by_parent link front whole to at = by_case
    where
      last-has : Has links_here link
      last-has = subst (λ (l : List Link). Has l link) (sym whole) (has-right front (link ∷ []) link (inl refl))

      chain : (link.tx.body.parent ≡ tip_from made.deposit front)
          × (tests.is_signed link.tx (owner_from made.owner front) ≡ true)
      chain = split-linked tests made.deposit made.owner front link
          (subst (AreLinked tests made.deposit made.owner) whole (linked tests rules log b links is))

      by_case : (o : Option Link) → slice_get front (length front - 1) ≡ o
          → StartsSpend tests rules log account b.coin
          (option_map_or (λ (l : Link). Spend l.opening) o (AtDeposit made.deposit)) link.opening
      by_case None none =
          let from : tip_from made.deposit front ≡ made.deposit =
          sym (tip-is (With front))
          ∙ ap (λ (q : Option Link). option_map_or (λ (l : Link). l.block) q made.deposit) none in
          let owner : owner_from made.owner front ≡ made.owner =
          sym (last_owner-is (With front))
          ∙ ap (λ (q : Option Link). option_map_or (λ (l : Link). l.tx.body.to) q made.owner) none in
          spend-starts (AtDeposit made.deposit) made.owner link last-has
          (ap (option_map (λ (m : CoinView). m.owner)) is.coin)
          (eq-eqb made.deposit made.deposit refl) (chain.0 ∙ from)
          (subst (λ w. tests.is_signed link.tx w ≡ true) owner chain.1) to at
      by_case (Some q) some =
          let s = link-shown link last-has in
          let q_front = got-has front (length front - 1) q some in
          let q_has = subst (λ (l : List Link). Has l q) (sym whole) (has-left front (link ∷ []) q q_front) in
          let r = link-shown q q_has in
          let less = split-rises made.deposit front link q
          (subst (Rises made.deposit) whole (rise tests rules log b links is)) q_front in
          let from : tip_from made.deposit front ≡ q.block =
          sym (tip-is (With front))
          ∙ ap (λ (o : Option Link). option_map_or (λ (l : Link). l.block) o made.deposit) some in
          let owner : owner_from made.owner front ≡ q.tx.body.to =
          sym (last_owner-is (With front))
          ∙ ap (λ (o : Option Link). option_map_or (λ (l : Link). l.tx.body.to) o made.owner) some in
          let n : ℕ = q.opening.block in
          spend-starts (Spend q.opening) q.tx.body.to link last-has
          (ap (option_map (λ (t : SignedTx). t.body.to))
          (transfers_are_shown tests rules log b.coin q.opening q.tx r.0))
          (and_from (is_some (root_at log n) && nat_lt made.deposit n) (nat_lt n link.opening.block)
          (and_from (is_some (root_at log n)) (nat_lt made.deposit n) r.3 (lt-ltb made.deposit n r.2))
          (lt-ltb n link.opening.block (omega (arith, less, r.1, s.1)))) (chain.0 ∙ from ∙ sym r.1)
          (subst (λ w. tests.is_signed link.tx w ≡ true) owner chain.1) to at

  pub start-accepted : is_accepted (answer_to tests rules log (start_of account (tip_of links) links)) ≡ true
  start-accepted =
      subst (λ (l : Links). is_accepted (answer_to tests rules log (start_of account (tip_of links) l)) ≡ true)
      (sym is.shown) (by_last (last_spend own) refl)
    where
      own : Links
      own = Own tests rules log b links is

      by_last : (o : Option Link) → last_spend own ≡ o
          → is_accepted (answer_to tests rules log (start_by account (tip_of links) own o)) ≡ true
      by_last None none =
          shown_calls_are_accepted tests rules log (StartDeposit account b.coin (tip_of links))
          (deposit-starts
          (ap tip_of is.shown ∙ ap (λ (o : Option Link). option_map_or (λ (l : Link). l.block) o made.deposit) none)
          (mine ∙ ap (λ (l : Links). (last_owner_of l).account) is.shown
          ∙ ap (λ (o : Option Link). (option_map_or (λ (l : Link). l.tx.body.to) o made.owner).account) none))
      by_last (Some link) some =
          let r = split links_here link some in
          let to : link.tx.body.to.account ≡ account =
          sym (mine ∙ ap (λ (l : Links). (last_owner_of l).account) is.shown
          ∙ ap (λ (o : Option Link). (option_map_or (λ (l : Link). l.tx.body.to) o made.owner).account) some) in
          let at : link.block ≡ tip_of links =
          sym (ap tip_of is.shown ∙ ap (λ (o : Option Link). option_map_or (λ (l : Link). l.block) o made.deposit) some)
          in
          let parent : Shown = tip_shown (first_links (length links_here - 1) own) in
          shown_calls_are_accepted tests rules log (StartSpend account b.coin parent link.opening)
          (subst (λ (ls : List Link). StartsSpend tests rules log account b.coin (tip_shown (With ls)) link.opening)
          (sym r.taken) (by_parent link r.front r.whole to at (slice_get r.front (length r.front - 1)) refl))

-- ---- the one that is advised

-- what asks for it
pub record Asks (log : List RootCall) (account : ℕ) (kept : Kept) : Type 0 where
  pub mine : account ≡ holder kept
  pub alive : is_withdrawn log kept.links.coin ≡ false
  pub unstarted : exit_in (standing log kept) (tip kept) ≡ None

is-none : {X : Type 0} (o : Option X) → is_none o ≡ true → o ≡ None
is-none None is = refl
is-none (Some x) is = absurd (true≢false (sym is))

pub own-in : (log : List RootCall) (account : ℕ) (kept : Kept) (call : RootCall) → Has (own_start log account kept) call
    → Asks log account kept × (start_of account (tip kept) kept.links ≡ call)
own-in log account kept call h =
    let sent : Bool = is_none kept.sent in
    let own : Bool = account == holder kept in
    let paid : Bool = not (is_withdrawn log kept.links.coin) in
    let here : Bool = is_none (left_by log kept.links.coin (tip kept)) in
    let free : Bool = is_none (exit_in (standing log kept) (tip kept)) in
    let may : Bool = may_leave log account kept in
    let bad : Bool = is_planted log kept || kept.hidden in
    (elim (may && bad) as (λ (b : Bool). (may && bad) ≡ b
    → Has (if b then start_of account (tip kept) kept.links ∷ [] else []) call
    → Asks log account kept × (start_of account (tip kept) kept.links ≡ call)) [
      | false ↦ λ other none. absurd none
      | true ↦ λ it there.
          let all = (and_parts may bad it).0 in
          let four = and_parts (sent && own && paid && here) free all in
          let three = and_parts (sent && own && paid) here four.0 in
          let two = and_parts (sent && own) paid three.0 in
          let one = and_parts sent own two.0 in (
            record {
              mine = eqb-true account (holder kept) one.1;
              alive = not-true (is_withdrawn log kept.links.coin) two.1;
              unstarted = is-none (exit_in (standing log kept) (tip kept)) four.1;
            },
            (elim there [ inl same ↦ same | inr none ↦ absurd none ]),
          )
    ]) refl h

pub own-accepted : (tests : Tests) (rules : Rules) (log : List RootCall) (account : ℕ) (bundle : Bundle) (kept : Kept)
    (call : RootCall)
    → IsHistory tests rules log bundle kept.links → Has (own_start log account kept) call
    → is_poor log account call ≡ false → is_accepted (answer_to tests rules log call) ≡ true
own-accepted tests rules log account bundle kept call is h money =
    let asks = own-in log account kept call h in
    let coin : kept.links.coin ≡ bundle.coin = ap (λ (l : Links). l.coin) is.shown in
    subst (λ k. is_accepted (answer_to tests rules log k) ≡ true) asks.1
    (start-accepted tests rules log account bundle kept.links is asks.0.mine
    (ap (is_withdrawn log) (sym coin) ∙ asks.0.alive)
    (ap (λ k. exit_at log k (tip kept)) (sym coin)
    ∙ none-stands log kept.links.coin (tip kept) asks.0.unstarted)
    (subst (λ n. n ≤ balance_of log account) (start-takes account (tip kept) kept.links)
    (ltb-false (balance_of log account) (takes (start_of account (tip kept) kept.links))
    (ap (is_poor log account) asks.1 ∙ money))))
  where
    start-takes : (a t : ℕ) (links : Links) → takes (start_of a t links) ≡ EXIT_BOND
    start-takes a t links = by (last_spend links)
      where
        by : (o : Option Link) → takes (start_by a t links o) ≡ EXIT_BOND
        by None = refl
        by (Some link) = refl
