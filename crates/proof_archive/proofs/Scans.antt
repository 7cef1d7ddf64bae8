-- What is carried forward, opening by opening, is what a scan of all openings finds.
use Rattle.proof_archive.proofs.Words.{◌≡◌, ℕ, suc, ◌<◌, ◌≤◌, ◌==◌, ◌&&◌, not, Bool, true, false, if◌then◌else◌, List, [], ◌∷◌, ◌++◌, reverse, filter, find, Option, Some, None, Ok, inl, inr, refl, sym, ap, ◌∙◌, subst, arith, nat_le, nat_lt, ◌||◌, ◌⊎◌, AllByRecursion, list_any, option_map, eqb-true, eq-eqb, true≢false, le-leb, lt-leb, le-ltb, lt-ltb, or_cases, or_left, or_right, and_parts, and_from, and_left, and_right, All-from_recursion, recursion_from_All, filter-append, find-append, common_steps, reverse-cons, RawOpening, SignedTx, Link, Links, RootCall, CoinView, tip_of, last_owner_of, coin_at, Tests, Rules, spends, signs, some_same, Bundle, AreRising, is_absent, opens_block, transfer_of, links_in, links_of, AreLinked, IsHistory, history_of, links_with, rising-up, every-weaker, tip_from, last-push, tip-is, last_owner-is, with_tx, absent-none, none-linked, IsLeaf, histories_are_found, histories_pass, newest_block, bundle_up_to_newest, is_astray, broken_behind, longest_history, scan_of, is_tip, openings_up_to, links_up_to, Carried, next_tx, moved, step, carried_by, AreKept}
use Rattle.coin_history.proofs.HistoryShape.{tips_are_links}
use Rattle.proof_archive.proofs.Fine.{every-push, every-last, links-none, links-some, IsFine, IsNextLink, fine-none, fine-absent, fine-next, fine-front, fine-last}
use Rattle.proof_archive.proofs.Kept.{none-committed, kept-blocks, kept-asked, kept-deposit, kept-below, kept-opened}

-- ---- up to a block

up-all : (tip : ℕ) (os : List RawOpening) → AllByRecursion (λ x. x.block ≤ tip) os → openings_up_to tip os ≡ os
up-all tip [] all = refl
up-all tip (o ∷ os) all = grind (arith, common_steps, up-all tip os all.1, le-leb) steps 20000

up-past : (tip : ℕ) (os : List RawOpening) (o : RawOpening) → tip < o.block
    → openings_up_to tip (os ++ o ∷ []) ≡ openings_up_to tip os
up-past tip os o past = grind (arith, common_steps, filter-append, lt-leb) steps 20000

abbrev spends_up_to : ℕ → List Link → List Link
spends_up_to tip links = filter (λ link. nat_le link.block tip) links

spends-all : (tip : ℕ) (links : List Link) → AllByRecursion (λ link. link.block ≤ tip) links
    → spends_up_to tip links ≡ links
spends-all tip [] all = refl
spends-all tip (x ∷ xs) all = grind (arith, common_steps, spends-all tip xs all.1, le-leb) steps 20000

spends-past : (tip : ℕ) (links : List Link) (link : Link) → tip < link.block
    → spends_up_to tip (links ++ link ∷ []) ≡ spends_up_to tip links
spends-past tip links link past = grind (arith, common_steps, filter-append, lt-leb) steps 20000

-- a tip is the deposit or a link's block
tip-below : (deposit n tip : ℕ) (links : List Link) → deposit ≤ n → AllByRecursion (λ link. link.block ≤ n) links
    → ((deposit == tip) || list_any (λ (link : Link). link.block == tip) links) ≡ true → tip ≤ n
tip-below deposit n tip [] le all is = grind (arith, common_steps, or_cases, eqb-true, true≢false) steps 20000
tip-below deposit n tip (x ∷ xs) le all is =
    elim (or_cases (deposit == tip) ((x.block == tip) || list_any (λ (link : Link). link.block == tip) xs) is) [
      | inl here ↦ omega (arith, eqb-true deposit tip here)
      | inr later ↦ tip-below x.block n tip xs all.0 all.1 later
    ]

tip-more : (deposit tip : ℕ) (links : List Link) (link : Link)
    → ((deposit == tip) || list_any (λ (x : Link). x.block == tip) (links ++ link ∷ [])) ≡ true
    → (((deposit == tip) || list_any (λ (x : Link). x.block == tip) links) ≡ true) ⊎ (link.block ≡ tip)
tip-more deposit tip [] link is = grind (arith, common_steps, or_cases, or_left, eqb-true, true≢false) steps 20000
tip-more deposit tip (x ∷ xs) link is = grind (arith, common_steps, or_cases, or_left, or_right) steps 20000

-- ---- astray

find-more : (p : RawOpening → Bool) (os : List RawOpening) (o : RawOpening) (n : ℕ)
    → option_map (λ (x : RawOpening). x.block) (find p os) ≡ Some n
    → option_map (λ (x : RawOpening). x.block) (find p (os ++ o ∷ [])) ≡ Some n
find-more p os o n is = grind (arith, common_steps, find-append) steps 20000

find-nothing : (p : RawOpening → Bool) (os : List RawOpening) → AllByRecursion (λ x. p x ≡ false) os
    → find p os ≡ None
find-nothing p [] all = refl
find-nothing p (o ∷ os) all =
    ap (λ (b : Bool). if b then Some o else find p os) all.0 ∙ find-nothing p os all.1

find-last : (p : RawOpening → Bool) (os : List RawOpening) (o : RawOpening) → AllByRecursion (λ x. p x ≡ false) os
    → p o ≡ true → find p (os ++ o ∷ []) ≡ Some o
find-last p os o all is = grind (arith, common_steps, find-append, find-nothing) steps 20000

module _ (tests : Tests) (rules : Rules) (coin : ℕ) (made : CoinView) where
  abbrev linked_up : List Link → Links
  linked_up links = links_with coin made links

  -- an opening at most at a tip, or with an empty leaf, isn't astray
  not-astray : (tip : ℕ) (o : RawOpening) → o.block ≤ tip → is_astray tip o ≡ false
  not-astray tip o le = and_left (nat_lt tip o.block) (not (is_absent o)) (le-ltb tip o.block le)

  absent-not_astray : (tip : ℕ) (o : RawOpening) → is_absent o ≡ true → is_astray tip o ≡ false
  absent-not_astray tip o absent = and_right (nat_lt tip o.block) (not (is_absent o)) (ap not absent)

  -- ---- histories, by what their openings show

  module _ (log : List RootCall) (coin_is : coin_at log coin ≡ Some made) where
    abbrev bundle_of : List RawOpening → Bundle
    bundle_of rev = bundle_up_to_newest coin made rev

    -- openings that show links, the newest one of them, are a history
    history-fine : (o : RawOpening) (older : List RawOpening) → AreKept tests log coin made (o ∷ older)
        → IsFine tests rules coin made (reverse (o ∷ older)) → is_absent o ≡ false
        → IsHistory tests rules log (bundle_of (o ∷ older)) (links_of rules made (bundle_of (o ∷ older)))
    history-fine o older kept fine there =
        let last = fine-last tests rules coin made (reverse older) o there
        (subst (IsFine tests rules coin made) (reverse-cons o older) fine) in
        record {
          made = made;
          coin = coin_is;
          blocks = kept-blocks tests log coin made (o ∷ older) kept;
          opened = All-from_recursion (λ x. opens_block tests log coin x ≡ true) (reverse (o ∷ older))
              (kept-opened tests log coin made (o ∷ older) kept);
          leaves = All-from_recursion (IsLeaf rules coin) (reverse (o ∷ older)) fine.leaves;
          shown = refl;
          linked = fine.linked;
          tip = tip-is (links_of rules made (bundle_of (o ∷ older)))
              ∙ ap (λ (os : List RawOpening). tip_from made.deposit (links_in rules coin os)) (reverse-cons o older)
              ∙ ap (tip_from made.deposit) (links-some rules coin (reverse older) o last.0 last.1.tx_is)
              ∙ last-push (λ link. link.block) made.deposit (links_in rules coin (reverse older)) (with_tx o last.0);
        }

    -- and each history is such
    fine-history : (o : RawOpening) (older : List RawOpening) (links : Links)
        → AreKept tests log coin made (o ∷ older) → history_of tests rules log (bundle_of (o ∷ older)) ≡ Ok links
        → IsFine tests rules coin made (reverse (o ∷ older)) × (is_absent o ≡ false)
    fine-history o older links kept is =
        let bundle : Bundle = bundle_of (o ∷ older) in
        let rising : AreRising (reverse (o ∷ older)) = rising-up (suc made.deposit) (reverse (o ∷ older))
        (kept-asked tests log coin made (o ∷ older) kept).up in
        let h = histories_are_found tests rules log bundle links rising is in
        let same : h.made ≡ made = some_same h.made made (sym h.coin ∙ coin_is) in
        let shown : links ≡ links_of rules made bundle =
        h.shown ∙ ap (λ (m : CoinView). links_of rules m bundle) same in (
          grind (arith, common_steps, recursion_from_All) steps 20000,
          every-last (λ x. x.block ≡ o.block → is_absent x ≡ false) (reverse older) o
              (subst (AllByRecursion (λ (x : RawOpening). x.block ≡ o.block → is_absent x ≡ false))
              (reverse-cons o older)
              (recursion_from_All (λ x. x.block ≡ o.block → is_absent x ≡ false) (reverse (o ∷ older))
              (tips_are_links tests rules log bundle links h))) refl,
        )

    -- the bundle up to the deposit is one
    bare-history : (tip : ℕ) → made.deposit ≡ tip
        → IsHistory tests rules log (record { coin = coin; tip = tip; openings = [] }) (linked_up [])
    unfolding AreLinked
    bare-history tip e = grind (arith, common_steps, none-committed, none-linked) steps 20000

    abbrev longest : List RawOpening → Links
    longest rev = longest_history tests rules log coin made rev

    -- the longest history of openings that show links has all of these
    longest-more : (o : RawOpening) (older : List RawOpening) → AreKept tests log coin made (o ∷ older)
        → IsFine tests rules coin made (reverse (o ∷ older)) → is_absent o ≡ false
        → longest (o ∷ older) ≡ linked_up (links_in rules coin (reverse (o ∷ older)))
    unfolding longest_history
    longest-more o older kept fine there = grind (arith, common_steps, histories_pass, history-fine) steps 20000

    -- and where the newest one isn't a link behind them it stays
    longest-same : (o : RawOpening) (older : List RawOpening) → AreKept tests log coin made (o ∷ older)
        → (IsFine tests rules coin made (reverse (o ∷ older)) → is_absent o ≡ false → ⊥)
        → longest (o ∷ older) ≡ longest older
    unfolding longest_history
    longest-same o older kept none = grind (arith, common_steps, fine-history) steps 20000

    -- ---- what is carried

    -- no opening is broken, or the first one that is
    abbrev IsBroken : List RawOpening → List Link → Option ℕ → Type 0
    IsBroken rev links None =
        IsFine tests rules coin made (reverse rev) × (links ≡ links_in rules coin (reverse rev))
        × AllByRecursion (λ x. is_astray (tip_from made.deposit links) x ≡ false) (reverse rev)
    IsBroken rev links (Some n) =
        (IsFine tests rules coin made (reverse rev) → ⊥)
        × (broken_behind (tip_from made.deposit links) (reverse rev) ≡ Some n)

    -- what a scan finds, the openings the newest first
    record IsScanned (rev : List RawOpening) (carried : Carried) : Type 0 where
      links : longest rev ≡ linked_up carried.spends
      below : AllByRecursion (λ link. link.block ≤ newest_block made.deposit rev) carried.spends
      broken : IsBroken rev carried.spends carried.broken
      begins : (tip : ℕ) → is_tip (linked_up carried.spends) tip ≡ true
          → IsHistory tests rules log (record { coin = coin; tip = tip; openings = openings_up_to tip (reverse rev) })
          (links_up_to tip (linked_up carried.spends))

    scanned-none : IsScanned [] (record { spends = []; broken = None })
    unfolding longest_history
    scanned-none =
        grind (arith, common_steps, none-linked, fine-none, or_cases, bare-history, eqb-true, true≢false) steps 20000

    module _ (o : RawOpening) (older : List RawOpening) (kept : AreKept tests log coin made (o ∷ older))
        (past : newest_block made.deposit older < o.block) (kept_older : AreKept tests log coin made older)
        (carried : Carried) (is : IsScanned older carried) where
      abbrev os : List RawOpening
      os = reverse older

      order : reverse (o ∷ older) ≡ os ++ o ∷ []
      order = reverse-cons o older

      still-below : AllByRecursion (λ (link : Link). link.block ≤ o.block) carried.spends
      still-below = grind (arith, common_steps, every-weaker) steps 20000

      tip-past : (tip : ℕ) → is_tip (linked_up carried.spends) tip ≡ true → tip < o.block
      tip-past tip at =
          let le = tip-below made.deposit (newest_block made.deposit older) tip carried.spends
          (kept-deposit tests log coin made older kept_older) is.below at in omega arith

      -- a bundle up to an earlier tip has the same openings
      earlier : (tip : ℕ) → tip < o.block → openings_up_to tip os ≡ openings_up_to tip (reverse (o ∷ older))
      earlier tip less = sym (ap (openings_up_to tip) order ∙ up-past tip os o less)

      same-begins : (tip : ℕ) → is_tip (linked_up carried.spends) tip ≡ true
          → IsHistory tests rules log
          (record { coin = coin; tip = tip; openings = openings_up_to tip (reverse (o ∷ older)) })
          (links_up_to tip (linked_up carried.spends))
      same-begins tip at =
          subst (λ (l : List RawOpening). IsHistory tests rules log (record { coin = coin; tip = tip; openings = l })
          (links_up_to tip (linked_up carried.spends))) (earlier tip (tip-past tip at)) (is.begins tip at)

      -- an opening behind the links that leaves them
      scanned-same : (broken : Option ℕ) → IsBroken (o ∷ older) carried.spends broken
          → (IsFine tests rules coin made (reverse (o ∷ older)) → is_absent o ≡ false → ⊥)
          → IsScanned (o ∷ older) (record { spends = carried.spends; broken = broken })
      scanned-same broken state none = record {
        links = longest-same o older kept none ∙ is.links;
        below = still-below;
        broken = state;
        begins = same-begins;
      }

      -- where a block is broken already
      broken-stays : (n : ℕ) → IsBroken older carried.spends (Some n) → IsScanned (o ∷ older)
          (record { spends = carried.spends; broken = Some n })
      broken-stays n state =
          let unfine : IsFine tests rules coin made (reverse (o ∷ older)) → ⊥ = λ fine.
          state.0 (fine-front tests rules coin made os o (subst (IsFine tests rules coin made) order fine)) in
          scanned-same (Some n) (
            unfine,
            ap (broken_behind (tip_from made.deposit carried.spends)) order
                ∙ find-more (is_astray (tip_from made.deposit carried.spends)) os o n state.1,
          ) (λ fine there. unfine fine)

      module _ (state : IsBroken older carried.spends None) where
        -- an empty leaf
        absence-stays : is_absent o ≡ true
            → IsScanned (o ∷ older) (record { spends = carried.spends; broken = None })
        absence-stays absent =
            scanned-same None (
              grind (arith, common_steps, order, fine-absent) steps 20000,
              grind (arith, common_steps, order, links-none, absent-none) steps 20000,
              grind (arith, common_steps, tip_from, order, every-push, absent-not_astray) steps 20000,
            ) (λ fine there. true≢false (sym absent ∙ there))

        -- the next link
        link-added : (tx : SignedTx) → is_absent o ≡ false → IsNextLink tests rules coin made carried.spends o tx
            → IsScanned (o ∷ older) (record { spends = carried.spends ++ with_tx o tx ∷ []; broken = None })
        link-added tx there next =
            let shows : IsNextLink tests rules coin made (links_in rules coin os) o tx =
            subst (λ (l : List Link). IsNextLink tests rules coin made l o tx) state.1 next in
            let fine : IsFine tests rules coin made (reverse (o ∷ older)) =
            subst (IsFine tests rules coin made) (sym order) (fine-next tests rules coin made os o tx shows state.0) in
            let all : links_in rules coin (reverse (o ∷ older)) ≡ carried.spends ++ with_tx o tx ∷ [] =
            grind (arith, common_steps, order, links-some, with_tx) steps 20000 in
            let tip_is : tip_from made.deposit (carried.spends ++ with_tx o tx ∷ []) ≡ o.block =
            last-push (λ link. link.block) made.deposit carried.spends (with_tx o tx) in
            let low : AllByRecursion (λ (x : RawOpening). x.block ≤ o.block) (reverse (o ∷ older)) =
            kept-below tests log coin made (o ∷ older) kept in
            let under : AllByRecursion (λ (link : Link). link.block ≤ o.block) (carried.spends ++ with_tx o tx ∷ []) =
            every-push (λ link. link.block ≤ o.block) carried.spends (with_tx o tx) still-below (omega arith) in
            record {
              links = longest-more o older kept fine there ∙ ap linked_up all;
              below = under;
              broken = (
                fine,
                sym all,
                every-weaker (λ x. x.block ≤ o.block)
                    (λ x. is_astray (tip_from made.deposit (carried.spends ++ with_tx o tx ∷ [])) x ≡ false)
                    (grind (arith, common_steps, not-astray, tip_from, with_tx) steps 20000) (reverse (o ∷ older)) low,
              );
              begins = λ tip at. elim (tip-more made.deposit tip carried.spends (with_tx o tx) at) [
                | inl old ↦
                    subst (λ (l : List Link). IsHistory tests rules log
                    (record { coin = coin; tip = tip; openings = openings_up_to tip (reverse (o ∷ older)) })
                    (linked_up l)) (sym (spends-past tip carried.spends (with_tx o tx) (tip-past tip old)))
                    (same-begins tip old)
                | inr here ↦
                    subst (λ (n : ℕ). IsHistory tests rules log
                    (record { coin = coin; tip = n; openings = openings_up_to n (reverse (o ∷ older)) })
                    (linked_up (spends_up_to n (carried.spends ++ with_tx o tx ∷ [])))) here
                    (subst (λ (l : List RawOpening). IsHistory tests rules log
                    (record { coin = coin; tip = o.block; openings = l })
                    (linked_up (spends_up_to o.block (carried.spends ++ with_tx o tx ∷ []))))
                    (sym (up-all o.block (reverse (o ∷ older)) low))
                    (subst (λ (l : List Link). IsHistory tests rules log (bundle_of (o ∷ older)) (linked_up l))
                    (all ∙ sym (spends-all o.block (carried.spends ++ with_tx o tx ∷ []) under))
                    (history-fine o older kept fine there)))
              ];
            }

        -- any other leaf
        link-breaks : is_absent o ≡ false
            → ((tx : SignedTx) → IsNextLink tests rules coin made carried.spends o tx → ⊥)
            → IsScanned (o ∷ older) (record { spends = carried.spends; broken = Some o.block })
        link-breaks there none =
            let unfine : IsFine tests rules coin made (reverse (o ∷ older)) → ⊥ =
            grind (arith, common_steps, fine-last, order) steps 20000 in
            let tip : ℕ = tip_from made.deposit carried.spends in
            let less : tip < o.block = grind (arith, common_steps, tip-under, kept-deposit, every-weaker) steps 20000 in
            scanned-same (Some o.block) (
              unfine,
              grind (arith, common_steps, order, find-last, and_from, lt-ltb) steps 20000,
            ) (λ fine far. unfine fine)
          where
            tip-under : (deposit : ℕ) (links : List Link) → deposit < o.block
                → AllByRecursion (λ (link : Link). link.block < o.block) links → tip_from deposit links < o.block
            tip-under deposit [] here all = here
            tip-under deposit (x ∷ xs) here all = tip-under x.block xs all.0 all.1

        -- ---- which of them it is

        next-or : (t : Option SignedTx) → transfer_of rules coin o ≡ t → is_absent o ≡ false
            → IsScanned (o ∷ older) (moved (record { spends = carried.spends; broken = None }) o
            (next_tx tests (linked_up carried.spends) t))
        next-or None none there =
            link-breaks there (λ tx next. absurd (cc (none, next.tx_is)))
        next-or (Some tx) some there =
            (elim (spends (tip_of (linked_up carried.spends)) (Some tx)
            && signs tests (Some (last_owner_of (linked_up carried.spends))) (Some tx)) as (λ b.
            (spends (tip_of (linked_up carried.spends)) (Some tx)
            && signs tests (Some (last_owner_of (linked_up carried.spends))) (Some tx)) ≡ b
            → IsScanned (o ∷ older) (moved (record { spends = carried.spends; broken = None }) o
            (if b then Some tx else None))) [
              | true ↦ λ both.
                  let parts = and_parts (spends (tip_of (linked_up carried.spends)) (Some tx))
                  (signs tests (Some (last_owner_of (linked_up carried.spends))) (Some tx)) both in
                  link-added tx there (record {
                    tx_is = some;
                    parent = eqb-true tx.body.parent (tip_of (linked_up carried.spends)) parts.0
                        ∙ tip-is (linked_up carried.spends);
                    signed = ap (tests.is_signed tx) (sym (last_owner-is (linked_up carried.spends))) ∙ parts.1;
                  })
              | false ↦ λ fails. link-breaks there (λ other next.
                  let same : tx ≡ other = some_same tx other (sym some ∙ next.tx_is) in
                  let two : (spends (tip_of (linked_up carried.spends)) (Some tx)
                  && signs tests (Some (last_owner_of (linked_up carried.spends))) (Some tx)) ≡ true =
                  and_from (spends (tip_of (linked_up carried.spends)) (Some tx))
                  (signs tests (Some (last_owner_of (linked_up carried.spends))) (Some tx))
                  (eq-eqb tx.body.parent (tip_of (linked_up carried.spends))
                  (ap (λ (t : SignedTx). t.body.parent) same ∙ next.parent ∙ sym (tip-is (linked_up carried.spends))))
                  (ap (λ (t : SignedTx). tests.is_signed t (last_owner_of (linked_up carried.spends))) same
                  ∙ ap (tests.is_signed other) (last_owner-is (linked_up carried.spends)) ∙ next.signed) in
                  true≢false (sym two ∙ fails))
            ]) refl

    -- the next opening of a coin of which no block is broken, and of one of which one is
    stepped : (o : RawOpening) (older : List RawOpening) (links : List Link) (broken : Option ℕ)
        → AreKept tests log coin made (o ∷ older) → newest_block made.deposit older < o.block
        → AreKept tests log coin made older → IsScanned older (record { spends = links; broken = broken })
        → IsScanned (o ∷ older) (step tests rules coin made (record { spends = links; broken = broken }) o)
    stepped o older links (Some n) kept past kept_older is =
        elim (is_absent o) as (λ a. IsScanned (o ∷ older) (if a || true
        then record { spends = links; broken = Some n }
        else moved (record { spends = links; broken = Some n }) o
        (next_tx tests (linked_up links) (transfer_of rules coin o)))) [
          | true ↦ broken-stays o older kept past kept_older (record { spends = links; broken = Some n }) is n is.broken
          | false ↦ broken-stays o older kept past kept_older (record { spends = links; broken = Some n }) is n
              is.broken
        ]
    stepped o older links None kept past kept_older is =
        (elim (is_absent o) as (λ a. is_absent o ≡ a → IsScanned (o ∷ older) (if a || false
        then record { spends = links; broken = None }
        else moved (record { spends = links; broken = None }) o
        (next_tx tests (linked_up links) (transfer_of rules coin o)))) [
          | true ↦ λ absent. absence-stays o older kept past kept_older (record { spends = links; broken = None }) is
              is.broken absent
          | false ↦ λ there. next-or o older kept past kept_older (record { spends = links; broken = None }) is
              is.broken (transfer_of rules coin o) refl there
        ]) refl

    scanned : (rev : List RawOpening) → AreKept tests log coin made rev
        → IsScanned rev (carried_by tests rules coin made rev)
    unfolding AreKept carried_by
    scanned [] kept = scanned-none
    scanned (o ∷ older) kept =
        let before : Carried = carried_by tests rules coin made older in
        stepped o older before.spends before.broken kept kept.0 kept.3 (scanned older kept.3)

    -- ---- the scan

    broken-found : (rev : List RawOpening) (links : List Link) (broken : Option ℕ) → IsBroken rev links broken
        → broken_behind (tip_from made.deposit links) (reverse rev) ≡ broken
    broken-found rev links broken state = grind (arith, common_steps, find-nothing, tip_from) steps 20000

    -- a scan of the kept openings finds what is carried of them
    pub scan-carried : (kept : List RawOpening) → reverse (reverse kept) ≡ kept
        → AreKept tests log coin made (reverse kept)
        → (scan_of tests rules log coin made kept).links
        ≡ links_with coin made (carried_by tests rules coin made (reverse kept)).spends
    unfolding scan_of
    scan-carried kept same are = (scanned (reverse kept) are).links

    pub scan-broken : (kept : List RawOpening) → reverse (reverse kept) ≡ kept
        → AreKept tests log coin made (reverse kept)
        → (scan_of tests rules log coin made kept).broken ≡ (carried_by tests rules coin made (reverse kept)).broken
    unfolding scan_of
    scan-broken kept same are =
        let carried : Carried = carried_by tests rules coin made (reverse kept) in
        let s = scanned (reverse kept) are in
        ap (λ (l : Links). broken_behind (tip_of l) kept) s.links
        ∙ ap (λ (n : ℕ). broken_behind n kept) (tip-is (links_with coin made carried.spends))
        ∙ ap (broken_behind (tip_from made.deposit carried.spends)) (sym same)
        ∙ broken-found (reverse kept) carried.spends carried.broken s.broken

    -- up to each tip they are a history
    pub scan-begins : (kept : List RawOpening) → reverse (reverse kept) ≡ kept
        → AreKept tests log coin made (reverse kept) → (tip : ℕ)
        → is_tip (links_with coin made (carried_by tests rules coin made (reverse kept)).spends) tip ≡ true
        → IsHistory tests rules log (record { coin = coin; tip = tip; openings = openings_up_to tip kept })
        (links_up_to tip (links_with coin made (carried_by tests rules coin made (reverse kept)).spends))
    scan-begins kept same are tip at =
        subst (λ (os : List RawOpening).
        IsHistory tests rules log (record { coin = coin; tip = tip; openings = openings_up_to tip os })
        (links_up_to tip (links_with coin made (carried_by tests rules coin made (reverse kept)).spends))) same
        ((scanned (reverse kept) are).begins tip at)
