-- The reserve suffices, and no less does.
use Rattle.money_laws.proofs.Basics.{◌≡◌, ℕ, ◌+◌, ◌<◌, ◌≤◌, ◌==◌, ◌&&◌, not, Bool, true, false, if◌then◌else◌, List, [], ◌∷◌, ◌++◌, Option, Some, None, option_map, inl, inr, refl, sym, ap, ◌∙◌, subst, arith, is_some, is_none, nat_lt, list_any, list_all, cases_Bool, eqb-true, eq-eqb, lt-ltb, ltb-true, leb-true, and_parts, and_from, or_parts, or_cases, not_from_false, true≢false, false≢true, false_from_ne_true, common_steps}
use Rattle.money_laws.proofs.CoinWords.{CHALLENGE_BOND, CHALLENGE_WINDOW, Owner, Shown, RootCall, Before, CoinView, now, block_at, coin_at, Challenge, Exit, exits, exit_at, block_of, challenge_at, with_challenge, new_challenge, Tests, Rules, shown_tx, shown_owner, is_over, is_before_parent, pays, takes, share_of, balance_of, accepted_calls_show, same-challenged, Has}
use Rattle.money_laws.proofs.WorldWords.{some_same, and-off, found-has, is_none-push, sum_over, needs_before, asks, reserve, Tip, reserve_of, AreAccepted, with_calls, is_before_by, is_at_tip, AreApart, ReserveIsNeeded}
use Rattle.plasma_tx.proofs.Names.{option_or-none, find-changed, challenge_at-push}
use Rattle.money_laws.proofs.SumsOver.{changed}

-- ---- the parts of a sum

pub over-one : (of : Exit → ℕ) (xs : List Exit) (x : Exit) → Has xs x → of x ≤ sum_over of xs
unfolding sum_over
over-one of [] x there = absurd there
over-one of (y ∷ ys) x (inl is) =
    let same : of y ≡ of x = ap of is in omega (arith, same)
over-one of (y ∷ ys) x (inr there) = omega (arith, over-one of ys x there)

-- the reserve of a tip is no more than that of the tips
pub tip-one : (log : List RootCall) (c e : ℕ) (tips : List Tip) → list_any (is_at_tip c e) tips ≡ true
    → reserve log c e ≤ reserve_of log tips
unfolding reserve_of
tip-one log c e [] is = absurd (false≢true is)
tip-one log c e (tip ∷ tips) is =
    elim (or_cases (is_at_tip c e tip) (list_any (is_at_tip c e) tips) is) [
      | inl here ↦ grind (arith, common_steps, and_parts, eqb-true)
      | inr later ↦ omega (arith, tip-one log c e tips later)
    ]

-- ---- what an exit asks

abbrev pub bond_if : Bool → ℕ
bond_if b = if b then CHALLENGE_BOND else 0

asks-most : (a : Bool) → bond_if a ≤ CHALLENGE_BOND
asks-most true = omega arith
asks-most false = omega arith

asks-less : (a b m n o : Bool) → (n ≡ false → m ≡ false) → bond_if (a && (b && m && o)) ≤ bond_if (a && (b && n && o))
asks-less a b m n o off = grind (arith, common_steps, true≢false)

asks-none : (a b m o : Bool) → m ≡ false → bond_if (a && (b && m && o)) ≡ 0
asks-none a b m o off = grind (arith, common_steps, true≢false)

-- a challenge that was made is there
push-there : (challenges : List Challenge) (new : Challenge)
    → is_none (challenge_at new.block (challenges ++ new ∷ [])) ≡ false
push-there [] new = ap (λ (b : Bool). is_none (if b then Some new else None)) (eq-eqb new.block new.block refl)
push-there (first ∷ rest) new = grind (arith, common_steps, push-there rest new)

module _ (log : List RootCall) (c e : ℕ) where
  challenged-less : (x : Exit) (new : Challenge) → is_some (challenge_at new.block x.challenges) ≡ false
      → asks log c e (with_challenge new x) ≤ asks log c e x
  challenged-less x new none = grind (arith, common_steps, asks-less, is_none-push)

  challenged-none : (x : Exit) (new : Challenge) → is_some (challenge_at new.block x.challenges) ≡ false
      → new.block ≡ e → asks log c e (with_challenge new x) ≡ 0
  challenged-none x new none at = grind (arith, common_steps, asks-none, push-there)

-- a challenge at another block leaves who is challenged at this one
push-same : (b : ℕ) (challenges : List Challenge) (new : Challenge) → (new.block == b) ≡ false
    → challenge_at b (challenges ++ new ∷ []) ≡ challenge_at b challenges
push-same b challenges new apart = grind (arith, common_steps, challenge_at-push, option_or-none)

-- so what the exit asks elsewhere stays
asks-same : (log : List RootCall) (k e : ℕ) (x : Exit) (new : Challenge)
    → is_some (challenge_at new.block x.challenges) ≡ false → ((x.coin == k) && (new.block == e)) ≡ false
    → asks log k e (with_challenge new x) ≡ asks log k e x
asks-same log k e x new none apart = grind (arith, common_steps, cases_Bool, push-same, and-off)

-- ---- one Before

-- the Before is accepted, but for the money
pub record Could (tests : Tests) (rules : Rules) (log : List RootCall) (c f : ℕ) (shown : Shown) : Type 0 where
  pub exit : Exit
  pub stands : exit_at log c f ≡ Some exit
  pub in_time : now log < exit.start + CHALLENGE_WINDOW
  pub before : is_before_parent log (coin_at log c) exit shown ≡ true
  pub owner : Owner
  pub owner_shown : shown_owner tests rules log c shown ≡ Some owner
  pub none_there : challenge_at (block_of shown) exit.challenges ≡ None

-- what is shown comes before the exit's parent
before-parent : (log : List RootCall) (made : Option CoinView) (exit : Exit) (shown : Shown)
    → is_before_parent log made exit shown ≡ true → block_of shown < exit.parent
before-parent log made exit shown is = grind (arith, common_steps, false≢true, and_parts, eqb-true, ltb-true)

-- so the exit asks for it
pub could-asks : (tests : Tests) (rules : Rules) (log : List RootCall) (c f : ℕ) (shown : Shown)
    (could : Could tests rules log c f shown) → asks log c (block_of shown) could.exit ≡ CHALLENGE_BOND
could-asks tests rules log c f shown could =
    let e : ℕ = block_of shown in
    let place = found-has log c f could.exit could.stands in
    let above = before-parent log (coin_at log c) could.exit shown could.before in
    let free : is_none (challenge_at e could.exit.challenges) ≡ true = ap is_none could.none_there in
    let early : is_over log could.exit.start CHALLENGE_WINDOW ≡ false =
    false_from_ne_true (is_over log could.exit.start CHALLENGE_WINDOW) (λ over.
    let late = leb-true (could.exit.start + CHALLENGE_WINDOW) (now log) over in
    absurd (omega (arith, late, could.in_time))) in
    ap bond_if (and_from (could.exit.coin == c) (needs_before log e could.exit)
    (eq-eqb could.exit.coin c place.1)
    (and_from (nat_lt e could.exit.parent && is_none (challenge_at e could.exit.challenges))
    (not (is_over log could.exit.start CHALLENGE_WINDOW))
    (and_from (nat_lt e could.exit.parent) (is_none (challenge_at e could.exit.challenges))
    (lt-ltb e could.exit.parent above) free)
    (not_from_false (is_over log could.exit.start CHALLENGE_WINDOW) early)))

-- and the reserve has its bond
pub could-reserve : (tests : Tests) (rules : Rules) (log : List RootCall) (c f : ℕ) (shown : Shown)
    → Could tests rules log c f shown → CHALLENGE_BOND ≤ reserve log c (block_of shown)
could-reserve tests rules log c f shown could =
    let place = found-has log c f could.exit could.stands in
    let one = over-one (asks log c (block_of shown)) (exits log) could.exit place.0 in
    omega (arith, could-asks tests rules log c f shown could, one)

-- ---- the reserve after a Before

module _ (log : List RootCall) (by c f : ℕ) (shown : Shown) (x : Exit) (stands : exit_at log c f ≡ Some x)
    (none : challenge_at (block_of shown) x.challenges ≡ None) where
  fresh : is_some (challenge_at (block_of shown) x.challenges) ≡ false
  fresh = ap is_some none

  change : (k e : ℕ) → reserve (Before by c f shown ∷ log) k e + asks log k e x
      ≡ reserve log k e + asks log k e (with_challenge (new_challenge log by c f shown) x)
  unfolding exits now
  change k e = changed (asks log k e) log c f (with_challenge (new_challenge log by c f shown)) x stands

  no-more : (k e : ℕ) → reserve (Before by c f shown ∷ log) k e ≤ reserve log k e
  no-more k e = omega (arith, change k e, challenged-less log k e x (new_challenge log by c f shown) fresh)

  at-most-one : (k e : ℕ) → reserve log k e ≤ reserve (Before by c f shown ∷ log) k e + CHALLENGE_BOND
  at-most-one k e = omega (arith, change k e, asks-most ((x.coin == k) && needs_before log e x))

  -- at another tip it stays
  stays : (tip : Tip) → is_at_tip c (block_of shown) tip ≡ false
      → reserve log tip.coin tip.block ≤ reserve (Before by c f shown ∷ log) tip.coin tip.block
  stays tip apart =
      let place = found-has log c f x stands in
      let off = false_from_ne_true ((x.coin == tip.coin) && (block_of shown == tip.block)) (λ yes.
      let parts = and_parts (x.coin == tip.coin) (block_of shown == tip.block) yes in
      true≢false (sym (and_from (tip.coin == c) (tip.block == block_of shown)
      (eq-eqb tip.coin c (sym (eqb-true x.coin tip.coin parts.0) ∙ place.1))
      (eq-eqb tip.block (block_of shown) (sym (eqb-true (block_of shown) tip.block parts.1)))) ∙ apart)) in
      omega (
        arith,
        change tip.coin tip.block,
        asks-same log tip.coin tip.block x (new_challenge log by c f shown) fresh off,
      )

  all-stay : (tips : List Tip) → list_any (is_at_tip c (block_of shown)) tips ≡ false
      → reserve_of log tips ≤ reserve_of (Before by c f shown ∷ log) tips
  unfolding reserve_of
  all-stay [] apart = omega arith
  all-stay (tip ∷ tips) apart =
      let parts = or_parts (is_at_tip c (block_of shown) tip) (list_any (is_at_tip c (block_of shown)) tips) apart in
      omega (arith, stays tip parts.0, all-stay tips parts.1)

  -- so it falls by one bond at most
  all-at-most-one : (tips : List Tip) → AreApart tips
      → reserve_of log tips ≤ reserve_of (Before by c f shown ∷ log) tips + CHALLENGE_BOND
  unfolding reserve_of AreApart
  all-at-most-one [] apart = omega arith
  all-at-most-one (tip ∷ tips) apart =
      elim (cases_Bool (is_at_tip c (block_of shown) tip)) [
        | inl here ↦
            let parts = and_parts (tip.coin == c) (tip.block == block_of shown) here in
            let rest : list_any (is_at_tip c (block_of shown)) tips ≡ false =
            subst (λ n. list_any (is_at_tip n (block_of shown)) tips ≡ false) (eqb-true tip.coin c parts.0)
            (subst (λ m. list_any (is_at_tip tip.coin m) tips ≡ false)
            (eqb-true tip.block (block_of shown) parts.1) apart.0) in
            omega (arith, at-most-one tip.coin tip.block, all-stay tips rest)
        | inr other ↦ omega (arith, stays tip other, all-at-most-one tips apart.1)
      ]

  one-less : asks log c (block_of shown) x ≡ CHALLENGE_BOND
      → reserve (Before by c f shown ∷ log) c (block_of shown) + CHALLENGE_BOND ≤ reserve log c (block_of shown)
  one-less asked =
      omega (
        arith,
        change c (block_of shown),
        challenged-none log c (block_of shown) x (new_challenge log by c f shown) fresh refl,
        asked,
      )

  all-no-more : (tips : List Tip) → reserve_of (Before by c f shown ∷ log) tips ≤ reserve_of log tips
  unfolding reserve_of
  all-no-more [] = omega arith
  all-no-more (tip ∷ tips) = omega (arith, no-more tip.coin tip.block, all-no-more tips)

  pub all-less : asks log c (block_of shown) x ≡ CHALLENGE_BOND → (tips : List Tip)
      → list_any (is_at_tip c (block_of shown)) tips ≡ true
      → reserve_of (Before by c f shown ∷ log) tips + CHALLENGE_BOND ≤ reserve_of log tips
  unfolding reserve_of
  all-less asked [] is = absurd (false≢true is)
  all-less asked (tip ∷ tips) is =
      elim (or_cases (is_at_tip c (block_of shown) tip) (list_any (is_at_tip c (block_of shown)) tips) is) [
        | inl here ↦ grind (arith, common_steps, and_parts, eqb-true, one-less, all-no-more)
        | inr later ↦ omega (arith, no-more tip.coin tip.block, all-less asked tips later)
      ]

-- what it takes
pub taken : (log : List RootCall) (by c f : ℕ) (shown : Shown) → CHALLENGE_BOND ≤ balance_of log by
    → balance_of (Before by c f shown ∷ log) by + CHALLENGE_BOND ≡ balance_of log by
unfolding balance_of pays takes share_of
taken log by c f shown covered = grind (arith, common_steps, eq-eqb)

-- ---- no less suffices

needed : (tests : Tests) (rules : Rules) (calls log : List RootCall) (account : ℕ) (tips : List Tip)
    → AreApart tips → list_all (is_before_by account) calls ≡ true → AreAccepted tests rules log calls
    → reserve_of (with_calls log calls) tips ≡ 0 → reserve_of log tips ≤ balance_of log account
unfolding AreAccepted with_calls
needed tests rules [] log account tips apart mine accepted none = omega (arith, none)
needed tests rules (Before by k f shown ∷ calls) log account tips apart mine accepted none =
    let parts = and_parts (by == account) (list_all (is_before_by account) calls) mine in
    let is = eqb-true by account parts.0 in
    let s = accepted_calls_show tests rules log (Before by k f shown) accepted.0 in
    let rest = needed tests rules calls (Before by k f shown ∷ log) account tips apart parts.1 accepted.1 none in
    let most = all-at-most-one log by k f shown s.exit s.stands s.none_there tips apart in
    let cost : balance_of (Before by k f shown ∷ log) account + CHALLENGE_BOND ≡ balance_of log account =
    subst (λ n. balance_of (Before by k f shown ∷ log) n + CHALLENGE_BOND ≡ balance_of log n) is
    (taken log by k f shown s.covered) in
    omega (arith, rest, most, cost)
needed tests rules (call ∷ calls) log account tips apart mine accepted none =
    absurd (false≢true (and_parts (is_before_by account call) (list_all (is_before_by account) calls) mine).0)

pub reserve_is_needed : ReserveIsNeeded
reserve_is_needed tests rules log account tips calls = needed tests rules calls log account tips

-- ---- another Before after one

-- a challenge at another block isn't the new one
push-other : (b : ℕ) (challenges : List Challenge) (new : Challenge) → challenge_at b challenges ≡ None
    → (new.block == b) ≡ false → challenge_at b (challenges ++ new ∷ []) ≡ None
push-other b challenges new none apart = grind (arith, common_steps, challenge_at-push)

-- what comes before the parent does so after a Before
before-same : (log : List RootCall) (by c f : ℕ) (shown offered : Shown) (made : Option CoinView) (one other : Exit)
    → one.parent ≡ other.parent → is_before_parent log made one offered ≡ true
    → is_before_parent (Before by c f shown ∷ log) made other offered ≡ true
unfolding block_at
before-same log by c f shown offered made one other same is = grind (arith, common_steps, false≢true)

module _ (tests : Tests) (rules : Rules) (log : List RootCall) (by c f : ℕ) (shown : Shown) (x : Exit)
    (stands : exit_at log c f ≡ Some x) (none : challenge_at (block_of shown) x.challenges ≡ None)
    (k g : ℕ) (offered : Shown) (could : Could tests rules log k g offered) where
  found-after : exit_at (Before by c f shown ∷ log) k g
      ≡ (if (c == k) && (f == g) then option_map (with_challenge (new_challenge log by c f shown)) (exit_at log k g)
      else exit_at log k g)
  unfolding exits exit_at
  found-after =
      find-changed k g c f (with_challenge (new_challenge log by c f shown))
      (λ y. ap (λ (z : Exit). z.coin) (same-challenged (new_challenge log by c f shown) y))
      (λ y. ap (λ (z : Exit). z.block) (same-challenged (new_challenge log by c f shown) y)) (exits log)

  other-could : ((c == k) && (f == g)) ≡ false → Could tests rules (Before by c f shown ∷ log) k g offered
  unfolding now coin_at block_at shown_tx
  other-could other = grind (arith, common_steps, found-after)

  same-could : ((c == k) && (f == g)) ≡ true → (block_of shown == block_of offered) ≡ false
      → Could tests rules (Before by c f shown ∷ log) k g offered
  unfolding now coin_at block_at shown_tx
  same-could own apart =
      grind (arith, common_steps, and_parts, eqb-true, some_same, found-after, before-same, push-other)

  pub could-after : ((c == k) && (f == g) && (block_of shown == block_of offered)) ≡ false
      → Could tests rules (Before by c f shown ∷ log) k g offered
  could-after apart = grind (arith, common_steps, cases_Bool, same-could, other-could)
