-- Maps of a coin's exits, as loops fill them.
use Rattle.coin_safety.proofs.Words.{◌≡◌, ◌<◌, ℕ, suc, ◌+◌, ◌-◌, ◌==◌, ◌&&◌, min, cond, true, false, if◌then◌else◌, List, [], ◌∷◌, ◌++◌, length, map, filter, take, drop, get_or, reverse, Option, Some, None, inl, inr, refl, sym, ap, ◌∙◌, subst, arith, drop-cons, slice_get, option_and_then, option_map_or, nat_cmp, is_at, cases_eq, eq-eqb, ne_eqb, map-append, filter_more, slice_get-get_or, RawOpening, RootCall, Fund, Tick, Deposit, Commit, StartDeposit, StartSpend, After, Between, Before, Respond, Finish, ExitView, eqb-flip, is_at-nat, least, exit_in, lowest, start_shown, spend_in}
use Rattle.coin_safety.proofs.Lists.{reversed-more}
use Rattle.coin_safety.proofs.Numbers.{least-push}

-- ---- places

-- an insert into the map, at the last place before those that were put in
pub places-more : (exits : List ExitView) (u : ℕ) (x : ExitView) (old new : ℕ → Option ℕ) → u - 1 < length exits → 0 < u
    → x ≡ get_or exits (u - 1) x
    → ((q : ℕ) → new q ≡ cond (is_at (nat_cmp (get_or exits (u - 1) x).block) q) (Some (u - 1)) (old q))
    → ((q : ℕ) → option_and_then (slice_get exits) (old q) ≡ exit_in (drop u exits) q)
    → (q : ℕ) → option_and_then (slice_get exits) (new q) ≡ exit_in (drop (u - 1) exits) q
places-more exits u x old new within some at insert was q =
    let n : ℕ = u - 1 in
    let next : suc n ≡ u = omega arith in
    ap (option_and_then (slice_get exits))
    (insert q ∙ ap (λ (y : ExitView). cond (is_at (nat_cmp y.block) q) (Some n) (old q)) (sym at)
    ∙ ap (λ b. cond b (Some n) (old q)) (is_at-nat x.block q))
    ∙ (elim (q == x.block) as (λ b. (q == x.block) ≡ b
    → option_and_then (slice_get exits) (cond b (Some n) (old q))
    ≡ cond (x.block == q) (Some x) (exit_in (drop u exits) q)) [
      | true ↦ λ is. slice_get-get_or exits n x within ∙ ap (λ y. Some y) (sym at)
          ∙ ap (λ b. cond b (Some x) (exit_in (drop u exits) q)) (sym (eqb-flip x.block q ∙ is))
      | false ↦ λ other. was q
          ∙ ap (λ b. cond b (Some x) (exit_in (drop u exits) q)) (sym (eqb-flip x.block q ∙ other))
    ]) refl
    ∙ ap (λ k. cond (x.block == q) (Some x) (exit_in (drop k exits) q)) (sym next)
    ∙ ap (λ y. exit_in (y ∷ drop (suc n) exits) q) at
    ∙ ap (λ l. exit_in l q) (sym (drop-cons exits n x within))

-- ---- the lowest block of each parent

module _ (xs : List ExitView) (i : ℕ) (x : ExitView) (within : i < length xs) where
  abbrev y : ExitView
  y = get_or xs i x

  abbrev blocks : ℕ → List ℕ
  blocks q = map (λ exit. exit.block) (filter (λ exit. exit.parent == q) (take i xs))

  grown : (q : ℕ) → lowest (take (i + 1) xs) q ≡ least (blocks q ++ (if y.parent == q then y.block ∷ [] else []))
  grown q =
      ap (λ l. least (map (λ (exit : ExitView). exit.block) l))
      (filter_more (λ (exit : ExitView). exit.parent == q) xs i x within)
      ∙ ap least (map-append (λ (exit : ExitView). exit.block)
      (filter (λ (exit : ExitView). exit.parent == q) (take i xs)) (cond (y.parent == q) (y ∷ []) []))
      ∙ ap (λ l. least (blocks q ++ l))
      (elim (y.parent == q) as (λ b. map (λ (exit : ExitView). exit.block) (cond b (y ∷ []) [])
      ≡ (if b then y.block ∷ [] else [])) [ true ↦ refl | false ↦ refl ])

  append_nil : (l : List ℕ) → l ++ [] ≡ l
  append_nil [] = refl
  append_nil (k ∷ ks) = ap (λ l. k ∷ l) (append_nil ks)

  lowered : (found : ℕ → Option ℕ) → ((q : ℕ) → found q ≡ lowest (take i xs) q) → (q : ℕ)
      → (if q == y.parent then Some (option_map_or (min y.block) (found y.parent) y.block) else found q)
      ≡ lowest (take (i + 1) xs) q
  lowered found was q =
      elim (cases_eq q y.parent) [
        | inl is ↦ subst (λ k. (if k == y.parent then Some (option_map_or (min y.block) (found y.parent) y.block)
            else found k) ≡ lowest (take (i + 1) xs) k) (sym is)
            (ap (λ b. if b then Some (option_map_or (min y.block) (found y.parent) y.block) else found y.parent)
            (eq-eqb y.parent y.parent refl)
            ∙ ap (λ (o : Option ℕ). Some (option_map_or (min y.block) o y.block)) (was y.parent)
            ∙ sym (least-push (blocks y.parent) y.block)
            ∙ ap (λ b. least (blocks y.parent ++ (if b then y.block ∷ [] else [])))
            (sym (eq-eqb y.parent y.parent refl))
            ∙ sym (grown y.parent))
        | inr other ↦
            ap (λ b. if b then Some (option_map_or (min y.block) (found y.parent) y.block) else found q)
            (ne_eqb q y.parent other)
            ∙ was q
            ∙ ap least (sym (append_nil (blocks q)))
            ∙ ap (λ b. least (blocks q ++ (if b then y.block ∷ [] else [])))
            (sym (ne_eqb y.parent q (λ e. other (sym e))))
            ∙ sym (grown q)
      ]

  pub lowest-more : (found : ℕ → Option ℕ) → x ≡ y → ((q : ℕ) → found q ≡ lowest (take i xs) q) → (q : ℕ)
      → (if q == x.parent then Some (option_map_or (min x.block) (found x.parent) x.block) else found q)
      ≡ lowest (take (i + 1) xs) q
  lowest-more found at was q =
      ap (λ (z : ExitView). if q == z.parent then Some (option_map_or (min z.block) (found z.parent) z.block)
      else found q) at ∙ lowered found was q

pub lowest-none : (found : Option ℕ) (q : ℕ) → found ≡ None → found ≡ lowest [] q
unfolding least
lowest-none found q is = is

-- ---- starts

pub starts-none : (c : ℕ) (events : List RootCall) (found : Option ℕ) (q : ℕ) → found ≡ None
    → option_and_then (λ n. option_and_then (spend_in c) (slice_get events n)) found ≡ start_shown (reverse []) c q
unfolding start_shown
starts-none c events found q is =
    ap (option_and_then (λ n. option_and_then (spend_in c) (slice_get events n))) is

-- what one more call shows
abbrev pub starts_next : ℕ → RootCall → ℕ → Option RawOpening → Option RawOpening
starts_next c call q before =
    option_map_or (λ exit. if exit.block == q then Some exit else before) (spend_in c call) before

next-start : (c : ℕ) (call : RootCall) (log : List RootCall) (q : ℕ)
    → start_shown (call ∷ log) c q ≡ starts_next c call q (start_shown log c q)
unfolding start_shown
next-start c (StartSpend account coin parent exit) log q =
    elim (coin == c) as (λ b. (if b && (exit.block == q) then Some exit else start_shown log c q)
    ≡ option_map_or (λ it. if it.block == q then Some it else start_shown log c q) (if b then Some exit else None)
    (start_shown log c q)) [ true ↦ refl | false ↦ refl ]
next-start c (Fund account amount) log q = refl
next-start c (Tick time) log q = refl
next-start c (Deposit account amount key) log q = refl
next-start c (Commit account root) log q = refl
next-start c (StartDeposit account coin block) log q = refl
next-start c (After account coin exit spend) log q = refl
next-start c (Between account coin exit spend) log q = refl
next-start c (Before account coin exit shown) log q = refl
next-start c (Respond account coin exit challenged spend) log q = refl
next-start c (Finish account coin exit) log q = refl

module _ (c : ℕ) (events : List RootCall) (i : ℕ) (call : RootCall) (within : i < length events)
    (at : call ≡ get_or events i call) where
  abbrev shows : Option ℕ → Option RawOpening
  shows place = option_and_then (λ n. option_and_then (spend_in c) (slice_get events n)) place

  more : (q : ℕ) → start_shown (reverse (take (i + 1) events)) c q
      ≡ starts_next c call q (start_shown (reverse (take i events)) c q)
  more q =
      ap (λ l. start_shown l c q) (reversed-more events i call within)
      ∙ ap (λ it. start_shown (it ∷ reverse (take i events)) c q) (sym at)
      ∙ next-start c call (reverse (take i events)) q

  -- the call starts an exit
  pub start-more : (exit : RawOpening) (old new : ℕ → Option ℕ) → spend_in c call ≡ Some exit
      → ((q : ℕ) → new q ≡ cond (is_at (nat_cmp exit.block) q) (Some i) (old q))
      → ((q : ℕ) → shows (old q) ≡ start_shown (reverse (take i events)) c q)
      → (q : ℕ) → shows (new q) ≡ start_shown (reverse (take (i + 1) events)) c q
  start-more exit old new is insert was q =
      let before : Option RawOpening = start_shown (reverse (take i events)) c q in
      ap shows (insert q ∙ ap (λ b. cond b (Some i) (old q)) (is_at-nat exit.block q))
      ∙ (elim (q == exit.block) as (λ b. (q == exit.block) ≡ b → shows (cond b (Some i) (old q))
      ≡ (if exit.block == q then Some exit else before)) [
        | true ↦ λ same. ap (option_and_then (spend_in c)) (slice_get-get_or events i call within)
            ∙ ap (spend_in c) (sym at) ∙ is
            ∙ ap (λ b. if b then Some exit else before) (sym (eqb-flip exit.block q ∙ same))
        | false ↦ λ other. was q
            ∙ ap (λ b. if b then Some exit else before) (sym (eqb-flip exit.block q ∙ other))
      ]) refl
      ∙ ap (λ (o : Option RawOpening). option_map_or (λ it. if it.block == q then Some it else before) o before)
      (sym is)
      ∙ sym (more q)

  -- it starts none
  pub start-same : (old new : ℕ → Option ℕ) → spend_in c call ≡ None → ((q : ℕ) → new q ≡ old q)
      → ((q : ℕ) → shows (old q) ≡ start_shown (reverse (take i events)) c q)
      → (q : ℕ) → shows (new q) ≡ start_shown (reverse (take (i + 1) events)) c q
  start-same old new is same was q =
      let before : Option RawOpening = start_shown (reverse (take i events)) c q in
      ap shows (same q)
      ∙ was q
      ∙ ap (λ (o : Option RawOpening). option_map_or (λ it. if it.block == q then Some it else before) o before)
      (sym is)
      ∙ sym (more q)
