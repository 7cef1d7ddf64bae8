-- Where the blocks of a history lie, and those of standing exits.
use Rattle.coin_safety.proofs.Words.{◌≡◌, ℕ, zero, suc, ◌-◌, ◌<◌, ◌≤◌, ◌==◌, true, List, [], ◌∷◌, length, map, filter, Option, Some, None, inl, inr, refl, sym, ap, ◌∙◌, subst, arith, slice_get, AllPairs, option_map_or, eqb-true, recursion_from_All, Owner, RawOpening, Link, Links, RootCall, CoinView, ExitView, last_spend, tip_of, Tests, Rules, Exit, exits, exits_of, exit_view, some_same, Bundle, opens_block, links_in, links_of, AreLinked, IsHistory, tip_from, tip-is, link_after, IsLegalBy, Rises, rises-from, has-above, has-tip, tip-link, links-opened, follows, Has, has-map, has-filter, all-has, seen, IsBegun, OfDeposit, OfSpend, IsShownExit, exits-shown}
use Rattle.coin_history.proofs.HistoryShape.{links_rise}

-- what is at a place of a list is in it
pub got-has : (xs : List Link) (i : ℕ) (link : Link) → slice_get xs i ≡ Some link → Has xs link
got-has [] i link is = absurd (cc is)
got-has (x ∷ xs) zero link is = inl (some_same x link is)
got-has (x ∷ xs) (suc i) link is = inr (got-has xs i link is)

-- ---- a history

module _ (tests : Tests) (rules : Rules) (log : List RootCall) (bundle : Bundle) (links : Links)
    (is : IsHistory tests rules log bundle links) where
  abbrev pub Spends : List Link
  Spends = links_in rules bundle.coin bundle.openings

  abbrev pub Own : Links
  Own = links_of rules is.made bundle

  pub rise : Rises is.made.deposit Spends
  rise =
      rises-from is.made.deposit Spends (subst (λ (l : Links). AllPairs (λ earlier later. earlier < later)
      (l.deposit ∷ map (λ (link : Link). link.block) l.spends)) is.shown (links_rise tests rules log bundle links is))

  pub linked : AreLinked tests is.made.deposit is.made.owner Spends
  linked = subst (λ (l : Links). AreLinked tests l.deposit l.owner l.spends) is.shown is.linked

  tip-at : tip_of links ≡ tip_from is.made.deposit Spends
  tip-at = ap tip_of is.shown ∙ tip-is Own

  -- the tip is at least the deposit
  pub deposit-low : is.made.deposit ≤ tip_of links
  deposit-low =
      elim (tip-link is.made.deposit Spends) [
        | inl same ↦ omega (arith, same, tip-at)
        | inr last ↦ omega (arith, has-above is.made.deposit Spends last.0 rise last.1, last.2, tip-at)
      ]

  -- no link is after a block later than the tip
  pub none-later : (block : ℕ) → tip_of links < block → link_after links block ≡ None
  none-later block above =
      (elim (link_after links block) as (λ o. link_after links block ≡ o → o ≡ None) [
        | None ↦ λ none. refl
        | Some link ↦ λ some.
            let f = follows tests is.made.deposit is.made.owner Spends block link linked rise
            (subst (λ (l : Links). link_after l block ≡ Some link) is.shown some) in
            absurd (omega (arith, above, f.above, has-tip is.made.deposit Spends link rise f.has, tip-at))
      ]) refl

  -- the opening of the last link is at the tip
  pub last-at : (link : Link) → last_spend links ≡ Some link → link.opening.block ≡ tip_of links
  last-at link last =
      let own : last_spend Own ≡ Some link = subst (λ (l : Links). last_spend l ≡ Some link) is.shown last in
      let o = links-opened tests rules log bundle.coin bundle.openings link
      (recursion_from_All (λ o. opens_block tests log bundle.coin o ≡ true) bundle.openings is.opened)
      (got-has Spends (length Spends - 1) link own) in
      o.block ∙ sym (ap (λ (p : Option Link). option_map_or (λ (l : Link). l.block) p links.deposit) last)

-- ---- standing exits

-- an exit of the coin whose view is shown
pub view-exit : (log : List RootCall) (c : ℕ) (view : ExitView) → Has (exits_of log c) view
    → (x : Exit) × Has (exits log) x × (x.coin ≡ c) × (exit_view x ≡ view)
unfolding exits_of
view-exit log c view h =
    let shown = has-map exit_view (filter (λ (x : Exit). x.coin == c) (exits log)) view h in
    let kept = has-filter (λ (x : Exit). x.coin == c) (exits log) shown.0 shown.1 in
    (shown.0, kept.0, eqb-true shown.0.coin c kept.1, shown.2)

-- an exit with a parent is after it
pub after-parent : (tests : Tests) (rules : Rules) (log : List RootCall) (c n : ℕ) (view : ExitView)
    → IsLegalBy tests rules log → Has (exits_of log c) view → n < view.parent → view.parent < view.block
after-parent tests rules log c n view legal h above =
    let found = view-exit log c view h in
    let x : Exit = found.0 in
    let is = all-has (IsShownExit tests rules log) (exits log) x (exits-shown tests rules log legal) found.1 in
    by x.coin (seen log x.coin) is.made x.block x.parent x.owner x.parent_owner is.begun
    (ap (λ (v : ExitView). v.parent) found.3) (ap (λ (v : ExitView). v.block) found.3)
  where
    by : (coin : ℕ) (os : List RawOpening) (made : CoinView) (block parent : ℕ) (owner from : Owner)
        → IsBegun tests rules log coin os made block parent owner from
        → parent ≡ view.parent → block ≡ view.block → view.parent < view.block
    by coin os made block parent owner from (OfDeposit at none is) same here = absurd (omega (arith, none, same, above))
    by coin os made block parent owner from (OfSpend s low child at below) same here = omega (arith, below, same, here)
