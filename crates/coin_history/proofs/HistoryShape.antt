-- The links of a history rise from its deposit on, its tip is a link, and with the deposit as tip it is bare.
use Rattle.coin_history.proofs.Words.{◌≡◌, ℕ, suc, ◌<◌, ◌≤◌, true, false, List, [], ◌∷◌, map, sym, ap, ◌∙◌, subst, arith, AllPairs, AllByRecursion, false_from_ne_true, All-from_recursion, common_steps, RawOpening, Link, Links, tip_of, Rules, is_absent, links_in, links_of, LinksRise, DepositsAreBare, TipsAreLinks}
use Rattle.std.proofs.lemmas.List.Kept.{AllPairs-cons}
use Rattle.coin_history.proofs.HistoryOpenings.{Up, nothing-asked, asked-from_blocks}
use Rattle.coin_history.proofs.HistoryLinks.{every-weaker, tip-is, with_tx, none-linked}
use Rattle.coin_history.proofs.HistoryFound.{absent-apart}

-- ---- rising numbers

-- the numbers rise strictly, the first one at low or above
abbrev Rise : ℕ → List ℕ → Type 0
Rise low [] = Unit {0}
Rise low (n ∷ ns) = (low ≤ n) × Rise (suc n) ns

rise-weaker : (low high : ℕ) (ns : List ℕ) → low ≤ high → Rise high ns → Rise low ns
rise-weaker low high [] le rise = tt
rise-weaker low high (n ∷ ns) le rise = (omega (arith, rise.0), rise.1)

rise-each : (low : ℕ) (ns : List ℕ) → Rise (suc low) ns → AllByRecursion (λ n. low < n) ns
rise-each low [] rise = tt
rise-each low (n ∷ ns) rise =
    (omega (arith, rise.0), rise-each low ns (rise-weaker (suc low) (suc n) ns (omega (arith, rise.0)) rise.1))

rise-pairs : (low : ℕ) (ns : List ℕ) → Rise low ns → AllPairs (λ earlier later. earlier < later) ns
rise-pairs low [] rise = λ i j d less long. absurd (omega arith)
rise-pairs low (n ∷ ns) rise =
    AllPairs-cons (λ earlier later. earlier < later) n ns
    (All-from_recursion (λ m. n < m) ns (rise-each n ns rise.1)) (rise-pairs (suc n) ns rise.1)

-- the blocks of the links of rising openings
abbrev blocks_of_links : List Link → List ℕ
blocks_of_links links = map (λ link. link.block) links

rise-links : (rules : Rules) (coin low : ℕ) (os : List RawOpening) → Up low os
    → Rise low (blocks_of_links (links_in rules coin os))
unfolding links_in
rise-links rules coin low [] up = tt
rise-links rules coin low (o ∷ os) up =
    grind (arith, common_steps, rise-links rules coin (suc o.block) os up.1, with_tx, rise-weaker) steps 20000

-- ---- the laws

pub links_rise : LinksRise
links_rise tests rules log bundle links is =
    let asked = asked-from_blocks log is.made.deposit bundle.tip bundle.openings is.blocks in
    subst (λ (l : Links). AllPairs (λ earlier later. earlier < later) (l.deposit ∷ blocks_of_links l.spends))
    (sym is.shown)
    (rise-pairs is.made.deposit (is.made.deposit ∷ blocks_of_links (links_in rules bundle.coin bundle.openings))
    (omega arith, rise-links rules bundle.coin (suc is.made.deposit) bundle.openings asked.up))

pub deposits_are_bare : DepositsAreBare
deposits_are_bare tests rules log bundle links is e =
    let asked = asked-from_blocks log is.made.deposit bundle.tip bundle.openings is.blocks in
    grind (arith, common_steps, nothing-asked, none-linked) steps 20000

pub tips_are_links : TipsAreLinks
tips_are_links tests rules log bundle links is =
    let own : Links = links_of rules is.made bundle in
    let asked = asked-from_blocks log is.made.deposit bundle.tip bundle.openings is.blocks in
    let last : tip_of own ≡ bundle.tip = ap tip_of (sym is.shown) ∙ is.tip in
    All-from_recursion (λ o. o.block ≡ bundle.tip → is_absent o ≡ false) bundle.openings
    (every-weaker (λ o. is_absent o ≡ true → o.block ≡ bundle.tip → ⊥)
    (λ o. o.block ≡ bundle.tip → is_absent o ≡ false)
    (λ o apart at. false_from_ne_true (is_absent o) (λ absent. apart absent at)) bundle.openings
    (absent-apart rules bundle.coin bundle.tip is.made.deposit bundle.openings asked.up (sym (tip-is own) ∙ last)))
