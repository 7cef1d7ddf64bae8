-- What is kept of a history is read as it is written, has one spelling, and shows the links again.
use Rattle.node_rules.proofs.Words.{◌≡◌, ℕ, ◌<◌, ◌^◌, Bool, true, false, List, [], ◌∷◌, ◌++◌, length, map, filter, Option, Some, is_some, is_ok, Ok, Err, refl, sym, ◌∙◌, ap, subst, arith, Result, All, AllByRecursion, list_all, option_map, option_map_or, eq-eqb, and_from, All-filter, recursion_from_All, common_steps, RawOpening, Opening, Link, Links, RootCall, CoinView, tip_of, AreBytes, coin_at, some_same, Rules, tests_by, opens_root, Bundle, HistoryRefusal, AreRising, IsBundle, bundle_in, opens_block, transfer_of, links_in, links_of, IsHistory, history_of, bundle_in-text, text-bundle_in, tip_from, tip-is, with_tx, coin_at-grown, chain_of, kept_of, shows_link, ends_at, is_kept, only_kept, kept_links, checked_by, links_handed, KeptCoinsAreReadBack, KeptCoinsHaveOneSpelling, IsReadBack, KeptHistoriesAreReadBack, KeptLinksStay}
use Rattle.std.proofs.lemmas.List.Sums.{length-filter, count_by-le-length}
use Rattle.std.proofs.lemmas.List.Kept.{AllPairs-filter}
use Rattle.plasma_tx.specs.declared.opening.OpeningRefusal.{OpeningRefusal}
use Rattle.coin_history.proofs.HistoryFound.{histories_are_found}

-- ---- bytes

pub kept_in-text : KeptCoinsAreReadBack
kept_in-text dig tag kept is = rw (bundle_in-text kept is.is_bundle, is.shows) refl

-- a kept coin that was read shows links of the coin, the last at the tip
pub only_kept-ok : (dig : List ℕ → List ℕ) (tag : List ℕ) (read : Result Bundle HistoryRefusal) (kept : Bundle)
    → only_kept dig tag read ≡ Some kept → (read ≡ Ok kept) × (is_kept dig tag kept ≡ true)
only_kept-ok dig tag read kept is = grind (arith, common_steps, some_same) steps 20000

pub kept_in-spelled : KeptCoinsHaveOneSpelling
kept_in-spelled dig tag bytes kept small is =
    let both = only_kept-ok dig tag (bundle_in bytes) kept is in
    let text = text-bundle_in bytes kept small both.0 in
    (text.0, record { is_bundle = text.1; shows = both.1 })

-- ---- what the openings of links show

-- those that show a transfer
abbrev shows : Rules → ℕ → RawOpening → Bool
shows rules coin opening = is_some (transfer_of rules coin opening)

abbrev openings_of : List Link → List RawOpening
openings_of links = map (λ link. link.opening) links

openings-shown : (rules : Rules) (coin : ℕ) (openings : List RawOpening)
    → openings_of (links_in rules coin openings) ≡ filter (shows rules coin) openings
unfolding links_in
openings-shown rules coin [] = refl
openings-shown rules coin (opening ∷ openings) =
    grind (arith, common_steps, openings-shown rules coin openings, with_tx) steps 20000

-- they show the links again
links-again : (rules : Rules) (coin : ℕ) (openings : List RawOpening)
    → links_in rules coin (openings_of (links_in rules coin openings)) ≡ links_in rules coin openings
unfolding links_in
links-again rules coin [] = refl
links-again rules coin (opening ∷ openings) =
    grind (arith, common_steps, links-again rules coin openings, with_tx) steps 20000

-- an opening that opens its block reads
reads-from : (dig : List ℕ → List ℕ) (coin : ℕ) (root : Option (List ℕ)) (read : Result Opening OpeningRefusal)
    → option_map_or (λ r. opens_root dig r coin read) root false ≡ true → is_ok read ≡ true
reads-from dig coin root read is = grind (arith, common_steps) steps 20000

all-shown : (dig : List ℕ → List ℕ) (tag : List ℕ) (log : List RootCall) (coin : ℕ) (openings : List RawOpening)
    → AllByRecursion (λ opening. opens_block (tests_by dig) log coin opening ≡ true) openings
    → list_all (shows_link dig tag coin) (filter (shows (chain_of tag) coin) openings) ≡ true
all-shown dig tag log coin [] all = refl
all-shown dig tag log coin (opening ∷ openings) all =
    grind (arith, common_steps, all-shown dig tag log coin openings all.1, and_from, reads-from) steps 20000

-- each link has the block of its opening
blocks-same : (rules : Rules) (coin : ℕ) (openings : List RawOpening)
    → AllByRecursion (λ link. link.opening.block ≡ link.block) (links_in rules coin openings)
unfolding links_in
blocks-same rules coin [] = tt
blocks-same rules coin (opening ∷ openings) =
    grind (arith, common_steps, blocks-same rules coin openings, with_tx) steps 20000

ends-there : (block : ℕ) (links : List Link) → AllByRecursion (λ link. link.opening.block ≡ link.block) links
    → ends_at (tip_from block links) (openings_of links) ≡ true
ends-there block [] all = refl
ends-there block (link ∷ []) all = eq-eqb link.opening.block link.block all.0
ends-there block (link ∷ next ∷ links) all =
    grind (arith, common_steps, ends-there link.block (next ∷ links) all.1, tip_from) steps 20000

-- ---- a history that was checked

module _ (dig : List ℕ → List ℕ) (tag : List ℕ) (log : List RootCall) (bundle : Bundle) (links : Links)
    (fits : IsBundle bundle) (is : IsHistory (tests_by dig) (chain_of tag) log bundle links) where
  abbrev own : Links
  own = links_of (chain_of tag) is.made bundle

  -- its openings are those of the bundle that show a transfer
  own-openings : (kept_of own).openings ≡ filter (shows (chain_of tag) bundle.coin) bundle.openings
  own-openings = openings-shown (chain_of tag) bundle.coin bundle.openings

  own-tip : tip_of own ≡ bundle.tip
  own-tip = ap tip_of (sym is.shown) ∙ is.tip

  own-bundle : IsBundle (kept_of own)
  own-bundle =
      let test = shows (chain_of tag) bundle.coin in
      let fewer = count_by-le-length test bundle.openings in
      let count = fits.count in
      let some : length (filter test bundle.openings) < 2 ^ 32 =
      omega (arith, fewer, count, length-filter test bundle.openings) in
      record {
        coin = fits.coin;
        tip = subst (λ (n : ℕ). n < 2 ^ 64) (sym own-tip) fits.tip;
        count = subst (λ (l : List RawOpening). length l < 2 ^ 32) (sym own-openings) some;
        blocks = subst (All (λ opening. opening.block < 2 ^ 64)) (sym own-openings)
            (All-filter test (λ opening. opening.block < 2 ^ 64) bundle.openings fits.blocks);
        lengths = subst (All (λ opening. length opening.bytes < 2 ^ 32)) (sym own-openings)
            (All-filter test (λ opening. length opening.bytes < 2 ^ 32) bundle.openings fits.lengths);
        rising = subst AreRising (sym own-openings)
            (AllPairs-filter (λ earlier later. earlier.block < later.block) test bundle.openings fits.rising);
      }

  own-shows : is_kept dig tag (kept_of own) ≡ true
  own-shows =
      and_from (list_all (shows_link dig tag bundle.coin) (kept_of own).openings)
      (ends_at (tip_of own) (kept_of own).openings)
      (ap (list_all (shows_link dig tag bundle.coin)) own-openings
      ∙ all-shown dig tag log bundle.coin bundle.openings
      (grind (arith, common_steps, recursion_from_All) steps 20000))
      (ap (λ (n : ℕ). ends_at n (kept_of own).openings) (tip-is own)
      ∙ ends-there own.deposit own.spends (blocks-same (chain_of tag) bundle.coin bundle.openings))

  own-whole : kept_links tag log (kept_of own) ≡ Some own
  own-whole =
      ap (option_map (λ made. links_of (chain_of tag) made (kept_of own))) is.coin
      ∙ ap (λ (spends : List Link). Some (record {
        coin = bundle.coin;
        deposit = is.made.deposit;
        owner = is.made.owner;
        spends = spends;
      })) (links-again (chain_of tag) bundle.coin bundle.openings)

  own-back : IsReadBack dig tag log own
  own-back = grind (arith, common_steps, own-bundle, own-shows, kept_in-text, links-again, own-whole) steps 20000

  pub history-back : IsReadBack dig tag log links
  history-back = subst (IsReadBack dig tag log) (sym is.shown) own-back

-- the bundle that was handed in, and that is a history
pub handed-bundle : (dig : List ℕ → List ℕ) (tag : List ℕ) (log : List RootCall)
    (read : Result Bundle HistoryRefusal) (links : Links) → checked_by dig tag log read ≡ Ok links
    → (bundle : Bundle) × (read ≡ Ok bundle)
    × (history_of (tests_by dig) (chain_of tag) log bundle ≡ Ok links)
handed-bundle dig tag log (Err why) links is = absurd (cc is)
handed-bundle dig tag log (Ok bundle) links is = (bundle, refl, is)

-- it is the history of its coin, with these links
pub handed-history : (dig : List ℕ → List ℕ) (tag : List ℕ) (log : List RootCall) (bytes : List ℕ) (links : Links)
    → AreBytes bytes → links_handed dig tag log bytes ≡ Ok links
    → (bundle : Bundle) × IsBundle bundle × IsHistory (tests_by dig) (chain_of tag) log bundle links
handed-history dig tag log bytes links small is =
    let found = handed-bundle dig tag log (bundle_in bytes) links is in
    let text = text-bundle_in bytes found.0 small found.1 in (
      found.0,
      text.1,
      histories_are_found (tests_by dig) (chain_of tag) log found.0 links text.1.rising found.2,
    )

pub handed-back : KeptHistoriesAreReadBack
handed-back dig tag log bytes links small is =
    let known = handed-history dig tag log bytes links small is in
    history-back dig tag log known.0 links known.1 known.2

-- ---- a longer log

coin_at-longer : (log more : List RootCall) (coin : ℕ) (made : CoinView) → coin_at log coin ≡ Some made
    → coin_at (more ++ log) coin ≡ Some made
coin_at-longer log [] coin made is = is
coin_at-longer log (call ∷ more) coin made is =
    coin_at-grown (more ++ log) call coin made (coin_at-longer log more coin made is)

pub kept_links-stay : KeptLinksStay
kept_links-stay tag log more kept links is = grind (arith, common_steps, coin_at-longer) steps 20000
