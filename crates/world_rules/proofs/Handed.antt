-- A bundle that is handed in and taken: it is of the coin and the tip of its links, and of a coin that the log has.
use Rattle.world_rules.proofs.Basics.{◌≡◌, ℕ, ◌||◌, Bool, true, List, [], ◌∷◌, Some, Ok, refl, sym, ap, ◌∙◌, arith, rules, unwrap_or, eqb-true, eq-eqb, or_cases, and_from, or_left, or_right, common_steps}
use Rattle.world_rules.proofs.CoinWords.{Owner, RawOpening, Links, RootCall, CoinView, tip_of, last_owner_of, coin_at, tests_by, Rules, Bundle, bundle_in, IsHistory, blocks_of, committed_blocks, links_in, Notes, is_owner, is_noted}
use Rattle.world_rules.proofs.NodeWords.{chain_of, kept_of, links_handed, is_known, Small, AreSmallOpenings, read-small, kept-small}
use Rattle.world_rules.proofs.WorldWords.{bundle_read, was_deposited}
use Rattle.std.specs.Result.{result_ok}
use Rattle.coin_history.proofs.BundleLaws.{text-bundle_in}
use Rattle.node_rules.proofs.KeptTexts.{handed-bundle}
use Rattle.coin_history.proofs.HistoryFound.{histories_are_found}

-- the bundle that the bytes spell, as its links show it
pub record IsHanded (dig : List ℕ → List ℕ) (tag : List ℕ) (log : List RootCall) (bytes : List ℕ) (links : Links)
    : Type 0 where
  pub coin : (bundle_read bytes).coin ≡ links.coin
  pub tip : (bundle_read bytes).tip ≡ tip_of links
  pub made : CoinView
  pub made_is : coin_at log links.coin ≡ Some made
  pub deposit : links.deposit ≡ made.deposit
  pub own : tip_of links ≡ links.deposit → last_owner_of links ≡ made.owner
  pub small : AreSmallOpenings (kept_of links).openings

-- no block lies after the deposit and up to it
no-blocks : (log : List RootCall) (low high : ℕ) → high ≡ low → committed_blocks log low high ≡ []
unfolding committed_blocks
no-blocks log low high same = grind (arith, common_steps)

no-openings : (openings : List RawOpening) → blocks_of openings ≡ [] → openings ≡ []
no-openings [] is = refl
no-openings (opening ∷ openings) is = absurd (cc is)

no-links : (rules : Rules) (coin deposit : ℕ) (owner : Owner) → last_owner_of (record {
  coin = coin;
  deposit = deposit;
  owner = owner;
  spends = links_in rules coin [];
}) ≡ owner
unfolding links_in
no-links rules coin deposit owner = refl

pub is_handed : (dig : List ℕ → List ℕ) (tag : List ℕ) (log : List RootCall) (bytes : List ℕ) (links : Links)
    → Small bytes → links_handed dig tag log bytes ≡ Ok links → IsHanded dig tag log bytes links
is_handed dig tag log bytes links small is =
    let found = handed-bundle dig tag log (bundle_in bytes) links is in
    let text = text-bundle_in bytes found.0 small.are found.1 in
    by found.0 found.1
    (histories_are_found (tests_by dig) (chain_of tag) log found.0 links text.1.rising found.2)
  where
    by : (bundle : Bundle) → bundle_in bytes ≡ Ok bundle
        → IsHistory (tests_by dig) (chain_of tag) log bundle links → IsHanded dig tag log bytes links
    by bundle read history = record {
      coin = ap (λ (b : Bundle). b.coin) reads ∙ sym coin_is;
      tip = ap (λ (b : Bundle). b.tip) reads ∙ sym history.tip;
      made = history.made;
      made_is = ap (coin_at log) coin_is ∙ history.coin;
      deposit = ap (λ (l : Links). l.deposit) history.shown;
      own = own-of;
      small = grind (arith, common_steps, kept-small, read-small);
    }
      where
        reads : bundle_read bytes ≡ bundle
        reads = ap (λ r. unwrap_or (result_ok r) (record { coin = 0; tip = 0; openings = [] })) read

        coin_is : links.coin ≡ bundle.coin
        coin_is = ap (λ (l : Links). l.coin) history.shown

        own-of : tip_of links ≡ links.deposit → last_owner_of links ≡ history.made.owner
        own-of at_deposit =
            let same : bundle.tip ≡ history.made.deposit =
            sym history.tip ∙ at_deposit ∙ ap (λ (l : Links). l.deposit) history.shown in
            let none : bundle.openings ≡ [] = grind (arith, common_steps, no-openings, no-blocks) in
            ap last_owner_of history.shown
            ∙ ap (λ (openings : List RawOpening). last_owner_of (record {
              coin = bundle.coin;
              deposit = history.made.deposit;
              owner = history.made.owner;
              spends = links_in (chain_of tag) bundle.coin openings;
            })) none
            ∙ no-links (chain_of tag) bundle.coin history.made.deposit history.made.owner

-- a coin that a wallet knows at a tip: it deposited it there, or noted it
pub record IsKnownCoin (me : Owner) (log : List RootCall) (noted : Bool) (c e : ℕ) : Type 0 where
  pub made : CoinView
  pub made_is : coin_at log c ≡ Some made
  pub known : (was_deposited me e (Some made) || noted) ≡ true

-- so is one that an accept knows
pub is_known_coin : (dig : List ℕ → List ℕ) (tag : List ℕ) (log : List RootCall) (bytes : List ℕ) (links : Links)
    (notes : Notes) → IsHanded dig tag log bytes links → is_owner (last_owner_of links) notes.me ≡ true
    → is_known notes links ≡ true
    → IsKnownCoin notes.me log (is_noted links.coin (tip_of links) notes.accepted) links.coin (tip_of links)
is_known_coin dig tag log bytes links notes handed mine known =
    grind (arith, common_steps, or_cases, eqb-true, or_left, and_from, eq-eqb, or_right)
