-- A bundle that is bytes, and what is kept of it, are bytes.
use Rattle.node_replies.proofs.Names.{◌≡◌, ℕ, List, [], ◌∷◌, ◌++◌, map, length, Ok, subst, arith, common_steps, Links, RootCall, number_text, tests_by, Rules, Bundle, item_text, length_text, bundle_text, bundle_in, chain_of, kept_of, links_handed}
use Rattle.std.specs.List.{AllByRecursion, flat_map}
use Rattle.plasma_tx.specs.declared.opening.RawOpening.{RawOpening}
use Rattle.plasma_tx.specs.declared.links.Link.{Link}
use Rattle.coin_history.specs.History.{links_in}
use Rattle.coin_history.proofs.BundleLaws.{text-bundle_in}
use Rattle.coin_history.proofs.HistoryFound.{histories_are_found}
use Rattle.node_rules.proofs.KeptTexts.{handed-bundle}
use Rattle.node_replies.proofs.ByteTexts.{Small, small-nil, small-append, small-number, small-short, small-front, small-back}

-- each opening's bytes are bytes
abbrev pub IsSmallOpening : RawOpening → Type 0
IsSmallOpening opening = Small opening.bytes

abbrev pub AreSmallOpenings : List RawOpening → Type 0
AreSmallOpenings openings = AllByRecursion IsSmallOpening openings

items-small : (openings : List RawOpening) → AreSmallOpenings openings → Small (flat_map item_text openings)
items-small [] small = small-nil
items-small (opening ∷ openings) small =
    small-append
    (small-append (small-append (small-number opening.block) (small-short (length opening.bytes))) small.0)
    (items-small openings small.1)

pub small-bundle : (bundle : Bundle) → AreSmallOpenings bundle.openings → Small (bundle_text bundle)
unfolding bundle_text
small-bundle bundle small =
    small-append
    (small-append (small-append (small-number bundle.coin) (small-number bundle.tip))
    (small-short (length bundle.openings)))
    (items-small bundle.openings small)

small-items : (openings : List RawOpening) → Small (flat_map item_text openings) → AreSmallOpenings openings
small-items [] small = tt
small-items (opening ∷ openings) small = (
  small-back (number_text opening.block ++ length_text (length opening.bytes)) opening.bytes
      (small-front (item_text opening) (flat_map item_text openings) small),
  small-items openings (small-back (item_text opening) (flat_map item_text openings) small),
)

bundle-small : (bundle : Bundle) → Small (bundle_text bundle) → AreSmallOpenings bundle.openings
unfolding bundle_text
bundle-small bundle small =
    small-items bundle.openings
    (small-back (number_text bundle.coin ++ number_text bundle.tip ++ length_text (length bundle.openings))
    (flat_map item_text bundle.openings) small)

-- the openings of a bundle that bytes spell
pub read-small : (bytes : List ℕ) (bundle : Bundle) → Small bytes → bundle_in bytes ≡ Ok bundle
    → AreSmallOpenings bundle.openings
read-small bytes bundle small is =
    bundle-small bundle (subst Small (text-bundle_in bytes bundle small.are is).0 small)

-- and those that are kept of it
pub kept-small : (rules : Rules) (coin : ℕ) (openings : List RawOpening) → AreSmallOpenings openings
    → AreSmallOpenings (map (λ (link : Link). link.opening) (links_in rules coin openings))
unfolding links_in
kept-small rules coin [] small = tt
kept-small rules coin (opening ∷ openings) small =
    grind (arith, common_steps, kept-small rules coin openings small.1) steps 20000

-- those that are kept of a bundle that is handed in and taken
pub handed-small : (dig : List ℕ → List ℕ) (tag : List ℕ) (log : List RootCall) (bytes : List ℕ) (links : Links)
    → Small bytes → links_handed dig tag log bytes ≡ Ok links → AreSmallOpenings (kept_of links).openings
handed-small dig tag log bytes links small is =
    let found = handed-bundle dig tag log (bundle_in bytes) links is in
    let text = text-bundle_in bytes found.0 small.are found.1 in
    let history = histories_are_found (tests_by dig) (chain_of tag) log found.0 links text.1.rising found.2 in
    grind (arith, common_steps, kept-small, read-small) steps 20000
