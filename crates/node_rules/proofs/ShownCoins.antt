-- What the openings of a kept coin show.
use Rattle.node_rules.proofs.Words.{◌≡◌, ◌<◌, ◌+◌, ◌==◌, ◌&&◌, ℕ, Bool, true, false, if◌then◌else◌, List, [], ◌∷◌, ◌++◌, length, take, get_or, Option, None, Some, Ok, is_ok, is_some, refl, sym, arith, list_all, option_map, take_more, list_all-append, filter_map-append, common_steps, RawOpening, Opening, Link, SignedTx, opening_in, link_of, links_in, chain_of, shows_link}
use Rattle.plasma_tx.specs.Transfer.{transfer_in}
use Rattle.plasma_tx.proofs.OpeningTexts.{leaf-shown}
use Rattle.node_rules.proofs.Still.{none_left}

and-true : (a b : Bool) → a ≡ true → b ≡ true → (a && b) ≡ true
and-true true b one two = two
and-true false b one two = absurd (cc one)

-- the link of an opening, where it reads
abbrev pub link_read : (List ℕ → List ℕ) → List ℕ → ℕ → RawOpening → Option Link
link_read dig tag coin raw = if is_ok (opening_in dig raw) then link_of (chain_of tag) coin raw else None

-- the link of a transfer
abbrev pub linked : RawOpening → Option SignedTx → Option Link
linked raw tx = option_map (λ tx. record { block = raw.block; tx = tx; opening = raw }) tx

pub link-read : (dig : List ℕ → List ℕ) (tag : List ℕ) (coin : ℕ) (raw : RawOpening) (opening : Opening)
    (leaf : List ℕ) (tx : Option SignedTx) → opening_in dig raw ≡ Ok opening → leaf ≡ opening.leaf
    → tx ≡ transfer_in tag coin raw.block leaf → linked raw tx ≡ link_read dig tag coin raw
link-read dig tag coin raw opening leaf tx reads is found = grind (arith, common_steps, leaf-shown) steps 20000

-- ---- the openings in front

pub record Shows (dig : List ℕ → List ℕ) (tag : List ℕ) (coin : ℕ) (openings : List RawOpening) (spends : List Link)
    : Type 0 where
  pub links : spends ≡ links_in (chain_of tag) coin openings
  pub all : list_all (shows_link dig tag coin) openings ≡ true

pub shows-none : (dig : List ℕ → List ℕ) (tag : List ℕ) (coin : ℕ) (spends : List Link) → spends ≡ []
    → Shows dig tag coin [] spends
unfolding links_in
shows-none dig tag coin spends is = record { links = is; all = refl }

pub shown-none : (dig : List ℕ → List ℕ) (tag : List ℕ) (coin : ℕ) (openings : List RawOpening) (spends : List Link)
    → true ≡ (length openings == 0) → spends ≡ []
    → Some spends
    ≡ (if list_all (shows_link dig tag coin) openings then Some (links_in (chain_of tag) coin openings) else None)
unfolding links_in
shown-none dig tag coin openings spends none is = grind (arith, common_steps, none_left) steps 20000

some-is : (b : Bool) (found : Option Link) (link : Link) → Some link ≡ (if b then found else None)
    → (b ≡ true) × (found ≡ Some link)
some-is true found link is = (refl, sym is)
some-is false found link is = absurd (cc is)

is-some-from : (raw : RawOpening) (tx : Option SignedTx) (link : Link) → linked raw tx ≡ Some link → is_some tx ≡ true
is-some-from raw None link is = absurd (cc is)
is-some-from raw (Some tx) link is = refl

pub shows-more : (dig : List ℕ → List ℕ) (tag : List ℕ) (coin : ℕ) (openings : List RawOpening) (i : ℕ)
    (raw : RawOpening) (spends more : List Link) (link : Link) → i < length openings → raw ≡ get_or openings i raw
    → Some link ≡ link_read dig tag coin raw → more ≡ spends ++ link ∷ []
    → Shows dig tag coin (take i openings) spends → Shows dig tag coin (take (i + 1) openings) more
unfolding links_in
shows-more dig tag coin openings i raw spends more link less is found one shows =
    grind (
      arith,
      common_steps,
      some-is,
      take_more,
      and-true,
      is-some-from,
      filter_map-append,
      list_all-append,
    ) steps 20000
