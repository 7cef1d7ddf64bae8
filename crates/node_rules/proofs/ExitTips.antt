-- The links of a coin that a wallet holds or leaves with end at its tip.
use Rattle.node_rules.proofs.Words.{◌≡◌, ◌≢◌, ℕ, suc, ◌-◌, ◌==◌, ◌&&◌, Bool, true, false, if◌then◌else◌, List, [], ◌∷◌, length, map, drop, filter, find, Option, Some, None, is_some, is_ok, inl, inr, refl, sym, ap, ◌∙◌, subst, arith, unwrap_or, All, filter_map, list_all, cons_option, option_map, map-append, cases_Bool, and_parts, eqb-true, eq-eqb, false≢true, All-nil, All-head, All-tail, All-push, All-contains, Contains-append_cases, common_steps, RawOpening, SignedTx, Links, RootCall, CoinView, tip_of, Owner, opening_in, coin_at, some_same, Bundle, transfer_of, links_in, links_of, tip_from, tip-is, with_tx, CoinTip, own_deposit, noted_tips, IsTip, chain_of, shows_link, ends_at, is_kept, kept_in, kept_links, is_of, Note, Accepts, LeavesWith, Reclaims, accepts, note_in, who_is, notes_of, accepted_of, coin_tip, state_notes, WalletRecords, who, noted, links_at, HaveOpenings, ExitsAreOfTheTip}
use Rattle.node_rules.proofs.KeptTexts.{only_kept-ok}
use Rattle.node_rules.proofs.OneMore.{All-reverse, All-filter_map}
use Rattle.node_rules.proofs.WalletRole.{held-tip, leaving-tip}

-- openings that show links, the last at the tip, show links that end there
shown-ends : (dig : List ℕ → List ℕ) (tag : List ℕ) (coin tip block : ℕ) (openings : List RawOpening)
    → openings ≢ [] → list_all (shows_link dig tag coin) openings ≡ true → ends_at tip openings ≡ true
    → tip_from block (links_in (chain_of tag) coin openings) ≡ tip
unfolding links_in
shown-ends dig tag coin tip block [] some all ends = absurd (some refl)
shown-ends dig tag coin tip block (one ∷ []) some all ends =
    grind (arith, common_steps, and_parts, tip_from, with_tx, false≢true, eqb-true) steps 20000
shown-ends dig tag coin tip block (one ∷ next ∷ openings) some all ends =
    let shows = and_parts (shows_link dig tag coin one) (list_all (shows_link dig tag coin) (next ∷ openings)) all in
    let spells = (and_parts (is_ok (opening_in dig one)) (is_some (transfer_of (chain_of tag) coin one)) shows.0).1 in
    let e : suc (length (next ∷ openings) - 1) ≡ length (one ∷ next ∷ openings) - 1 = omega arith in
    let behind : ends_at tip (next ∷ openings) ≡ true = grind (arith, common_steps) steps 20000 in
    let more : next ∷ openings ≢ [] = λ wrong. absurd (cc wrong) in
    at (shown-ends dig tag coin tip one.block (next ∷ openings) more shows.1 behind)
    (transfer_of (chain_of tag) coin one) spells
  where
    at : tip_from one.block (links_in (chain_of tag) coin (next ∷ openings)) ≡ tip
        → (tx : Option SignedTx) → is_some tx ≡ true
        → tip_from block
        (cons_option (option_map (with_tx one) tx) (links_in (chain_of tag) coin (next ∷ openings))) ≡ tip
    at rest None wrong = absurd (false≢true wrong)
    at rest (Some tx) right = rest

-- so do the links of what is kept, where it has openings
pub kept-ends : (dig : List ℕ → List ℕ) (tag : List ℕ) (made : CoinView) (kept : Bundle)
    → is_kept dig tag kept ≡ true → kept.openings ≢ [] → tip_of (links_of (chain_of tag) made kept) ≡ kept.tip
kept-ends dig tag made kept is some =
    let parts = and_parts (list_all (shows_link dig tag kept.coin) kept.openings) (ends_at kept.tip kept.openings) is in
    tip-is (links_of (chain_of tag) made kept)
    ∙ shown-ends dig tag kept.coin kept.tip made.deposit kept.openings some parts.0 parts.1

-- ---- notes of accepted coins

-- a note of an accepted coin shows links of the coin, the last at the tip
abbrev IsShown : (List ℕ → List ℕ) → List ℕ → Note → Type 0
IsShown dig tag (Accepts kept) = is_kept dig tag kept ≡ true
IsShown dig tag note = Unit {0}

accepts-shown : (dig : List ℕ → List ℕ) (tag bytes : List ℕ) (found : Option Bundle) (note : Note)
    → kept_in dig tag bytes ≡ found → accepts found ≡ Some note → IsShown dig tag note
accepts-shown dig tag bytes found note reads is = grind (arith, common_steps, some_same, only_kept-ok) steps 20000

note-shown : (dig : List ℕ → List ℕ) (tag body : List ℕ) (note : Note) → note_in dig tag body ≡ Some note
    → IsShown dig tag note
unfolding note_in
note-shown dig tag [] note h = absurd (cc h)
note-shown dig tag (mark ∷ bytes) note h = elim (cases_Bool (mark == 2)) [
  | inl takes ↦
      let is : accepts (kept_in dig tag bytes) ≡ Some note = rw takes at h in
      accepts-shown dig tag bytes (kept_in dig tag bytes) note refl is
  | inr other ↦ elim (cases_Bool ((mark == 3) && (length bytes == 16))) [
    | inl leaves ↦
        grind (arith, common_steps, some_same) steps 20000
    | inr neither ↦ elim (cases_Bool ((mark == 5) && (length bytes == 20))) [
      | inl reclaims ↦
          grind (arith, common_steps, some_same) steps 20000
      | inr none ↦ let bad : None ≡ Some note = rw (other, neither, none) at h in absurd (cc bad)
    ]
  ]
]

all-shown : (dig : List ℕ → List ℕ) (tag : List ℕ) (notes : List Note) → All (IsShown dig tag) notes
    → All (λ kept. is_kept dig tag kept ≡ true) (accepted_of notes)
unfolding accepted_of
all-shown dig tag [] all = All-nil (λ kept. is_kept dig tag kept ≡ true)
all-shown dig tag (Accepts kept ∷ notes) all =
    All-push (λ kept. is_kept dig tag kept ≡ true) (accepted_of notes) kept
    (all-shown dig tag notes (All-tail (IsShown dig tag) (Accepts kept) notes all))
    (All-head (IsShown dig tag) (Accepts kept) notes all)
all-shown dig tag (LeavesWith coin tip ∷ notes) all =
    all-shown dig tag notes (All-tail (IsShown dig tag) (LeavesWith coin tip) notes all)
all-shown dig tag (Reclaims coin tip q ∷ notes) all =
    all-shown dig tag notes (All-tail (IsShown dig tag) (Reclaims coin tip q) notes all)

-- each coin that a wallet's notes accept shows links of the coin, the last at the tip
pub accepted-shown : (dig : List ℕ → List ℕ) (records : List (List ℕ))
    → All (λ kept. is_kept dig (who_is records).tag kept ≡ true) (accepted_of (notes_of dig records))
unfolding notes_of
accepted-shown dig records =
    let tag = (who_is records).tag in
    let read = note_in dig tag in
    all-shown dig tag (notes_of dig records)
    (All-reverse (IsShown dig tag) (filter_map read (drop 1 records))
    (All-filter_map read (λ body. Unit {0}) (IsShown dig tag) (λ body note none is. note-shown dig tag body note is)
    (drop 1 records) (λ k d less. tt)))

-- the accepted coins and tips of the notes
pub accepted-tips : (me : Owner) (notes : List Note)
    → (state_notes me notes).accepted ≡ map (λ kept. coin_tip kept.coin kept.tip) (accepted_of notes)
unfolding state_notes accepted_of
accepted-tips me [] = refl
accepted-tips me (Accepts kept ∷ notes) = grind (arith, common_steps, accepted-tips me notes, map-append) steps 20000
accepted-tips me (LeavesWith coin tip ∷ notes) = accepted-tips me notes
accepted-tips me (Reclaims coin tip q ∷ notes) = accepted-tips me notes

-- ---- what is kept at a tip

find-is : (P : Bundle → Type 0) (test : Bundle → Bool) (all : List Bundle) (kept : Bundle) → All P all
    → find test all ≡ Some kept → P kept × (test kept ≡ true)
find-is P test [] kept each is = absurd (cc is)
find-is P test (one ∷ all) kept each is =
    at (find-is P test all kept (All-tail P one all each)) (test one) refl is
  where
    at : (find test all ≡ Some kept → P kept × (test kept ≡ true)) → (b : Bool) → test one ≡ b
        → (if b then Some one else find test all) ≡ Some kept → P kept × (test kept ≡ true)
    at rest true on same =
        let e = some_same one kept same in (subst P e (All-head P one all each), ap test (sym e) ∙ on)
    at rest false off later = rest later

-- what is kept of a coin, as it is noted, and its tips
abbrev kept_of_coin : ℕ → List Bundle → List CoinTip
kept_of_coin coin all = filter (λ note. note.coin == coin) (map (λ kept. coin_tip kept.coin kept.tip) all)

abbrev tips_kept : ℕ → List Bundle → List ℕ
tips_kept coin all = map (λ note. note.tip) (kept_of_coin coin all)

-- they are all apart from this tip
abbrev AreApart : ℕ → List ℕ → Type 0
AreApart tip tips = All (λ n. n ≢ tip) tips

-- a tip of which nothing is kept is no accepted one
none-kept : (coin tip : ℕ) (all : List Bundle) → find (is_of coin tip) all ≡ None → AreApart tip (tips_kept coin all)
none-kept coin tip [] is = All-nil (λ n. n ≢ tip)
none-kept coin tip (one ∷ all) is = by (none-kept coin tip all) (one.coin == coin) (one.tip == tip) refl is
  where
    by : (find (is_of coin tip) all ≡ None → AreApart tip (tips_kept coin all)) → (same at : Bool)
        → (one.tip == tip) ≡ at → (if same && at then Some one else find (is_of coin tip) all) ≡ None
        → AreApart tip (map (λ note. note.tip)
        (if same then coin_tip one.coin one.tip ∷ kept_of_coin coin all else kept_of_coin coin all))
    by more true true here wrong = absurd (cc wrong)
    by more true false apart none = grind (arith, common_steps, false≢true, eq-eqb) steps 20000
    by more false at here none = more none

own-is : (me : Owner) (log : List RootCall) (coin : ℕ) (made : CoinView) → coin_at log coin ≡ Some made
    → All (λ n. n ≡ made.deposit) (own_deposit me (coin_at log coin))
own-is me log coin made is =
    subst (λ (o : Option CoinView). All (λ n. n ≡ made.deposit) (own_deposit me o)) (sym is)
    (grind (arith, common_steps) steps 20000)

module _ (dig : List ℕ → List ℕ) (wallet : WalletRecords) (log : List RootCall) (coin tip : ℕ) (links : Links)
    (is : IsTip (noted dig wallet) log coin tip) (have : HaveOpenings dig wallet) where
  abbrev all : List Bundle
  all = accepted_of (notes_of dig wallet.notes)

  abbrev bare : Bundle
  bare = record { coin = coin; tip = tip; openings = [] }

  -- the links end where what is kept does
  ends-at : (kept : Bundle) (found : Option CoinView) → coin_at log kept.coin ≡ found → kept.coin ≡ coin
      → ((made : CoinView) → coin_at log kept.coin ≡ Some made
      → tip_of (links_of (chain_of (who wallet).tag) made kept) ≡ tip)
      → option_map (λ made. links_of (chain_of (who wallet).tag) made kept) found ≡ Some links
      → (links.coin ≡ coin) × (tip_of links ≡ tip)
  ends-at kept None none of ends wrong = absurd (cc wrong)
  ends-at kept (Some made) some of ends same =
      let e = some_same (links_of (chain_of (who wallet).tag) made kept) links same in
      (ap (λ (l : Links). l.coin) (sym e) ∙ of, ap tip_of (sym e) ∙ ends made some)

  -- without anything kept the tip is the wallet's own deposit
  own-tip : (made : CoinView) → find (is_of coin tip) all ≡ None → coin_at log coin ≡ Some made → made.deposit ≡ tip
  own-tip made none some =
      let me = (noted dig wallet).me in
      let listed = noted_tips coin (noted dig wallet).accepted in
      let apart : All (λ n. n ≢ tip) listed = grind (arith, common_steps, accepted-tips, none-kept) steps 20000 in
      elim (Contains-append_cases (own_deposit me (coin_at log coin)) listed tip is.is_one) [
        | inl own ↦ grind (arith, common_steps, own-is) steps 20000
        | inr noted_one ↦ absurd (All-contains (λ n. n ≢ tip) listed tip apart noted_one refl)
      ]

  at-found : (found : Option Bundle) → find (is_of coin tip) all ≡ found
      → kept_links (who wallet).tag log (unwrap_or found bare) ≡ Some links
      → (links.coin ≡ coin) × (tip_of links ≡ tip)
  unfolding links_in
  at-found None none shown =
      ends-at bare (coin_at log coin) refl refl (λ made some. own-tip made none some) shown
  at-found (Some kept) some shown =
      let Both : Bundle → Type 0 =
      λ k. is_kept dig (who wallet).tag k ≡ true in
      let shows = find-is Both (is_of coin tip) all kept (accepted-shown dig wallet.notes) some in
      let filled = find-is (λ k. k.openings ≢ []) (is_of coin tip) all kept have some in
      let named = and_parts (kept.coin == coin) (kept.tip == tip) shows.1 in
      ends-at kept (coin_at log kept.coin) refl (eqb-true kept.coin coin named.0)
      (λ made here. kept-ends dig (who wallet).tag made kept shows.0 filled.0 ∙ eqb-true kept.tip tip named.1) shown

  pub tip-ends : links_at dig wallet log coin tip ≡ Some links → (links.coin ≡ coin) × (tip_of links ≡ tip)
  tip-ends shown = at-found (find (is_of coin tip) all) refl shown

pub exits_are_of_the_tip : ExitsAreOfTheTip
exits_are_of_the_tip dig wallet log coin tip links (inl held) have shown =
    tip-ends dig wallet log coin tip links (held-tip dig wallet log coin tip held) have shown
exits_are_of_the_tip dig wallet log coin tip links (inr leaving) have shown =
    tip-ends dig wallet log coin tip links (leaving-tip dig wallet log coin tip leaving) have shown
