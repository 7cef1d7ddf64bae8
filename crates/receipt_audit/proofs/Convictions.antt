-- A conviction shows a broken promise.
use Rattle.receipt_audit.proofs.Words.{◌≡◌, ◌≢◌, ℕ, ◌^◌, ◌<◌, not, Bool, true, false, if◌then◌else◌, List, [], ◌∷◌, ◌++◌, length, Option, Some, None, Ok, Err, inl, inr, refl, sym, ap, ◌∙◌, arith, ◌⊎◌, Result, nat_lt, is_some, All, Contains, bytes_eq, cases_Bool, both_ways, true≢false, not-false, and_from, recursion_from_All, All-contains_itself, bytes_eq-Decides, common_steps, is_supported, types_of, is_valid, leaf_of, root_of, path_to, is_opening-path_to, RawOpening, RootCall, Chain, blocks, tests_by, root_at, opens_root, some_same, Bundle, HistoryRefusal, bundle_in, is_empty, leaf_of_opening, opens_block, is_asked, opening_at, found-each, asked-from, asked-from_blocks, Promise, Conviction, AuditRefusal, BadKey, NotSigned, NotYet, promise_in, promise_text, promised_part, signature_part, Honours, is_kept, breach_of, convicted, shown_by, audited, conviction_answer, ClashesAt, ShowsBreach, ConvictionsShowBrokenPromises, KeptPromisesAreNotConvicted}
use Rattle.sparse_merkle.specs.declared.tree.Entry.{Entry}
use Rattle.sparse_merkle.specs.MaskedPath.{proof_path}
use Rattle.sparse_merkle.specs.Opening.{is_opening}
use Rattle.sparse_merkle.proofs.OpeningLaws.{HasClash-openings}
use Rattle.plasma_tx.specs.declared.opening.Opening.{Opening}
use Rattle.plasma_tx.specs.declared.opening.OpeningRefusal.{OpeningRefusal}
use Rattle.plasma_tx.specs.Openings.{opening_in}
use Rattle.plasma_tx.proofs.OpeningTexts.{leaf-shown}
use Rattle.coin_history.proofs.BundleLaws.{text-bundle_in}
use Rattle.receipt_audit.proofs.Breaches.{breaches_are_found}
use Rattle.receipt_audit.proofs.PromiseTexts.{promises_are_read_back, promises_have_one_spelling}

-- ---- what is known where somebody is convicted

-- what a test didn't refuse
passes : (test : Bool) (why : AuditRefusal) (further : Result Conviction AuditRefusal) (conviction : Conviction)
    → (if test then Err why else further) ≡ Ok conviction → (test ≡ false) × (further ≡ Ok conviction)
passes true why further conviction is = absurd (cc is)
passes false why further conviction is = (refl, is)

record IsAudited (dig : List ℕ → List ℕ) (chain : Chain) (key receipt bundle : List ℕ) : Type 0 where
  promise : Promise
  shown : Bundle
  is_promise : promise_in chain.tag receipt ≡ Some promise
  signed : is_valid key (promised_part receipt) (signature_part receipt) ≡ true
  is_bundle : bundle_in bundle ≡ Ok shown
  breach : breach_of (tests_by dig) dig chain.log promise shown ≡ Ok tt

convicted-ok : (promise : Promise) (result : Result Unit HistoryRefusal) (conviction : Conviction)
    → convicted promise result ≡ Ok conviction → result ≡ Ok tt
convicted-ok promise (Ok tt) conviction is = refl
convicted-ok promise (Err why) conviction is = absurd (cc is)

shown-ok : (dig : List ℕ → List ℕ) (log : List RootCall) (promise : Promise) (read : Result Bundle HistoryRefusal)
    (conviction : Conviction) → shown_by dig log promise read ≡ Ok conviction
    → (shown : Bundle) × (read ≡ Ok shown) × (breach_of (tests_by dig) dig log promise shown ≡ Ok tt)
shown-ok dig log promise read conviction is = grind (arith, common_steps, convicted-ok) steps 20000

audited-ok : (dig : List ℕ → List ℕ) (chain : Chain) (key receipt bundle : List ℕ) (conviction : Conviction)
    (found : Option Promise) → promise_in chain.tag receipt ≡ found
    → audited dig chain.log key receipt bundle found ≡ Ok conviction
    → IsAudited dig chain key receipt bundle
audited-ok dig chain key receipt bundle conviction None found_is is = absurd (cc is)
audited-ok dig chain key receipt bundle conviction (Some promise) found_is is =
    let supported = passes (not (is_supported (types_of key))) BadKey _ conviction is in
    let signed = passes (not (is_valid key (promised_part receipt) (signature_part receipt))) NotSigned _ conviction
    supported.1 in
    let due = passes (nat_lt (blocks chain.log) promise.due) (NotYet promise.due) _ conviction signed.1 in
    let shown = shown-ok dig chain.log promise (bundle_in bundle) conviction due.1 in
    record {
      promise = promise;
      shown = shown.0;
      is_promise = found_is;
      signed = not-false (is_valid key (promised_part receipt) (signature_part receipt)) signed.0;
      is_bundle = shown.1;
      breach = shown.2;
    }

-- ---- an opening of the span, and a map

-- an opening that opens a root was read
read-opened : (dig : List ℕ → List ℕ) (root : List ℕ) (coin : ℕ) (raw : RawOpening)
    (read : Result Opening OpeningRefusal) → opening_in dig raw ≡ read → opens_root dig root coin read ≡ true
    → (opening : Opening) × (opening_in dig raw ≡ Ok opening)
    × (is_opening dig root coin opening.leaf (proof_path dig opening.proof) ≡ true)
read-opened dig root coin raw (Err why) is opens = absurd (true≢false (sym opens))
read-opened dig root coin raw (Ok opening) is opens = (opening, is, opens)

filled : (leaf : List ℕ) → leaf ≢ [] → not (is_empty leaf) ≡ true
filled [] there = absurd (there refl)
filled (byte ∷ bytes) there = refl

-- an opening whose leaf a map has at the coin, and that doesn't show the transfer: the map doesn't honour the promise
not-honoured : (dig : List ℕ → List ℕ) (promise : Promise) (raw : RawOpening) (entries : List Entry)
    → is_kept dig promise raw ≡ false → leaf_of_opening raw ≡ leaf_of entries promise.coin
    → Honours dig entries promise → ⊥
not-honoured dig promise raw entries unkept same honours =
    grind (arith, common_steps, and_from, filled, bytes_eq-Decides, true≢false) steps 20000

module _ (dig : List ℕ → List ℕ) (log : List RootCall) (promise : Promise) (openings : List RawOpening)
    (long : (bytes : List ℕ) → length (dig bytes) ≡ 32) (small : promise.coin < 2 ^ 64)
    (breach : ShowsBreach (tests_by dig) dig log promise openings) where
  abbrev IsGood : RawOpening → Type 0
  IsGood raw =
      Contains openings raw × (opens_block (tests_by dig) log promise.coin raw ≡ true)
      × (is_kept dig promise raw ≡ false)

  both : (raws : List RawOpening) → All (Contains openings) raws
      → All (λ raw. opens_block (tests_by dig) log promise.coin raw ≡ true) raws
      → All (λ raw. is_kept dig promise raw ≡ false) raws → All IsGood raws
  both raws has opens unkept = λ k d lt. (has k d lt, opens k d lt, unkept k d lt)

  -- the opening of an asked block
  opened-at : (n : ℕ) → is_asked log promise.issued promise.due n ≡ true
      → (raw : RawOpening) × (raw.block ≡ n) × IsGood raw
  opened-at n asked =
      let are = asked-from_blocks log promise.issued promise.due openings breach.blocks in
      let all = recursion_from_All IsGood openings
      (both openings (All-contains_itself openings) breach.opened breach.unkept) in
      (elim (opening_at openings n) as (λ o. opening_at openings n ≡ o
      → (raw : RawOpening) × (raw.block ≡ n) × IsGood raw) [
        | None ↦ λ none. absurd (true≢false (sym asked ∙ are.other n none))
        | Some raw ↦ λ found. (let r = found-each IsGood openings n raw all found in (raw, r.0, r.1))
      ]) refl

  -- that opening and a map with the block's root
  against : (n : ℕ) (root : List ℕ) (entries : List Entry) (raw : RawOpening) → raw.block ≡ n → IsGood raw
      → root_at log n ≡ Some root → All (λ entry. entry.coin < 2 ^ 64) entries → root_of dig entries ≡ root
      → (Honours dig entries promise → ⊥) ⊎ ClashesAt dig promise.coin n entries openings
  against n root entries raw at good has below same =
      let opens : opens_root dig root promise.coin (opening_in dig raw) ≡ true =
      grind (arith, common_steps) steps 20000 in
      let read = read-opened dig root promise.coin raw (opening_in dig raw) refl opens in
      let shows : leaf_of_opening raw ≡ read.0.leaf = leaf-shown dig raw read.0 read.1 in
      let there : is_opening dig root promise.coin (leaf_of entries promise.coin) (path_to dig promise.coin entries)
      ≡ true = grind (arith, common_steps, is_opening-path_to) steps 20000 in
      elim (cases_Bool (bytes_eq read.0.leaf (leaf_of entries promise.coin))) [
        | inl one ↦ inl (grind (arith, common_steps, not-honoured, bytes_eq-Decides) steps 20000)
        | inr two ↦ inr (record {
          raw = raw;
          opening = read.0;
          shown = good.0;
          block = at;
          reads = read.1;
          clash = HasClash-openings dig root read.0.leaf (leaf_of entries promise.coin) promise.coin
              (proof_path dig read.0.proof) (path_to dig promise.coin entries) long read.2 there
              (grind (arith, common_steps, both_ways, bytes_eq-Decides) steps 20000);
        })
      ]

pub convictions_show_broken_promises : ConvictionsShowBrokenPromises
unfolding conviction_answer
convictions_show_broken_promises dig chain key receipt bundle conviction long bytes others is =
    let known = audited-ok dig chain key receipt bundle conviction (promise_in chain.tag receipt) refl is in
    let promise = known.promise in
    let spelled = promises_have_one_spelling chain.tag receipt promise bytes known.is_promise in
    let read = text-bundle_in bundle known.shown others known.is_bundle in
    let found = breaches_are_found (tests_by dig) dig chain.log promise known.shown read.1.rising known.breach in
    record {
      promise = promise;
      shown = known.shown;
      is_promise = known.is_promise;
      is_bundle = known.is_bundle;
      signed = known.signed;
      broken = λ n root entries less le has below same.
          let asked = asked-from chain.log promise.issued promise.due n (ap (λ (o : Option (List ℕ)). is_some o) has)
          less le in
          let at = opened-at dig chain.log promise known.shown.openings long spelled.2.coin found.1 n asked in
          against dig chain.log promise known.shown.openings long spelled.2.coin found.1 n root entries at.0 at.1 at.2
          has below same;
    }

pub kept_promises_are_not_convicted : KeptPromisesAreNotConvicted
kept_promises_are_not_convicted dig chain promise key signature bytes bundle n entries conviction long small others fits
    tagged digest there less le has below leaf_is is =
    let broken = convictions_show_broken_promises dig chain key (promise_text promise ++ signature) bundle conviction
    long small others is in
    let read : promise_in chain.tag (promise_text promise ++ signature) ≡ Some promise =
    grind (arith, common_steps, promises_are_read_back) steps 20000 in
    let same : broken.promise ≡ promise = some_same broken.promise promise (sym broken.is_promise ∙ read) in
    grind (arith, common_steps) steps 20000
