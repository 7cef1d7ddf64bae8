-- A bundle that is handed in and passes is a history under the chain's rules, whatever its bytes are.
use Rattle.world_laws.proofs.Basics.{◌≡◌, ℕ, ◌≤◌, List, [], length, Ok, Err, inl, inr, refl, sym, ap, ◌∙◌, subst, arith, rules, Result, unwrap_or, result_ok, cases_lt, lt-ltb, le-ltb}
use Rattle.world_laws.proofs.CoinWords.{Links, RootCall, tests_by, Rules, Bundle, Items, AreRising, length_at, items_in, bundle_of, bundle_in, IsHistory, items_in-ok, tagged-same, histories_are_found}
use Rattle.world_laws.proofs.NodeWords.{links_handed}
use Rattle.world_laws.proofs.WorldWords.{bundle_read}
use Rattle.coin_history.specs.declared.refusal.HistoryRefusal.{HistoryRefusal}
use Rattle.coin_history.specs.declared.refusal.HistoryRefusal.TheVariants.{BadBundle}
use Rattle.node_rules.proofs.KeptTexts.{handed-bundle}

abbrev as_read : Bundle → Result Bundle HistoryRefusal
as_read bundle = Ok bundle

ok-same : (one other : Bundle) → as_read one ≡ Ok other → one ≡ other
ok-same one other is = cc is

-- the blocks of a bundle that is read rise
items-rise : (bytes : List ℕ) (bundle : Bundle) (read : Result Items HistoryRefusal) → 20 ≤ length bytes
    → items_in bytes 20 0 (length_at bytes 16) ≡ read → bundle_of bytes read ≡ Ok bundle → AreRising bundle.openings
items-rise h0 h1 h2 h3 h4 h5 = grind (arith, ok-same, items_in-ok)

pub read-rising : (bytes : List ℕ) (bundle : Bundle) → bundle_in bytes ≡ Ok bundle → AreRising bundle.openings
unfolding bundle_in
read-rising bytes bundle h = elim (cases_lt (length bytes) 8) [
  | inl short ↦ let bad : Err (BadBundle 0) ≡ Ok bundle = rw (lt-ltb (length bytes) 8 short) at h in absurd (cc bad)
  | inr coin ↦ elim (cases_lt (length bytes) 16) [
    | inl short ↦ grind (arith, le-ltb, lt-ltb)
    | inr tip ↦ elim (cases_lt (length bytes) 20) [
      | inl short ↦ grind (arith, le-ltb, lt-ltb)
      | inr long ↦
          let read : bundle_of bytes (items_in bytes 20 0 (length_at bytes 16)) ≡ Ok bundle = grind (arith, le-ltb) in
          items-rise bytes bundle (items_in bytes 20 0 (length_at bytes 16)) long refl read
    ]
  ]
]

-- what a node takes that it is handed is the history of the bundle that the bytes spell
pub handed-history : (dig : List ℕ → List ℕ) (rules : Rules) (log : List RootCall) (bytes : List ℕ) (links : Links)
    → links_handed dig rules.tag log bytes ≡ Ok links
    → IsHistory (tests_by dig) rules log (bundle_read bytes) links
handed-history dig rules log bytes links is =
    let found = handed-bundle dig rules.tag log (bundle_in bytes) links is in
    let reads : bundle_read bytes ≡ found.0 =
    ap (λ r. unwrap_or (result_ok r) (record { coin = 0; tip = 0; openings = [] })) found.1 in
    subst (λ (b : Bundle). IsHistory (tests_by dig) rules log b links) (sym reads)
    (histories_are_found (tests_by dig) rules log found.0 links (read-rising bytes found.0 found.1)
    (sym (tagged-same (tests_by dig) rules log found.0) ∙ found.2))
