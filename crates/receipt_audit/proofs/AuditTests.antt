-- The answer of an audit, by what its tests say.
use Rattle.receipt_audit.proofs.Words.{◌≡◌, ℕ, ◌<◌, ◌≤◌, ◌-◌, not, Bool, true, false, if◌then◌else◌, List, length, take, drop, Some, Err, refl, sym, ap, ◌∙◌, arith, Result, nat_lt, true≢false, lt-ltb, le-ltb, take_rest, common_steps, is_supported, types_of, is_valid, Chain, blocks, bundle_in, Promise, Conviction, AuditRefusal, NotSigned, NotYet, promise_in, promised_part, signature_part, shown_by, conviction_answer}

passed : (test : Bool) (why : AuditRefusal) (further : Result Conviction AuditRefusal) → test ≡ false
    → (if test then Err why else further) ≡ further
passed true why further is = absurd (true≢false is)
passed false why further is = refl

stopped : (test : Bool) (why : AuditRefusal) (further : Result Conviction AuditRefusal) → test ≡ true
    → (if test then Err why else further) ≡ Err why
stopped true why further is = refl
stopped false why further is = absurd (true≢false (sym is))

-- what a test of a receipt's two parts says, as they are sliced
pub verified : (key other receipt : List ℕ) (said valid : Bool) → other ≡ key
    → said ≡ is_valid other (take 100 receipt) (take (length receipt - 100) (drop 100 receipt)) → said ≡ valid
    → is_valid key (promised_part receipt) (signature_part receipt) ≡ valid
verified key other receipt said valid same is known =
    ap (λ (k : List ℕ). is_valid k (take 100 receipt) (drop 100 receipt)) (sym same)
    ∙ ap (is_valid other (take 100 receipt)) (sym (take_rest receipt 100))
    ∙ sym is ∙ known

-- of a receipt that begins with a promise, under a key whose types are supported
module _ (dig : List ℕ → List ℕ) (chain : Chain) (key receipt bundle : List ℕ) (promise : Promise)
    (is : Some promise ≡ promise_in chain.tag receipt) (supported : is_supported (types_of key) ≡ true) where
  abbrev signed_answer : Result Conviction AuditRefusal
  signed_answer =
      if nat_lt (blocks chain.log) promise.due then Err (NotYet promise.due)
      else shown_by dig chain.log promise (bundle_in bundle)

  abbrev key_answer : Result Conviction AuditRefusal
  key_answer =
      if not (is_valid key (promised_part receipt) (signature_part receipt)) then Err NotSigned else signed_answer

  with-key : conviction_answer dig chain key receipt bundle ≡ key_answer
  unfolding conviction_answer
  with-key = grind (arith, common_steps, passed) steps 20000

  pub unsigned-answer : is_valid key (promised_part receipt) (signature_part receipt) ≡ false
      → Err NotSigned ≡ conviction_answer dig chain key receipt bundle
  unsigned-answer unsigned = grind (arith, common_steps, with-key, stopped) steps 20000

  with-signature : is_valid key (promised_part receipt) (signature_part receipt) ≡ true
      → conviction_answer dig chain key receipt bundle ≡ signed_answer
  with-signature signed = grind (arith, common_steps, with-key, passed) steps 20000

  pub early-answer : is_valid key (promised_part receipt) (signature_part receipt) ≡ true
      → blocks chain.log < promise.due → Err (NotYet promise.due) ≡ conviction_answer dig chain key receipt bundle
  early-answer signed early = grind (arith, common_steps, with-signature, stopped, lt-ltb) steps 20000

  pub due-answer : is_valid key (promised_part receipt) (signature_part receipt) ≡ true
      → promise.due ≤ blocks chain.log
      → shown_by dig chain.log promise (bundle_in bundle) ≡ conviction_answer dig chain key receipt bundle
  due-answer signed due = grind (arith, common_steps, with-signature, passed, le-ltb) steps 20000
