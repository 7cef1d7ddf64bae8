-- What an audit's own functions answer.
use Rattle.receipt_audit.proofs.Words.{◌≡◌, ◌≢◌, ℕ, true, List, length, Err, refl, sym, ap, ◌∙◌, arith, true≢false, Result, OnOk, common_steps, RootCall, Chain, AreBytes, Bundle, HistoryRefusal, NoCoin, NotLink, BadSignature, NoMemory, bundle_in, readers_refusals, Tests, Promise, Conviction, AuditRefusal, NoRoom, audit_refusal, breach_of, convicted, is_of_audit, shown_by, conviction_answer, IsBroken}
use Rattle.receipt_audit.proofs.Refusals.{breach-refusals}
use Rattle.receipt_audit.proofs.Convictions.{convictions_show_broken_promises}

-- an answer that is the definition's shows a broken promise
pub broken-from : (dig : List ℕ → List ℕ) (chain : Chain) (key receipt bundle : List ℕ)
    (result : Result Conviction AuditRefusal)
    → (result ≢ Err NoRoom → result ≡ conviction_answer dig chain key receipt bundle)
    → ((bytes : List ℕ) → length (dig bytes) ≡ 32) → AreBytes receipt → AreBytes bundle
    → OnOk result (IsBroken dig chain key receipt bundle)
broken-from dig chain key receipt bundle result value long small others =
    grind (arith, common_steps, convictions_show_broken_promises) steps 20000

-- a refusal that isn't want of memory isn't it in the other words either
named : (why : HistoryRefusal) (said : AuditRefusal) → said ≡ audit_refusal why
    → ◌≢◌ {A = Result Conviction AuditRefusal} (Err said) (Err NoRoom) → why ≢ NoMemory
named why said is given same = given (ap Err (is ∙ ap audit_refusal same))

pub unread-answer : (dig : List ℕ → List ℕ) (log : List RootCall) (promise : Promise)
    (read : Result Bundle HistoryRefusal) (why : HistoryRefusal) (said : AuditRefusal) → said ≡ audit_refusal why
    → (◌≢◌ {A = Result Bundle HistoryRefusal} (Err why) (Err NoMemory) → Err why ≡ read)
    → ◌≢◌ {A = Result Conviction AuditRefusal} (Err said) (Err NoRoom)
    → Err said ≡ shown_by dig log promise read
unread-answer dig log promise read why said is value given = grind (arith, common_steps, named) steps 20000

pub breach-answer : (promise : Promise) (breach : Result Unit HistoryRefusal) (why : HistoryRefusal)
    (said : AuditRefusal) → said ≡ audit_refusal why
    → (◌≢◌ {A = Result Unit HistoryRefusal} (Err why) (Err NoMemory) → Err why ≡ breach)
    → ◌≢◌ {A = Result Conviction AuditRefusal} (Err said) (Err NoRoom)
    → Err said ≡ convicted promise breach
breach-answer promise breach why said is value given =
    ap Err is ∙ ap (convicted promise) (value (λ e. named why said is given (cc e)))

-- ---- causes that an auditor has a word for

-- what a reader refuses is one, whatever it is
pub read-cause : (bytes : List ℕ) (why : HistoryRefusal)
    → (◌≢◌ {A = Result Bundle HistoryRefusal} (Err why) (Err NoMemory) → Err why ≡ bundle_in bytes)
    → is_of_audit why ≡ true
read-cause bytes NoCoin value = absurd (true≢false (sym (readers_refusals bytes NoCoin (sym (value (λ e. cc e))))))
read-cause bytes (NotLink n) value =
    absurd (true≢false (sym (readers_refusals bytes (NotLink n) (sym (value (λ e. cc e))))))
read-cause bytes (BadSignature n) value =
    absurd (true≢false (sym (readers_refusals bytes (BadSignature n) (sym (value (λ e. cc e))))))
read-cause bytes why value = refl

-- and so is what a bundle's openings are refused for
pub breach-cause : (tests : Tests) (dig : List ℕ → List ℕ) (log : List RootCall) (promise : Promise) (bundle : Bundle)
    (why : HistoryRefusal)
    → (◌≢◌ {A = Result Unit HistoryRefusal} (Err why) (Err NoMemory) → Err why ≡ breach_of tests dig log promise bundle)
    → is_of_audit why ≡ true
breach-cause tests dig log promise bundle NoCoin value =
    absurd (true≢false (sym (breach-refusals tests dig log promise bundle NoCoin (sym (value (λ e. cc e))))))
breach-cause tests dig log promise bundle (NotLink n) value =
    absurd (true≢false (sym (breach-refusals tests dig log promise bundle (NotLink n) (sym (value (λ e. cc e))))))
breach-cause tests dig log promise bundle (BadSignature n) value =
    absurd (true≢false (sym (breach-refusals tests dig log promise bundle (BadSignature n) (sym (value (λ e. cc e))))))
breach-cause tests dig log promise bundle why value = refl

-- of these, want of memory alone is told as it
pub memory-of : (why : HistoryRefusal) → is_of_audit why ≡ true → audit_refusal why ≡ NoRoom → why ≡ NoMemory
memory-of why own is = grind (arith, common_steps, true≢false) steps 20000

pub memory-told : {A : Type 0} (why : HistoryRefusal) (said : AuditRefusal) → said ≡ audit_refusal why
    → is_of_audit why ≡ true → ◌≡◌ {A = Result Conviction AuditRefusal} (Err said) (Err NoRoom)
    → ◌≡◌ {A = Result A HistoryRefusal} (Err why) (Err NoMemory)
memory-told why said is own given = grind (arith, common_steps, memory-of) steps 20000
