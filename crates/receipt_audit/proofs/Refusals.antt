-- An audit's own answer isn't want of memory.
use Rattle.receipt_audit.proofs.Words.{◌≡◌, ◌≢◌, ℕ, not, Bool, true, false, if◌then◌else◌, List, [], ◌∷◌, ◌++◌, Option, Some, None, Ok, Err, refl, sym, ap, ◌∙◌, arith, Result, AllByRecursion, true≢false, common_steps, is_supported, types_of, RawOpening, RootCall, Tests, Bundle, HistoryRefusal, MissingBlock, NotAbsent, Cause, first_cause, is_asked, missing, opening_causes, lowest_failure, unless_failed, lowest-some, readers_refusals, Promise, Conviction, AuditRefusal, BadReceipt, BadKey, NoRoom, promise_in, is_kept, failure_of_breach, breach_of, audit_refusal, convicted, shown_by, audited, conviction_answer, AuditsHaveTheirCauses}
use Rattle.coin_history.specs.Laws.{is_of_reader, is_of_absence}

-- ---- what a breach is refused for

abbrev IsFine : Option HistoryRefusal → Type 0
IsFine failure = (why : HistoryRefusal) → failure ≡ Some why → is_of_absence why ≡ true

fine-some : (other : HistoryRefusal) → is_of_absence other ≡ true → IsFine (Some other)
fine-some other own why is = let e : other ≡ why = cc is in ap is_of_absence (sym e) ∙ own

fine-missing : (asked : Bool) (n : ℕ) → IsFine (missing asked n)
fine-missing true n = fine-some (MissingBlock n) refl
fine-missing false n = λ why is. absurd (cc is)

fine-causes : (causes : List Cause) → AllByRecursion (λ cause. is_of_absence cause.1 ≡ true) causes
    → IsFine (first_cause causes)
fine-causes [] all = λ why is. absurd (cc is)
fine-causes (cause ∷ causes) all =
    elim cause.0 as (λ b. IsFine (if b then Some cause.1 else first_cause causes)) [
      | true ↦ fine-some cause.1 all.0
      | false ↦ fine-causes causes all.1
    ]

fine-breach : (tests : Tests) (dig : List ℕ → List ℕ) (log : List RootCall) (promise : Promise) (n : ℕ)
    (found : Option RawOpening) → IsFine (failure_of_breach tests dig log promise n found)
fine-breach tests dig log promise n None = fine-missing (is_asked log promise.issued promise.due n) n
fine-breach tests dig log promise n (Some o) =
    fine-causes (opening_causes tests log promise.coin (is_asked log promise.issued promise.due n) o
    ++ (is_kept dig promise o, NotAbsent o.block) ∷ []) (refl, (refl, (refl, tt)))

fine-lowest : (failure : ℕ → Option HistoryRefusal) (n : ℕ) → ((m : ℕ) → IsFine (failure m))
    → IsFine (lowest_failure failure n)
fine-lowest failure n each why is = (let low = lowest-some failure n why is in each low.block why low.fails)

unless-fine : (failure : Option HistoryRefusal) → IsFine failure → (why : HistoryRefusal)
    → unless_failed {A = Unit {0}} failure tt ≡ Err why → is_of_absence why ≡ true
unless-fine None fine why is = absurd (cc is)
unless-fine (Some other) fine why is = (let e : other ≡ why = cc is in fine why (ap Some e))

pub breach-refusals : (tests : Tests) (dig : List ℕ → List ℕ) (log : List RootCall) (promise : Promise) (bundle : Bundle)
    (why : HistoryRefusal) → breach_of tests dig log promise bundle ≡ Err why → is_of_absence why ≡ true
unfolding breach_of
breach-refusals tests dig log promise bundle why is =
    grind (arith, common_steps, unless-fine, fine-lowest, fine-breach) steps 20000

-- ---- the answer

-- none of these is want of memory
reader-named : (why : HistoryRefusal) → is_of_reader why ≡ true → audit_refusal why ≢ NoRoom
reader-named why own = grind (arith, common_steps, true≢false) steps 20000

absence-named : (why : HistoryRefusal) → is_of_absence why ≡ true → audit_refusal why ≢ NoRoom
absence-named why own = grind (arith, common_steps, true≢false) steps 20000

-- an answer that isn't want of memory
abbrev IsNamed : Result Conviction AuditRefusal → Type 0
IsNamed answer = answer ≢ Err NoRoom

err-named : (why : AuditRefusal) → why ≢ NoRoom → IsNamed (Err why)
err-named why other is = other (cc is)

if-named : (test : Bool) (why : AuditRefusal) (further : Result Conviction AuditRefusal) → why ≢ NoRoom
    → IsNamed further → IsNamed (if test then Err why else further)
if-named true why further other rest = err-named why other
if-named false why further other rest = rest

convicted-named : (promise : Promise) (result : Result Unit HistoryRefusal)
    → ((why : HistoryRefusal) → result ≡ Err why → is_of_absence why ≡ true) → IsNamed (convicted promise result)
convicted-named promise (Ok done) own = λ e. cc e
convicted-named promise (Err why) own = err-named (audit_refusal why) (absence-named why (own why refl))

shown-named : (dig : List ℕ → List ℕ) (log : List RootCall) (promise : Promise) (read : Result Bundle HistoryRefusal)
    → ((why : HistoryRefusal) → read ≡ Err why → is_of_reader why ≡ true) → IsNamed (shown_by dig log promise read)
shown-named dig log promise (Err why) own = err-named (audit_refusal why) (reader-named why (own why refl))
shown-named dig log promise (Ok bundle) own =
    grind (arith, common_steps, convicted-named, breach-refusals, err-named) steps 20000

audited-named : (dig : List ℕ → List ℕ) (log : List RootCall) (key receipt bundle : List ℕ) (found : Option Promise)
    → IsNamed (audited dig log key receipt bundle found)
audited-named dig log key receipt bundle None = err-named BadReceipt (λ e. cc e)
audited-named dig log key receipt bundle (Some promise) =
    if-named (not (is_supported (types_of key))) BadKey _ (λ e. cc e)
    (grind (arith, common_steps, if-named, shown-named, readers_refusals) steps 20000)

pub audits_have_their_causes : AuditsHaveTheirCauses
unfolding conviction_answer
audits_have_their_causes dig chain key receipt bundle =
    audited-named dig chain.log key receipt bundle (promise_in chain.tag receipt)
