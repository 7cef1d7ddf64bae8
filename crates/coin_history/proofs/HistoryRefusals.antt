-- A reader, a history and absences are refused by their own refusals alone.
use Rattle.coin_history.proofs.Words.{◌≡◌, ℕ, zero, suc, ◌+◌, ◌==◌, Bool, true, false, if◌then◌else◌, List, [], ◌∷◌, ◌++◌, length, Option, Some, None, Ok, Err, refl, sym, ap, ◌∙◌, arith, AllByRecursion, true≢false, common_steps, RawOpening, Links, RootCall, number_at, coin_at, Tests, Rules, Bundle, HistoryRefusal, BadBundle, NoCoin, UnknownBlock, MissingBlock, NotAbsent, NoMemory, length_at, Items, with_item, items_in, bundle_of, bundle_in, is_absent, links_of, Cause, first_cause, is_asked, opening_at, missing, opening_causes, links_before, link_causes, failure_in, lowest_failure, above, unless_failed, may_be_tip, checked, where_made, history_of, failure_of_absence, absence_of, is_of_reader, is_of_history, is_of_absence, ReadersRefusals, HistoriesRefusals, AbsencesRefusals}
use Rattle.std.specs.Prelude.{Result, nat_lt, not, slice_range}
use Rattle.coin_history.proofs.HistoryOpenings.{lowest-some}

module _ (own : HistoryRefusal → Bool) where
  -- the answer's refusal, and the failure, pass
  abbrev Refused : {A : Type 0} → Result A HistoryRefusal → Type 0
  Refused answer = (why : HistoryRefusal) → answer ≡ Err why → own why ≡ true

  abbrev Fails : Option HistoryRefusal → Type 0
  Fails failure = (why : HistoryRefusal) → failure ≡ Some why → own why ≡ true

  refused-ok : {A : Type 0} (answer : A) → Refused (Ok answer)
  refused-ok answer why is = absurd (cc is)

  refused-err : {A : Type 0} (other : HistoryRefusal) → own other ≡ true → Refused {A = A} (Err other)
  refused-err other passes why is = let e : other ≡ why = cc in ap own (sym e) ∙ passes

  refused-if : {A : Type 0} (test : Bool) (a b : Result A HistoryRefusal) → Refused a → Refused b
      → Refused (if test then a else b)
  refused-if true a b one other = one
  refused-if false a b one other = other

  refused-unless : {A : Type 0} (failure : Option HistoryRefusal) (answer : A) → Fails failure
      → Refused (unless_failed failure answer)
  refused-unless None answer fails = refused-ok answer
  refused-unless (Some other) answer fails = refused-err other (fails other refl)

  fails-lowest : (failure : ℕ → Option HistoryRefusal) (n : ℕ) → ((m : ℕ) → Fails (failure m))
      → Fails (lowest_failure failure n)
  fails-lowest failure n each why is =
      let low = lowest-some failure n why is in each low.block why low.fails

  fails-cause : (causes : List Cause) → AllByRecursion (λ cause. own cause.1 ≡ true) causes
      → Fails (first_cause causes)
  fails-cause [] all = λ why is. absurd (cc is)
  fails-cause (cause ∷ causes) all = grind (arith, common_steps, fails-cause causes all.1) steps 20000

  fails-missing : (asked : Bool) (n : ℕ) → own (MissingBlock n) ≡ true → Fails (missing asked n)
  fails-missing true n passes why is = let e : MissingBlock n ≡ why = cc in ap own (sym e) ∙ passes
  fails-missing false n passes why is = absurd (cc is)

-- ---- readers

refused-bad : {A : Type 0} (b : Bool) (place : ℕ) (further : Result A HistoryRefusal)
    → Refused is_of_reader further → Refused is_of_reader (if b then Err (BadBundle place) else further)
refused-bad b place further rest =
    refused-if is_of_reader b (Err (BadBundle place)) further (refused-err is_of_reader (BadBundle place) refl) rest

refused-item : (opening : RawOpening) (rest : Result Items HistoryRefusal) → Refused is_of_reader rest
    → Refused is_of_reader (with_item opening rest)
refused-item opening (Err other) rest = λ why is. rest why (cc is)
refused-item opening (Ok items) rest = refused-ok is_of_reader _

pub refused-items : (bytes : List ℕ) (place low count : ℕ) → Refused is_of_reader (items_in bytes place low count)
unfolding items_in
refused-items bytes place low zero = refused-ok is_of_reader _
refused-items bytes place low (suc count) =
    let block = number_at bytes place in
    let end = place + 12 + length_at bytes (place + 8) in
    let opening : RawOpening = record { block = block; bytes = slice_range bytes (place + 12) end } in
    let further = items_in bytes end (block + 1) count in
    refused-bad (nat_lt (length bytes) (place + 8)) place _
    (refused-bad (nat_lt block low) place _
    (refused-bad (nat_lt (length bytes) (place + 12)) (place + 8) _
    (refused-bad (nat_lt (length bytes) end) (place + 12) (with_item opening further)
    (refused-item opening further (refused-items bytes end (block + 1) count)))))

-- so not for want of memory
pub item-own : (bytes : List ℕ) (place low count : ℕ) (why : HistoryRefusal)
    → items_in bytes place low count ≡ Err why → why ≡ NoMemory → ⊥
item-own bytes place low count why is e =
    let own : is_of_reader why ≡ true = refused-items bytes place low count why is in
    true≢false (sym own ∙ ap is_of_reader e)

refused-bundle : (bytes : List ℕ) (items : Result Items HistoryRefusal) → Refused is_of_reader items
    → Refused is_of_reader (bundle_of bytes items)
refused-bundle bytes (Err other) rest = λ why is. rest why (cc is)
refused-bundle bytes (Ok items) rest =
    refused-if is_of_reader (items.place == length bytes) _ _ (refused-ok is_of_reader _)
    (refused-err is_of_reader (BadBundle items.place) refl)

pub readers_refusals : ReadersRefusals
unfolding bundle_in
readers_refusals bytes =
    let items = items_in bytes 20 0 (length_at bytes 16) in
    refused-bad (nat_lt (length bytes) 8) 0 _
    (refused-bad (nat_lt (length bytes) 16) 8 _
    (refused-bad (nat_lt (length bytes) 20) 16 (bundle_of bytes items)
    (refused-bundle bytes items (refused-items bytes 20 0 (length_at bytes 16)))))

-- ---- histories

fails-history : (tests : Tests) (rules : Rules) (log : List RootCall) (tip : ℕ) (links : Links) (n : ℕ)
    (found : Option RawOpening) → Fails is_of_history (failure_in tests rules log tip links n found)
fails-history tests rules log tip links n None =
    fails-missing is_of_history (is_asked log links.deposit tip n) n refl
fails-history tests rules log tip links n (Some o) =
    fails-cause is_of_history (opening_causes tests log links.coin (is_asked log links.deposit tip n) o
    ++ link_causes tests rules tip (links_before n links) o) (refl, (refl, (refl, (refl, tt))))

refused-checked : (tests : Tests) (rules : Rules) (log : List RootCall) (bundle : Bundle) (links : Links)
    → Refused is_of_history (checked tests rules log bundle links)
refused-checked tests rules log bundle links =
    let failures = λ (n : ℕ). failure_in tests rules log bundle.tip links n (opening_at bundle.openings n) in
    refused-if is_of_history (may_be_tip log links.deposit bundle.tip)
    (unless_failed (lowest_failure failures (above bundle.tip bundle.openings)) links) (Err (UnknownBlock bundle.tip))
    (refused-unless is_of_history (lowest_failure failures (above bundle.tip bundle.openings)) links
    (fails-lowest is_of_history failures (above bundle.tip bundle.openings)
    (λ n. fails-history tests rules log bundle.tip links n (opening_at bundle.openings n))))
    (refused-err is_of_history (UnknownBlock bundle.tip) refl)

pub histories_refusals : HistoriesRefusals
unfolding history_of
histories_refusals tests rules log bundle =
    elim (coin_at log bundle.coin) as (λ o. Refused is_of_history
    (where_made o (λ made. checked tests rules log bundle (links_of rules made bundle)))) [
      | None ↦ refused-err is_of_history NoCoin refl
      | Some made ↦ refused-checked tests rules log bundle (links_of rules made bundle)
    ]

-- ---- absences

fails-absence : (tests : Tests) (log : List RootCall) (coin after last n : ℕ) (found : Option RawOpening)
    → Fails is_of_absence (failure_of_absence tests log coin after last n found)
fails-absence tests log coin after last n None = fails-missing is_of_absence (is_asked log after last n) n refl
fails-absence tests log coin after last n (Some o) =
    fails-cause is_of_absence (opening_causes tests log coin (is_asked log after last n) o
    ++ (not (is_absent o), NotAbsent o.block) ∷ []) (refl, (refl, (refl, tt)))

pub absences_refusals : AbsencesRefusals
unfolding absence_of
absences_refusals tests log after last bundle =
    let failures = λ (n : ℕ).
    failure_of_absence tests log bundle.coin after last n (opening_at bundle.openings n) in
    refused-if is_of_absence (bundle.tip == last)
    (unless_failed (lowest_failure failures (above last bundle.openings)) tt) (Err (UnknownBlock bundle.tip))
    (refused-unless is_of_absence (lowest_failure failures (above last bundle.openings)) tt
    (fails-lowest is_of_absence failures (above last bundle.openings)
    (λ n. fails-absence tests log bundle.coin after last n (opening_at bundle.openings n))))
    (refused-err is_of_absence (UnknownBlock bundle.tip) refl)
