-- Each outcome leaves an image that the disk model allows.
use Rattle.crash_disk.proofs.Words.{◌≡◌, ◌⊎◌, ◌<◌, ◌≤◌, ◌+◌, ℕ, Bool, true, false, ◌||◌, List, [], ◌∷◌, ◌++◌, length, take, get_or, map, suc, zero, cond, refl, sym, ◌∙◌, ap, inl, inr, arith, length-append, length-take, cases_lt, le-leb, lt-ltb, nat_tests, append-nil, get_or_append_left, get_or-append_right, get_or-take, get_or-drop, list_any-append, length-map-range_with_len, get_or-map-range_with_len, list_any, count_by, range_with_len, same_number_lists, common_steps, sum_by-append, Step, asks_length, reads, writes, syncs, DeviceCall, History, content_after, synced_content_after, unsynced_ranges_after, with_write, is_within, is_touched, MayLeave, image_after, mix_of, mix_byte, Old, New, Mix}
use Rattle.crash_disk.specs.declared.outcome.Outcome.{Outcome}

-- a place that isn't touched has a synced byte and is in no range
not_touched : (bytes : List ℕ) (ranges : List (ℕ × ℕ)) (place : ℕ) → is_touched bytes ranges place ≡ false
    → (place < length bytes) × (list_any (is_within place) ranges ≡ false)
not_touched bytes ranges place is = grind (arith, common_steps, cases_lt, nat_tests, le-leb) steps 20000

either : (a b : Bool) → (a || b) ≡ false → (a ≡ false) × (b ≡ false)
either a b is = grind (arith, common_steps) steps 20000

-- a write leaves what is outside its range
pub with_write_outside : (old : List ℕ) (at : ℕ) (bytes : List ℕ) (place : ℕ) → place < length old
    → is_within place (at, length bytes) ≡ false → get_or (with_write old at bytes) place 0 ≡ get_or old place 0
with_write_outside old at bytes place lt out = elim (cases_lt place at) [
  | inl before ↦
      let in_take : place < length (take at old) = omega (arith, length-take at old) in
      grind (arith, common_steps, get_or_append_left, get_or-take) steps 20000
  | inr from ↦
      let past : at + length bytes ≤ place = behind from (cases_lt place (at + length bytes)) in
      let len : length (take at old ++ bytes) ≡ at + length bytes =
      omega (arith, length-append (take at old) bytes, length-take at old) in
      grind (arith, common_steps, get_or-append_right, get_or-drop) steps 20000
]
  where
    behind : at ≤ place → (place < at + length bytes) ⊎ (at + length bytes ≤ place) → at + length bytes ≤ place
    behind from (inr past) = past
    behind from (inl within) = grind (arith, common_steps, le-leb, lt-ltb) steps 20000

pub length-with_write : (old : List ℕ) (at : ℕ) (bytes : List ℕ) → length old ≤ length (with_write old at bytes)
length-with_write old at bytes = grind (arith, common_steps) steps 20000

-- the synced bytes are no longer than those that the disk holds
no_longer_call : (step : Step) (failed : Bool) (began : List ℕ) (calls : List DeviceCall)
    → length (synced_content_after began calls) ≤ length (content_after began calls)
    → length (synced_content_after began (record { step = step; failed = failed } ∷ calls)) ≤ length
    (content_after began (record { step = step; failed = failed } ∷ calls))
no_longer_call asks_length failed began calls le = le
no_longer_call (reads at count) failed began calls le = le
no_longer_call (writes at bytes) failed began calls le =
    omega (arith, length-with_write (content_after began calls) at bytes)
no_longer_call syncs true began calls le = le
no_longer_call syncs false began calls le = omega arith

pub synced_no_longer : (began : List ℕ) (calls : List DeviceCall)
    → length (synced_content_after began calls) ≤ length (content_after began calls)
synced_no_longer began [] = omega arith
synced_no_longer began (call ∷ calls) = no_longer_call call.step call.failed began calls (synced_no_longer began calls)

abbrev KeepsPlace : List ℕ → List DeviceCall → ℕ → Type 0
KeepsPlace began calls place =
    place < length (synced_content_after began calls)
    → list_any (is_within place) (unsynced_ranges_after calls) ≡ false
    → get_or (content_after began calls) place 0 ≡ get_or (synced_content_after began calls) place 0

keeps_call : (step : Step) (failed : Bool) (began : List ℕ) (calls : List DeviceCall) (place : ℕ)
    → KeepsPlace began calls place → KeepsPlace began (record { step = step; failed = failed } ∷ calls) place
keeps_call asks_length failed began calls place keeps lt out =
    keeps lt (ap (list_any (is_within place)) (sym (append-nil (unsynced_ranges_after calls))) ∙ out)
keeps_call (reads at count) failed began calls place keeps lt out =
    keeps lt (ap (list_any (is_within place)) (sym (append-nil (unsynced_ranges_after calls))) ∙ out)
keeps_call (writes at bytes) failed began calls place keeps lt out =
    let parts = either _ _ (sym
    (list_any-append (is_within place) (unsynced_ranges_after calls) ((at, length bytes) ∷ [])) ∙ out) in
    let here = either _ _ parts.1 in
    with_write_outside (content_after began calls) at bytes place (omega (arith, synced_no_longer began calls)) here.0
    ∙ keeps lt parts.0
keeps_call syncs true began calls place keeps lt out =
    keeps lt (ap (list_any (is_within place)) (sym (append-nil (unsynced_ranges_after calls))) ∙ out)
keeps_call syncs false began calls place keeps lt out = refl

-- what wasn't written since the sync is as it was
keeps : (began : List ℕ) (calls : List DeviceCall) (place : ℕ) → KeepsPlace began calls place
keeps began [] place = λ lt out. refl
keeps began (call ∷ calls) place = keeps_call call.step call.failed began calls place (keeps began calls place)

pub length-mix_of : (bytes : List ℕ) (ranges : List (ℕ × ℕ)) (pattern : List ℕ) (growth : ℕ)
    → length (mix_of bytes ranges pattern growth) ≡ length bytes + growth
length-mix_of bytes ranges pattern growth =
    length-map-range_with_len (mix_byte bytes ranges pattern) 0 (length bytes + growth)

pub outcomes : (outcome : Outcome) (history : History) → MayLeave history (image_after outcome history)
outcomes Old history = grind (arith, common_steps, synced_no_longer) steps 20000
outcomes New history = grind (arith, common_steps, synced_no_longer, not_touched, keeps) steps 20000
outcomes (Mix extra pattern) history =
    grind (arith, common_steps, length-mix_of, synced_no_longer, not_touched, get_or-map-range_with_len) steps 20000

-- nothing to count
pub none_below : (p : ℕ → Bool) (a n : ℕ) → ((k : ℕ) → a ≤ k → k < a + n → p k ≡ false)
    → count_by p (range_with_len a n) ≡ 0
none_below p a zero none = refl
none_below p a (suc n) none =
    let value : Bool → ℕ = λ b. cond b 1 0 in
    let here : value (p a) ≡ 0 = ap value (none a (omega arith) (omega arith)) in
    let step : count_by p (range_with_len a (suc n)) ≡ value (p a) + count_by p (range_with_len (a + 1) n) =
    sum_by-append (λ x. value (p x)) (a ∷ []) (range_with_len (a + 1) n) ∙ omega arith in
    let again = none_below p (a + 1) n (λ k from lt. none k (omega (arith, from)) (omega (arith, lt))) in
    step ∙ (λ i. here i + again i)

-- the bytes before the touched places are those of a mix
pub mix-front : (bytes : List ℕ) (ranges : List (ℕ × ℕ)) (pattern : List ℕ) (first : ℕ) → first ≤ length bytes
    → ((place : ℕ) → place < first → is_touched bytes ranges place ≡ false)
    → take first bytes ≡ map (mix_byte bytes ranges pattern) (range_with_len 0 first)
mix-front bytes ranges pattern first within none =
    let byte = mix_byte bytes ranges pattern in
    let len : length (take first bytes) ≡ first = omega (arith, length-take first bytes, within) in
    same_number_lists (take first bytes) (map byte (range_with_len 0 first))
    (len ∙ sym (length-map-range_with_len byte 0 first))
    (λ place lt.
    let lt' : place < first = omega (arith, lt, len) in
    let out = none place lt' in
    grind (arith, common_steps, get_or-take, get_or-map-range_with_len) steps 20000)
