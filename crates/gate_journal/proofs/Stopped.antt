-- What a crash leaves at each moment of calls that write nothing, and of a making.
use Rattle.gate_journal.proofs.Words.{◌≡◌, ◌≤◌, ◌+◌, ℕ, zero, suc, Bool, true, false, cond, eqb, List, [], ◌∷◌, ◌++◌, length, take, drop, MatchBool, slice_index, refl, sym, ◌∙◌, ap, subst, arith, append-nil, common_steps, Step, asks_length, reads, writes, syncs, DeviceCall, History, content, content_after, synced_content_after, unsynced_ranges_after, is_touched, MayLeave, before_last, LeavesOnly, Course, passed, failed_after, stopped_after, made_of, after_course, content_may_be_left, synced_content_is_left, open_steps, empty, is_made, look_steps, make_steps, IsBlank, StoppedOpenings, StoppedMakings}
use Rattle.gate_journal.proofs.Making.{empty_written, not_made, short_blank, make_steps-made, make_steps-new}

-- the calls at each moment since a number of them have Q
abbrev Since : ℕ → List DeviceCall → (List DeviceCall → Type 0) → Type 0
Since start calls Q = (count : ℕ) → start + count ≤ length calls → Q (drop count calls)

since_more : (start : ℕ) (calls : List DeviceCall) (call : DeviceCall) (Q : List DeviceCall → Type 0)
    → Since start calls Q → Q (call ∷ calls) → Since start (call ∷ calls) Q
since_more start calls call Q since here zero le = here
since_more start calls call Q since here (suc n) le = since n (omega (arith, le))

-- steps that have S
abbrev AllSteps : (Step → Type 0) → List Step → Type 0
AllSteps S [] = Unit {0}
AllSteps S (step ∷ steps) = S step × AllSteps S steps

first_steps : (S : Step → Type 0) (count : ℕ) (steps : List Step) → AllSteps S steps → AllSteps S (take count steps)
first_steps S zero steps all = tt
first_steps S (suc count) [] all = tt
first_steps S (suc count) (step ∷ steps) all = (all.0, first_steps S count steps all.1)

-- what each call keeps whose step has S
module _ (Q : List DeviceCall → Type 0) (S : Step → Type 0)
    (keeps : (step : Step) (failed : Bool) (calls : List DeviceCall) → S step → Q calls
    → Q (record { step = step; failed = failed } ∷ calls)) where
  since_made : (start count : ℕ) (steps : List Step) (calls : List DeviceCall) → AllSteps S steps
      → start ≤ length calls → Since start calls Q → Since start (made_of count steps calls) Q
  since_made start count [] calls all le since = since
  since_made start zero (step ∷ steps) calls all le since =
      since_more start calls (record { step = step; failed = true }) Q since
      (keeps step true calls all.0 (since 0 (omega (arith, le))))
  since_made start (suc count) (step ∷ steps) calls all le since =
      since_made start count steps (record { step = step; failed = false } ∷ calls) all.1 (omega (arith, le))
      (since_more start calls (record { step = step; failed = false }) Q since
      (keeps step false calls all.0 (since 0 (omega (arith, le)))))

  since_start : (calls : List DeviceCall) → Q calls → Since (length calls) calls Q
  since_start calls here zero le = here
  since_start calls here (suc n) le = absurd (omega (arith, le))

  -- at each moment of calls that went so
  since_course : (course : Course) (steps : List Step) (history : History) → AllSteps S steps → Q history.calls
      → Since (length history.calls) (after_course course steps history).calls Q
  since_course passed steps history all here = grind (arith, common_steps, since_made, since_start) steps 20000
  since_course (failed_after count) steps history all here =
      since_made (length history.calls) count steps history.calls all (omega arith) (since_start history.calls here)
  since_course (stopped_after count) steps history all here =
      grind (arith, common_steps, since_made, first_steps, since_start) steps 20000

-- a step that writes nothing
abbrev pub IsQuiet : Step → Type 0
IsQuiet (writes place bytes) = ⊥
IsQuiet step = Unit {0}

-- the disk holds the same, and a crash leaves no other image
record IsAs (before : History) (calls : List DeviceCall) : Type 0 where
  holds : content_after before.began calls ≡ content before
  images : (image : List ℕ) → MayLeave (record { began = before.began; calls = calls }) image → MayLeave before image

-- a call that changes neither what is synced nor the ranges
as_read : (before : History) (calls : List DeviceCall) (call : DeviceCall) → IsAs before calls
    → content_after before.began (call ∷ calls) ≡ content_after before.began calls
    → synced_content_after before.began (call ∷ calls) ≡ synced_content_after before.began calls
    → unsynced_ranges_after (call ∷ calls) ≡ unsynced_ranges_after calls ++ [] → IsAs before (call ∷ calls)
as_read before calls call same holds synced ranges = record {
  holds = holds ∙ same.holds;
  images = λ image may. same.images image (record {
    no_shorter = omega (arith, may.no_shorter, ap length synced);
    no_longer = omega (arith, may.no_longer, ap length holds);
    untouched = λ place out.
        let ranges' = ranges ∙ append-nil (unsynced_ranges_after calls) in
        may.untouched place ((λ i. is_touched (synced i) (ranges' i) place) ∙ out)
        ∙ ap (λ (b : List ℕ). slice_index b place) synced;
  });
}

as_keeps : (before : History) (step : Step) (failed : Bool) (calls : List DeviceCall) → IsQuiet step
    → IsAs before calls → IsAs before (record { step = step; failed = failed } ∷ calls)
as_keeps before asks_length failed calls quiet same = as_read before calls _ same refl refl refl
as_keeps before (reads place count) failed calls quiet same = as_read before calls _ same refl refl refl
as_keeps before (writes place bytes) failed calls quiet same = absurd quiet
as_keeps before syncs true calls quiet same = as_read before calls _ same refl refl refl
as_keeps before syncs false calls quiet same = record {
  holds = same.holds;
  images = λ image may.
      let now : History = record { began = before.began; calls = record { step = syncs; failed = false } ∷ calls } in
      let is = synced_content_is_left now image refl may ∙ same.holds in
      subst (MayLeave before) (sym is) (content_may_be_left before);
}

as_start : (before : History) → IsAs before before.calls
as_start before = record { holds = refl; images = λ image may. may }

-- calls that write nothing, however they went
module _ (course : Course) (steps : List Step) (history : History) (quiet : AllSteps IsQuiet steps) where
  pub quiet_leaves : LeavesOnly history (after_course course steps history) (MayLeave history)
  quiet_leaves image (count, le, may) =
      (since_course (IsAs history) IsQuiet (as_keeps history) course steps history quiet
      (as_start history) count le).images image (at course may)
    where
      at : (course : Course) → MayLeave (before_last count (after_course course steps history)) image
          → MayLeave (record {
            began = history.began;
            calls = drop count (after_course course steps history).calls;
          }) image
      at passed may = may
      at (failed_after n) may = may
      at (stopped_after n) may = may

opens_quietly : (image : List ℕ) → AllSteps IsQuiet (open_steps image)
opens_quietly image = (tt, (tt, (tt, tt)))

pub stopped_openings : StoppedOpenings
stopped_openings history course =
    quiet_leaves course (open_steps (content history)) history (opens_quietly (content history))

looks_quietly : (image : List ℕ) → AllSteps IsQuiet (look_steps image)
looks_quietly image = elim (eqb (length image) 5) as
    (λ b. AllSteps IsQuiet (asks_length ∷ cond b (reads 0 5 ∷ []) [])) [ true ↦ (tt, (tt, tt)) | false ↦ (tt, tt) ]

-- a step of a making
abbrev IsMaking : Step → Type 0
IsMaking (writes place bytes) = (place ≡ 0) × (bytes ≡ empty)
IsMaking step = Unit {0}

-- at most five bytes
abbrev IsShort : List ℕ → List DeviceCall → Type 0
IsShort began calls = length (content_after began calls) ≤ 5

short_keeps : (began : List ℕ) (step : Step) (failed : Bool) (calls : List DeviceCall) → IsMaking step
    → IsShort began calls → IsShort began (record { step = step; failed = failed } ∷ calls)
short_keeps began asks_length failed calls is le = le
short_keeps began (reads place count) failed calls is le = le
short_keeps began (writes place bytes) failed calls is le = grind (arith, common_steps, empty_written) steps 20000
short_keeps began syncs failed calls is le = le

makes_so : (image : List ℕ) → AllSteps IsMaking (look_steps image ++ writes 0 empty ∷ syncs ∷ [])
makes_so image = grind (arith, common_steps) steps 20000

-- a making over a made image leaves all as it was
pub made_leaves : (history : History) (course : Course) → is_made (content history) ≡ true
    → LeavesOnly history (after_course course (make_steps (content history)) history) (MayLeave history)
made_leaves history course made =
    subst (λ (s : List Step). LeavesOnly history (after_course course s history) (MayLeave history))
    (sym (make_steps-made (content history) made))
    (quiet_leaves course (look_steps (content history)) history (looks_quietly (content history)))

-- one over another image leaves at most five bytes
new_leaves : (history : History) (course : Course) → is_made (content history) ≡ false
    → LeavesOnly history (after_course course (make_steps (content history)) history) IsBlank
new_leaves history course new =
    subst (λ (s : List Step). LeavesOnly history (after_course course s history) IsBlank)
    (sym (make_steps-new (content history) new)) (at course)
  where
    steps : List Step
    steps = look_steps (content history) ++ writes 0 empty ∷ syncs ∷ []

    short : (course : Course) (count : ℕ)
        → length history.calls + count ≤ length (after_course course steps history).calls
        → IsShort history.began (drop count (after_course course steps history).calls)
    short course count le =
        since_course (IsShort history.began) IsMaking (short_keeps history.began) course steps history
        (makes_so (content history)) (not_made (content history) new) count le

    at : (course : Course) → LeavesOnly history (after_course course steps history) IsBlank
    at passed image (count, le, may) = short_blank image (omega (arith, short passed count le, may.no_longer))
    at (failed_after n) image (count, le, may) =
        short_blank image (omega (arith, short (failed_after n) count le, may.no_longer))
    at (stopped_after n) image (count, le, may) =
        short_blank image (omega (arith, short (stopped_after n) count le, may.no_longer))

pub stopped_makings : StoppedMakings
stopped_makings history course = by_made (is_made (content history)) refl
  where
    by_made : (made : Bool) → is_made (content history) ≡ made
        → LeavesOnly history (after_course course (make_steps (content history)) history)
        (λ image. MatchBool (is_made (content history)) (MayLeave history image) (IsBlank image))
    by_made true made = λ image may. subst (λ (b : Bool). MatchBool b (MayLeave history image) (IsBlank image))
        (sym made) (made_leaves history course made image may)
    by_made false made = λ image may. subst (λ (b : Bool). MatchBool b (MayLeave history image) (IsBlank image))
        (sym made) (new_leaves history course made image may)
