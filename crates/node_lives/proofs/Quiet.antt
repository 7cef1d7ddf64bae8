-- What a crash leaves of calls that write nothing: what it could have left before.
use Rattle.std.proofs.Common.{◌≡◌, ◌<◌, ◌||◌, ℕ, Bool, true, false, if◌then◌else◌, eqb, ltb, List, [], ◌∷◌, ◌++◌, length, Option, Some, None, is_some, refl, sym, ◌∙◌, ap, subst, arith, length-append}
use Rattle.std.specs.Option.{option_map}
use Rattle.std.proofs.lemmas.List.{append-nil}
use Rattle.std.proofs.lemmas.Grind.{common_steps}
use Rattle.crash_disk.specs.Disk.{Step, asks_length, reads, writes, syncs, History, content, MayLeave, with_call, LeavesOnly}
use Rattle.crash_disk.specs.Calls.{Course, after_course}
use Rattle.gate_journal.specs.Image.{kept_records, spelled_record, spelled_records}
use Rattle.gate_journal.specs.Journal.{Keeps}
use Rattle.gate_journal.specs.Steps.{append_steps, open_steps}
use Rattle.gate_journal.specs.Make.{empty, is_made, look_steps}
use Rattle.node_journal.specs.Begin.{has_content, is_taken, journal_steps, init_steps}
use Rattle.gate_journal.proofs.Front.{fronts}
use Rattle.gate_journal.proofs.Rest.{leaves_now}
use Rattle.gate_journal.proofs.Stopped.{quiet_leaves, stopped_openings}

-- each image that a crash now may leave could have been left before
abbrev pub LeavesNoMore : History → History → Type 0
LeavesNoMore before now = (image : List ℕ) → MayLeave now image → MayLeave before image

-- the same of what a disk tells, before and after
abbrev pub Quietly : Option History → Option History → Type 0
Quietly old new = (before now : History) → old ≡ Some before → new ≡ Some now → LeavesNoMore before now

-- nothing was done
pub quiet-same : (old new : Option History) → new ≡ old → Quietly old new
quiet-same old new same before now is also =
    (let one : now ≡ before = cc in λ image may. subst (λ (h : History). MayLeave h image) one may)

pub quiet-behind : (old mid new : Option History) → ((now : History) → new ≡ Some now → (h : History) × (mid ≡ Some h))
    → Quietly old mid → Quietly mid new → Quietly old new
quiet-behind old mid new told first next before now is also image may =
    let there = told now also in
    first before there.0 is there.1 image (next there.0 now there.1 also image may)

-- device calls that were made so, over what the disk held
abbrev pub MadeOver : (History → History) → Option History → Option History → Type 0
MadeOver makes old new = new ≡ option_map makes old

pub made-now : (makes : History → History) (old new : Option History) (before now : History)
    → MadeOver makes old new → old ≡ Some before → new ≡ Some now → now ≡ makes before
made-now makes old new before now made is also =
    (let e : Some now ≡ Some (makes before) = sym also ∙ made ∙ ap (option_map makes) is in cc)

-- where a disk tells behind device calls, it told before
pub told-before : (makes : History → History) (old new : Option History) (now : History)
    → MadeOver makes old new → new ≡ Some now → (before : History) × (old ≡ Some before)
told-before makes None new now made is = absurd (let e : None ≡ Some now = sym made ∙ is in cc)
told-before makes (Some before) new now made is = (before, refl)

-- ---- the length is asked

abbrev asking : List Step
asking = asks_length ∷ []

pub asked-quiet : (failed : Bool) (old new : Option History) → MadeOver (with_call asks_length failed) old new
    → Quietly old new
asked-quiet failed old new made before now is also image may =
    grind (arith, common_steps, made-now, leaves_now, quiet_leaves) steps 20000

-- ---- an opening

pub opening-quiet : (course : Course) (old new : Option History)
    → MadeOver (λ before. after_course course (open_steps (content before)) before) old new → Quietly old new
opening-quiet course old new made before now is also image may =
    let one = made-now (λ h. after_course course (open_steps (content h)) h) old new before now made is also in
    leaves_now before course (open_steps (content before)) (MayLeave before) (stopped_openings before course) image
    (subst (λ (h : History). MayLeave h image) one may)

-- ---- an image with a record

-- the image keeps some record
pub record HasRecord (image : List ℕ) : Type 0 where
  pub first : List ℕ
  pub others : List (List ℕ)
  pub keeps : Keeps (first ∷ others) image

or-true : (a b : Bool) → b ≡ true → (a || b) ≡ true
or-true true b is = refl
or-true false b is = is

pub recorded-made : (image : List ℕ) → HasRecord image → is_made image ≡ true
recorded-made image has =
    or-true (ltb 5 (length image)) (is_some (kept_records image)) (ap is_some has.keeps)

pub recorded-taken : (image : List ℕ) → HasRecord image → is_taken image ≡ true
recorded-taken image has = ap (has_content (length image)) has.keeps

pub recorded-long : (image : List ℕ) → HasRecord image → 5 < length image
recorded-long image has =
    let f = fronts image (has.first ∷ has.others) has.keeps in
    omega (
      arith,
      ap length f.is,
      length-append f.front (f.gate ∷ f.rest),
      f.read.place,
      length-append (spelled_record has.first) (spelled_records has.others),
    )

-- ---- the device calls of an init over one

pub journal-calls : (image : List ℕ) → HasRecord image → journal_steps image ≡ look_steps image ++ open_steps image
journal-calls image has =
    ap (λ (b : Bool). (if b then look_steps image else look_steps image ++ writes 0 empty ∷ syncs ∷ [])
    ++ open_steps (if b then image else empty)) (recorded-made image has)

pub init-calls : (identity image : List ℕ) → HasRecord image
    → init_steps identity image ≡ look_steps image ++ open_steps image
init-calls identity image has =
    ap (λ (b : Bool). journal_steps image ++ (if b then [] else append_steps 4 identity)) (recorded-taken image has)
    ∙ append-nil (journal_steps image) ∙ journal-calls image has

looks-leave : (course : Course) (history : History) (image : List ℕ)
    → LeavesOnly history (after_course course (look_steps image ++ open_steps image) history) (MayLeave history)
looks-leave course history image =
    (elim (eqb (length image) 5) as
    (λ b. LeavesOnly history
    (after_course course ((asks_length ∷ (if b then reads 0 5 ∷ [] else [])) ++ open_steps image) history)
    (MayLeave history)) [
      | true ↦ quiet_leaves course _ history (tt, (tt, (tt, (tt, (tt, tt)))))
      | false ↦ quiet_leaves course _ history (tt, (tt, (tt, (tt, tt))))
    ])

-- such device calls, of an init or up to an open journal, leave no more
pub init-quiet : (steps : List ℕ → List Step) (course : Course) (old new : Option History)
    → ((image : List ℕ) → HasRecord image → steps image ≡ look_steps image ++ open_steps image)
    → ((before : History) → old ≡ Some before → HasRecord (content before))
    → MadeOver (λ before. after_course course (steps (content before)) before) old new → Quietly old new
init-quiet steps course old new looks has made before now is also image may =
    let one = made-now (λ h. after_course course (steps (content h)) h) old new before now made is also in
    let calls = looks (content before) (has before is) in
    let same : now ≡ after_course course (look_steps (content before) ++ open_steps (content before)) before =
    one ∙ ap (λ (s : List Step). after_course course s before) calls in
    leaves_now before course (look_steps (content before) ++ open_steps (content before)) (MayLeave before)
    (looks-leave course before (content before)) image
    (subst (λ (h : History). MayLeave h image) same may)
