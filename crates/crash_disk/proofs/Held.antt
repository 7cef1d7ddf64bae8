-- What a disk over a file tells is what its file holds.
use Rattle.crash_disk.proofs.Words.{◌≡◌, ◌<◌, ℕ, zero, suc, Bool, true, false, if◌then◌else◌, List, [], ◌∷◌, length, Option, Some, None, Result, Ok, Err, is_err, IfOk, OnOk, refl, sym, ◌∙◌, ap, subst, arith, option_map, common_steps, Step, asks_length, reads, writes, syncs, DeviceCall, History, content_after_step, content_after, content, with_call, WhereTold, FileAsk, FileCall, finds, marks, asked, all_passed, holds, WhereHeld, AllPassed, has_name, sync_asks, asks_of, went, marked, Asked, Makes, AreFor, told_of}
use Rattle.std.proofs.Math.Logic.{∥∥₁_map, ∥∥₁_elim}
use Rattle.std.proofs.Props.{props}

-- a call more in front
pub one_more : (ask : FileAsk) (asks : List FileAsk) (failed : Bool) (old mid new : List FileCall)
    → mid ≡ asked ask false old → Asked asks failed mid new → Asked (ask ∷ asks) failed old new
one_more ask asks false old mid new is made =
    made ∙ ap (λ (calls : List FileCall). went (length asks) asks calls) is
one_more ask asks true old mid new is made = (
  suc made.0,
  omega (arith, made.1),
  made.2 ∙ ap (λ (calls : List FileCall). marked (went made.0 asks calls)) is,
)

-- the calls of a sync behind the look that found the file
pub sync_more : (known failed : Bool) (old mid new : List FileCall) → known ≡ has_name old
    → mid ≡ asked (finds true) false old → Asked (sync_asks known) failed mid new
    → Asked (asks_of syncs true (has_name old)) failed old new
sync_more known failed old mid new is found made = grind (arith, common_steps, one_more) steps 20000

broken : (count : ℕ) (asks : List FileAsk) (calls : List FileCall) → count < length asks
    → all_passed (went count asks calls) ≡ false
broken count [] calls lt = absurd (omega (arith, lt))
broken zero (ask ∷ asks) calls lt = refl
broken (suc count) (ask ∷ asks) calls lt = broken count asks (asked ask false calls) (omega (arith, lt))

mark_if : (b : Bool) (calls : List FileCall)
    → all_passed (if b then asked marks false calls else calls) ≡ all_passed calls
mark_if b calls = grind (arith, common_steps) steps 20000

marked_broken : (calls : List FileCall) → all_passed calls ≡ false → all_passed (marked calls) ≡ false
marked_broken calls is = grind (arith, common_steps, mark_if) steps 20000

-- what a device call leaves that passed
abbrev Passed : Step → List ℕ → List FileCall → List FileCall → Type 0
Passed step image old new =
    (all_passed old ≡ true) × (holds image new ≡ content_after_step step (holds image old))

sync_passed : (named : Bool) (image : List ℕ) (old new : List FileCall)
    → new ≡ went (length (sync_asks named)) (sync_asks named) old → all_passed new ≡ true → Passed syncs image old new
sync_passed named image old new is all = grind (arith, common_steps) steps 20000

step_passed : (step : Step) (there named : Bool) (image : List ℕ) (old new : List FileCall)
    → new ≡ went (length (asks_of step there named)) (asks_of step there named) old → all_passed new ≡ true
    → Passed step image old new
step_passed asks_length there named image old new is all = (ap all_passed (sym is) ∙ all, ap (holds image) is)
step_passed (reads place count) there named image old new is all =
    (ap all_passed (sym is) ∙ all, ap (holds image) is)
step_passed (writes place bytes) there named image old new is all =
    (ap all_passed (sym is) ∙ all, ap (holds image) is)
step_passed syncs false named image old new is all = (ap all_passed (sym is) ∙ all, ap (holds image) is)
step_passed syncs true named image old new is all =
    sync_passed named image (asked (finds true) false old) new is all

made_passed : (step : Step) (failed : Bool) (image : List ℕ) (old new : List FileCall)
    → Makes step failed old new → all_passed new ≡ true → Passed step image old new
made_passed step failed image old new made all =
    grind (arith, common_steps, step_passed, marked_broken, broken) steps 20000

held : (image : List ℕ) (calls : List DeviceCall) (files : List FileCall) → AreFor calls files
    → all_passed files ≡ true → holds image files ≡ content_after image calls
held image [] files are all = ap (holds image) are
held image (call ∷ calls) files are all =
    let step = made_passed call.step call.failed image are.0 files are.2 all in
    step.1 ∙ ap (content_after_step call.step) (held image calls are.0 are.1 step.0)

pub holds_content : (image : List ℕ) (calls : List DeviceCall) (files : List FileCall) → ∥ AreFor calls files ∥₁
    → all_passed files ≡ true → holds image files ≡ content_after image calls
holds_content image calls files are all = ∥∥₁_elim are (search props) (λ are. held image calls files are all)

-- what a file answers stands for what its disk tells
pub told_where : (began : Option (List ℕ)) (past : History) (files : List FileCall) (P : List ℕ → Type 0)
    → ∥ AreFor past.calls files ∥₁ → AllPassed began files → WhereHeld began files P
    → WhereTold (told_of began past) (λ history. P (content history))
told_where None past files P are all is history told = absurd (cc told)
told_where (Some image) past files P are all is history told =
    let same : record { began = image; calls = past.calls } ≡ history = cc told in
    subst (λ (h : History). P (content h)) same
    (subst P (holds_content image past.calls files are (all image refl)) (is image refl))

-- one device call more is told
pub told_more : (began : Option (List ℕ)) (past : History) (step : Step) (failed : Bool)
    → told_of began (with_call step failed past) ≡ option_map (with_call step failed) (told_of began past)
told_more began past step failed = grind (arith, common_steps) steps 20000

-- what is told of a call with a value
pub told_value : {T E : Type 0} (began : Option (List ℕ)) (past : History) (files : List FileCall)
    (P : T → List ℕ → Type 0) (result : Result T E) (v : T) → result ≡ Ok v → ∥ AreFor past.calls files ∥₁
    → OnOk result (AllPassed began files) → IfOk result (λ v. WhereHeld began files (P v))
    → WhereTold (told_of began past) (λ history. P v (content history))
told_value began past files P (Ok w) v is are all ok =
    let same : w ≡ v = cc is in
    told_where began past files (P v) are all (subst (λ u. WhereHeld began files (P u)) same ok)
told_value began past files P (Err e) v is are all ok = absurd (cc is)

-- the same of what a device call answers by it
pub told_answer : {T E F : Type 0} (began : Option (List ℕ)) (past : History) (files : List FileCall)
    (P : T → List ℕ → Type 0) (result : Result T E) (answer : Result T F) → IfOk answer (λ v. result ≡ Ok v)
    → ∥ AreFor past.calls files ∥₁ → OnOk result (AllPassed began files)
    → IfOk result (λ v. WhereHeld began files (P v))
    → IfOk answer (λ v. WhereTold (told_of began past) (λ history. P v (content history)))
told_answer began past files P result (Ok v) is are all ok = told_value began past files P result v is are all ok
told_answer began past files P result (Err f) is are all ok = tt

-- what is told of a call without one
pub told_done : {T U E F : Type 0} (began : Option (List ℕ)) (past : History) (files : List FileCall)
    (P : List ℕ → Type 0) (result : Result T E) (answer : Result U F) → is_err answer ≡ is_err result
    → ∥ AreFor past.calls files ∥₁ → OnOk result (AllPassed began files) → OnOk result (WhereHeld began files P)
    → OnOk answer (WhereTold (told_of began past) (λ history. P (content history)))
told_done began past files P (Ok v) (Ok u) is are all ok = told_where began past files P are all ok
told_done began past files P (Err e) (Ok u) is are all ok = absurd (cc is)
told_done began past files P result (Err f) is are all ok = tt

-- the calls of one device call more
pub are_after : (past now : History) (step : Step) (failed noted : Bool) (earlier files : List FileCall)
    → now ≡ with_call step noted past → noted ≡ failed → ∥ AreFor past.calls earlier ∥₁
    → Makes step failed earlier files → ∥ AreFor now.calls files ∥₁
are_after past now step failed noted earlier files is same are made =
    subst (λ (h : History). ∥ AreFor h.calls files ∥₁) (sym is)
    (∥∥₁_map are (λ are. (earlier, are, subst (λ (b : Bool). Makes step b earlier files) (sym same) made)))

-- what a call finds behind the look for the file, it finds before it
pub filled_before : {T E : Type 0} (result : Result T E) (P : List ℕ → Type 0) (there : Bool)
    (began began-2 : Option (List ℕ)) (old mid : List FileCall) → began-2 ≡ began → mid ≡ asked (finds there) false old
    → OnOk result (WhereHeld began-2 mid P) → OnOk result (WhereHeld began old P)
filled_before result P there began began-2 old mid stays is ok =
    subst (λ (b : Option (List ℕ)). OnOk result (WhereHeld b (asked (finds there) false old) P)) stays
    (subst (λ (l : List FileCall). OnOk result (WhereHeld began-2 l P)) is ok)

pub held_before : {T E : Type 0} (result : Result T E) (P : T → List ℕ → Type 0) (there : Bool)
    (began began-2 : Option (List ℕ)) (old mid : List FileCall) → began-2 ≡ began → mid ≡ asked (finds there) false old
    → IfOk result (λ v. WhereHeld began-2 mid (P v)) → IfOk result (λ v. WhereHeld began old (P v))
held_before result P there began began-2 old mid stays is ok =
    subst (λ (b : Option (List ℕ)). IfOk result (λ v. WhereHeld b (asked (finds there) false old) (P v))) stays
    (subst (λ (l : List FileCall). IfOk result (λ v. WhereHeld began-2 l (P v))) is ok)
