-- A refused command adds nothing, where its effect does so.
use Rattle.node_roles.proofs.Words.{◌≡◌, ℕ, Bool, true, false, if◌then◌else◌, List, Option, Some, None, Result, Ok, Err, refl, Effect, only, unless, Response, answered, said_by, given_text, Outcome}
use Rattle.node_replies.specs.declared.reply.Reply.{Reply}

abbrev pub AddsNothingRefused : Outcome → Type 0
AddsNothingRefused outcome = (cause : List ℕ) → outcome.says ≡ Err cause → (outcome.leaf ≡ None) × (outcome.note ≡ None)

-- an answer that is none of the refusals gives a text
no-refusal : (reply : Reply) (text cause : List ℕ) → ((why : List ℕ) → reply ≡ Reply.Refused why → ⊥)
    → said_by reply text ≡ Err cause → ⊥
no-refusal (Reply.Refused why) text cause none is = none why refl
no-refusal reply text cause none is = cc

-- what holds of each refusal of an answer holds where its text is one
pub refused-by : {A E : Type 0} (cause_of : E → List ℕ) (give : A → Response) (answer : Result A E)
    (P : Type 0) (cause : List ℕ) → ((a : A) (why : List ℕ) → (give a).reply ≡ Reply.Refused why → ⊥)
    → ((why : E) → answer ≡ Err why → P)
    → said_by (answered cause_of give answer).reply (given_text (answered cause_of give answer)) ≡ Err cause → P
refused-by cause_of give (Ok a) P cause none quiet is = absurd (no-refusal _ _ cause (none a) is)
refused-by cause_of give (Err why) P cause none quiet is = quiet why refl

-- a command that is refused for the first cause that holds
pub unless-quiet : {A E : Type 0} (cause : Option E) (effect : Effect (Result A E)) (answer : A) (why : E)
    → effect.answer ≡ Ok answer → (unless cause effect).answer ≡ Err why → (unless cause effect).note ≡ None
unless-quiet None effect answer why ok err = cc
unless-quiet (Some first) effect answer why ok err = refl

-- one that is refused in one of two cases
pub first-quiet : {A E : Type 0} (test : Bool) (answer : A) (added : Option (List ℕ)) (refusal why : E)
    → (if test then record { answer = Ok answer; note = added } else only {A = Result A E} (Err refusal)).answer
    ≡ Err why
    → (if test then record { answer = Ok answer; note = added } else only {A = Result A E} (Err refusal)).note ≡ None
first-quiet true answer added refusal why err = cc
first-quiet false answer added refusal why err = refl

pub second-quiet : {A E : Type 0} (test : Bool) (answer : A) (added : Option (List ℕ)) (refusal why : E)
    → (if test then only {A = Result A E} (Err refusal) else record { answer = Ok answer; note = added }).answer
    ≡ Err why
    → (if test then only {A = Result A E} (Err refusal) else record { answer = Ok answer; note = added }).note ≡ None
second-quiet true answer added refusal why err = refl
second-quiet false answer added refusal why err = cc
