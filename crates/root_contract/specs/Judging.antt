-- What judging a call finds, and what a call does to a contract.
use Rattle.std.specs.Prelude.{◌≡◌, ℕ, ◌||◌, not, Bool, true, false, List, [], ◌∷◌, Option, Some, Result, Ok, Err}
use Rattle.plasma_tx.specs.{declared.owner.Owner.{Owner}, declared.signed_tx.SignedTx.{SignedTx}, declared.call.RootCall.{RootCall}, declared.call.RootCall.TheVariants.{StartSpend, After, Between, Before, Respond}}
use Rattle.plasma_tx.specs.{declared.answer.Answer.{Answer}, declared.answer.Answer.TheVariants.{Refused as IsRefused, NoMemory as WantsMemory}, Chain.{Chain, with_log}, declared.answer.Refusal.TheVariants.{NotChild, BadSignature}}
use Rattle.plasma_tx.specs.{Shown.{Tests, rules_of, spends, signs}, Table.{Cause, shows_none, answer_to, is_accepted}}
use Rattle.root_contract.specs.{declared.stop.Stop.{Stop}, declared.stop.Stop.TheVariants.{Refused, NoMemory}}

-- a call is to be answered so: by its effect, or by the refusal; nothing is said where memory ran out
abbrev pub Judges : {A : Type 0} → Answer → (A → Answer) → Result A Stop → Type 0
Judges answer effect (Ok found) = answer ≡ effect found
Judges answer effect (Err (Refused why)) = answer ≡ IsRefused why
Judges answer effect (Err NoMemory) = Unit {0}

-- the causes that a transfer which has to spend the block of a parent may have, in the table's order
abbrev pub spend_causes : Tests → ℕ → Owner → Option SignedTx → List Cause
spend_causes tests parent owner spend =
    (
    shows_none spend
    ∷ (not (spends parent spend), NotChild)
    ∷ (not (signs tests (Some owner) spend), BadSignature)
    ∷ []
    )

-- the answer of the table to the call
abbrev pub table_answer : Tests → Chain → RootCall → Answer
table_answer tests chain call = answer_to tests (rules_of chain) chain.log call

-- the call shows an opening, or may show one, for whose reading memory is taken
abbrev pub shows_opening : RootCall → Bool
shows_opening (StartSpend account coin parent exit) = true
shows_opening (After account coin exit spend) = true
shows_opening (Between account coin exit spend) = true
shows_opening (Before account coin exit shown) = true
shows_opening (Respond account coin exit challenged spend) = true
shows_opening call = false

-- memory is taken for the call: it may show an opening, or it is accepted
abbrev pub may_want : Tests → Chain → RootCall → Bool
may_want tests chain call = shows_opening call || is_accepted (table_answer tests chain call)

-- An accepted call is appended to the log; a refusal and want of memory change nothing, and memory can only run out
-- where it is taken.
abbrev pub Takes : Tests → Chain → Chain → RootCall → Result Answer Stop → Type 0
Takes tests old new call (Ok answer) =
    (answer ≡ table_answer tests old call) × (is_accepted answer ≡ true) × (new ≡ with_log old (call ∷ old.log))
Takes tests old new call (Err (Refused why)) = (table_answer tests old call ≡ IsRefused why) × (new ≡ old)
Takes tests old new call (Err NoMemory) = (new ≡ old) × (may_want tests old call ≡ true)

-- the answer of a call that was taken, or wasn't
abbrev pub answer_of : Result Answer Stop → Answer
answer_of (Ok answer) = answer
answer_of (Err (Refused why)) = IsRefused why
answer_of (Err NoMemory) = WantsMemory
