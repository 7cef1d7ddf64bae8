-- A refusal adds no record; what is given out for one, and what a run did that was refused.
use Rattle.node_deeds.proofs.Words.{◌≡◌, ℕ, List, Bool, true, false, length, Option, Some, None, Ok, Err, refl, subst, sym, Result, IfOk, IfErr, IfSome, if◌then◌else◌, nat_lt, History, FaultPlan, only, NotesState, Did, stopped_by, Stop, lay_effect, prove_cause, Response, answered, refused, Given, IsGiven}
use Rattle.operator_rules.specs.declared.TheConstants.{MOST_LAID}
use Rattle.operator_rules.specs.declared.refusal.LayRefusal.{LayRefusal}
use Rattle.operator_rules.specs.declared.refusal.ProveRefusal.{ProveRefusal}
use Rattle.operator_rules.specs.declared.refusal.ProveRefusal.TheVariants.{NoMemory}
use Rattle.operator_rules.specs.Records.{Laid, note_text}

-- bytes that are too long add no record
pub lay-refused : (coin : ℕ) (leaf : List ℕ) (why : LayRefusal) → (lay_effect coin leaf).answer ≡ Err why
    → (lay_effect coin leaf).note ≡ None
unfolding lay_effect
lay-refused coin leaf why = at (nat_lt MOST_LAID (length leaf))
  where
    at : (long : Bool)
        → (if long then only {A = Result Unit LayRefusal} (Err (LayRefusal.LeafTooLong (length leaf)))
        else record { answer = Ok tt; note = Some (note_text (Laid coin leaf)) }).answer ≡ Err why
        → (if long then only {A = Result Unit LayRefusal} (Err (LayRefusal.LeafTooLong (length leaf)))
        else record { answer = Ok tt; note = Some (note_text (Laid coin leaf)) }).note ≡ None
    at true is = refl
    at false is = absurd (cc is)

-- what is given out for a refusal, or stopped so
pub given-refused : {A E : Type 0} (cause : E → List ℕ) (give : A → Response) (answer : Result A E) (why : E)
    (stop : Option Stop) (result : Result Given Stop) → (stop ≡ None → Err why ≡ answer)
    → IfOk result (λ given. IsGiven (refused (cause why)) given) → IfSome stop (λ s. result ≡ Err s)
    → IfOk result (λ given. IsGiven (answered cause give answer) given)
given-refused cause give answer why None result same gives stops =
    subst (λ a. IfOk result (λ given. IsGiven (answered cause give a) given)) (same refl) gives
given-refused cause give answer why (Some stop) result same gives stops =
    subst (λ r. IfOk r (λ given. IsGiven (answered cause give answer) given)) (sym stops) tt

-- the same where want of memory is the only stop
pub given-unproved : {A : Type 0} (give : A → Response) (answer : Result A ProveRefusal) (why : ProveRefusal)
    (result : Result Given Stop) → ((why ≡ NoMemory → ⊥) → Err why ≡ answer)
    → IfOk result (λ given. IsGiven (refused (prove_cause why)) given)
    → (why ≡ NoMemory → result ≡ Err Stop.NoMemory)
    → IfOk result (λ given. IsGiven (answered prove_cause give answer) given)
given-unproved give answer NoMemory result same gives stops =
    subst (λ r. IfOk r (λ given. IsGiven (answered prove_cause give answer) given)) (sym (stops refl)) tt
given-unproved give answer why result same gives stops =
    subst (λ a. IfOk result (λ given. IsGiven (answered prove_cause give a) given)) (same (λ e. cc e)) gives

-- What a run did that was refused for a cause that isn't a stop, or stopped. The text of a cause may find no memory.
module _ {D : Type 0} (told : D → Option History) (plan : D → Option FaultPlan) (faults : D → ℕ) where
  pub did-refused : {T : Type 0} (added : Option (List ℕ)) (old new : NotesState D) (why : Option Stop)
      (result : Result T Stop) → Did told plan faults added old why new → (why ≡ None → added ≡ None)
      → IfSome why (λ stop. result ≡ Err stop) → (why ≡ None → IfErr result (λ stop. stop ≡ Stop.NoMemory))
      → Did told plan faults added old (stopped_by result) new
  did-refused added old new (Some stop) result did free stops memory =
      subst (λ r. Did told plan faults added old (stopped_by r) new) (sym stops) did
  did-refused added old new None (Ok given) did free stops memory = did
  did-refused added old new None (Err stop) did free stops memory =
      subst (λ s. Did told plan faults added old (Some s) new) (sym (memory refl))
      (subst (λ m. Did told plan faults m old None new) (free refl) did)
