-- What a run's status says of the faults that were met, by the output that it was to write.
use Rattle.run_endings.proofs.Words.{◌≡◌, ℕ, Bool, true, false, List, Option, arith, common_steps, Status, DeviceFault, FaultsBy, Output, EndsAs}

-- a run whose output has another status than DeviceFault ends with another
pub other-status : (output : Output) (status : Status) (before after : Option (List ℕ)) (failed : Type 0)
    → (output.status ≡ DeviceFault → ⊥) → EndsAs output status before after failed → status ≡ DeviceFault → ⊥
other-status output status before after failed never ends is = grind (arith, common_steps) steps 20000

-- no fault was met
pub none-met : (Met : Bool → Type 0) (status : Status) → (status ≡ DeviceFault → ⊥) → Met false → FaultsBy status Met
none-met _ status never none = grind (arith, common_steps) steps 20000

-- the same in other words
pub by-more : (Met More : Bool → Type 0) → ((fault : Bool) → Met fault → More fault) → (status : Status)
    → FaultsBy status Met → FaultsBy status More
by-more _ _ more status is = grind (arith, common_steps) steps 20000

-- one was, and the run says so, or its text was stopped
pub one-met : (Met : Bool → Type 0) (output : Output) (status : Status) (before after : Option (List ℕ))
    (failed : Type 0) → output.status ≡ DeviceFault → EndsAs output status before after failed → Met true
    → FaultsBy status Met
one-met _ output status before after failed is ends one = grind (arith, common_steps) steps 20000
