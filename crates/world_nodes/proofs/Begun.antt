-- Disks that are begun: nothing but want of memory refuses empty ones, and they get no fuse.
use Rattle.world_nodes.proofs.Words.{◌≡◌, ◌<◌, ◌||◌, [], ℕ, false, List, length, Result, Ok, Err, inl, inr, refl, sym, ◌∙◌, ap, subst, arith, false≢true, common_steps, Step, asks_length, content, with_call, is_spent, fails_first, MemState, plan_of, passing-no_fuse, is_taken, init_steps, journal_steps, InitsOver, Inits, IsNotTold, IsAsked, RefusesPair, BeginsPair, InitRefusal, mem_told, mem_plan, mem_faults, NoneListed, HasNoFuse, empty_disk}
use Rattle.gate_journal.specs.declared.refusal.InitRefusal.TheVariants.{AlreadyMade as InitMade, DeviceFault as InitFault, NoMemory as InitNoMemory}
use Rattle.world_nodes.proofs.Declared.{empty_listed, unfolded_asked, asked_listed}
use Rattle.world_nodes.proofs.Ready.{planned-unfused}

-- an empty disk on which no call is to fail
record IsFresh (disk : MemState) : Type 0 where
  listed : NoneListed disk
  unfused : HasNoFuse disk
  empty : content disk.history ≡ []

fresh : (disk : MemState) → disk ≡ empty_disk → IsFresh disk
fresh disk is = subst IsFresh (sym is) (record { listed = empty_listed; unfused = refl; empty = refl })

init-over : (steps : List ℕ → List Step) (old new : MemState) (why : InitRefusal) → IsFresh old
    → InitsOver mem_told mem_plan steps (content old.history) old (Err why) new → why ≡ InitNoMemory
init-over steps old new (InitMade count) is over =
    absurd (false≢true (sym (ap is_taken is.empty) ∙ over.0))
init-over steps old new InitFault is over =
    let less : over.0 < length (steps (content old.history)) = over.1.planned.0 in
    let same = over.1.planned.1 (plan_of old) refl in
    grind (arith, common_steps, passing-no_fuse) steps 20000
init-over steps old new InitNoMemory is over = refl

init-fresh : (steps : List ℕ → List Step) (old new : MemState) (why : InitRefusal) → IsFresh old
    → Inits mem_told mem_plan steps old (Err why) new → why ≡ InitNoMemory
init-fresh steps old new why is inits = init-over steps old new why is (inits old.history refl)

-- one disk
pub init-why : (steps : List ℕ → List Step) (old new : MemState) (result : Result Unit InitRefusal)
    (why : InitRefusal) → result ≡ Err why → old ≡ empty_disk → Inits mem_told mem_plan steps old result new
    → why ≡ InitNoMemory
init-why steps old new result why is empty inits =
    init-fresh steps old new why (fresh old empty)
    (subst (λ (r : Result Unit InitRefusal). Inits mem_told mem_plan steps old r new) is inits)

init-passed : (steps : List ℕ → List Step) (old new : MemState) (done : Unit {0}) → HasNoFuse old
    → Inits mem_told mem_plan steps old (Ok done) new → HasNoFuse new
init-passed steps old new done unfused inits =
    planned-unfused (length (steps (content old.history))) old new (inits old.history refl).1.planned.1 unfused

pub init-unfused : (steps : List ℕ → List Step) (old new : MemState) (result : Result Unit InitRefusal)
    (done : Unit {0}) → result ≡ Ok done → old ≡ empty_disk → Inits mem_told mem_plan steps old result new
    → HasNoFuse new
init-unfused steps old new result done is empty inits =
    init-passed steps old new done (fresh old empty).unfused
    (subst (λ (r : Result Unit InitRefusal). Inits mem_told mem_plan steps old r new) is inits)

-- a wallet's two disks, of which the notes are first asked for their length
asked-fresh : (old new : MemState) → IsFresh old → IsAsked mem_told mem_plan mem_faults old new → IsFresh new
asked-fresh old new is asked =
    let told : new.history ≡ with_call asks_length false old.history = cc asked.called.history in
    record {
      listed = asked_listed old new asked is.listed;
      unfused = planned-unfused 1 old new (unfolded_asked old new asked) is.unfused;
      empty = ap content told ∙ is.empty;
    }

not-told : (notes new : MemState) (why : InitRefusal) → IsFresh notes
    → IsNotTold mem_told mem_plan mem_faults notes why new → why ≡ InitNoMemory
not-told notes new InitFault is told =
    let passes : fails_first (plan_of notes) ≡ false =
    ap (λ f. is_spent f || (plan_of notes).listed 0) is.unfused ∙ is.listed.listed 0 in
    absurd (false≢true (sym passes ∙ sym (told.0.fails (plan_of notes) refl)))
not-told notes new InitNoMemory is told = refl
not-told notes new (InitMade count) is told = absurd told

pair-refused : (identity : List ℕ) (asked leaves new_notes new_leaves : MemState) (why : InitRefusal)
    → IsFresh asked → IsFresh leaves
    → RefusesPair mem_told mem_plan mem_faults mem_told mem_plan mem_faults identity asked leaves why new_notes
    new_leaves
    → why ≡ InitNoMemory
pair-refused identity asked leaves new_notes new_leaves why is is' (inl (long, refused)) =
    grind (arith, common_steps) steps 20000
pair-refused identity asked leaves new_notes new_leaves why is is' (inr (short, inl (same, refused))) =
    init-fresh journal_steps leaves new_leaves why is' refused.inits
pair-refused identity asked leaves new_notes new_leaves why is is' (inr (short, inr (stops, passes))) =
    init-fresh (init_steps identity) asked new_notes why is stops.inits

begins-refused : (identity : List ℕ) (notes leaves new_notes new_leaves : MemState) (why : InitRefusal)
    → IsFresh notes → IsFresh leaves
    → BeginsPair mem_told mem_plan mem_faults mem_told mem_plan mem_faults identity notes leaves (Err why) new_notes
    new_leaves → why ≡ InitNoMemory
begins-refused identity notes leaves new_notes new_leaves why is is' (inl (told, same)) =
    not-told notes new_notes why is told
begins-refused identity notes leaves new_notes new_leaves why is is' (inr (asked, asks, refused)) =
    pair-refused identity asked leaves new_notes new_leaves why (asked-fresh notes asked is asks) is' refused

module _ (identity : List ℕ) (notes leaves new_notes new_leaves : MemState) (result : Result Unit InitRefusal)
    (empty : notes ≡ empty_disk) (bare : leaves ≡ empty_disk)
    (begins : BeginsPair mem_told mem_plan mem_faults mem_told mem_plan mem_faults identity notes leaves result
    new_notes
    new_leaves) where
  pub pair-why : (why : InitRefusal) → result ≡ Err why → why ≡ InitNoMemory
  pair-why why is =
      begins-refused identity notes leaves new_notes new_leaves why (fresh notes empty) (fresh leaves bare)
      (grind (arith, common_steps) steps 20000)

  pub pair-unfused : (done : Unit {0}) → result ≡ Ok done → HasNoFuse new_notes × HasNoFuse new_leaves
  pair-unfused done is = grind (arith, common_steps, init-passed, asked-fresh, fresh) steps 20000
