-- A refusal of a watcher adds no record.
use Rattle.node_deeds.proofs.Words.{◌≡◌, ℕ, List, Bool, true, false, Option, Some, None, Ok, Err, refl, Result, if◌then◌else◌, Effect, only, unless, first_cause, RootCall, Released, note_text, guard_taken, guard_by, guard_causes, guard_effect, release_effect, guards_in, is_of, who_is, refused}
use Rattle.std.specs.List.{list_any}
use Rattle.plasma_tx.specs.declared.links.Links.{Links}
use Rattle.coin_history.specs.declared.refusal.HistoryRefusal.{HistoryRefusal}
use Rattle.node_rules.specs.declared.refusal.WatcherRefusal.{WatcherRefusal}
use Rattle.node_rules.specs.Kept.{links_handed}

-- a refusal adds no record where the answer that is taken is none
unless-refused : {A E : Type 0} (cause : Option E) (effect : Effect (Result A E)) (answer : A) (why : E)
    → effect.answer ≡ Ok answer → Err why ≡ (unless cause effect).answer → (unless cause effect).note ≡ None
unless-refused None effect answer why taken refused = absurd (cc (taken, refused))
unless-refused (Some cause) effect answer why taken refused = refl

pub guard-refused : (dig : List ℕ → List ℕ) (notes : List (List ℕ)) (log : List RootCall) (bytes : List ℕ)
    (why : WatcherRefusal) → Err why ≡ (guard_effect dig notes log bytes).answer
    → (guard_effect dig notes log bytes).note ≡ None
unfolding guard_effect
guard-refused dig notes log bytes why = at (links_handed dig (who_is notes).tag log bytes)
  where
    at : (handed : Result Links HistoryRefusal) → Err why ≡ (guard_by log (guards_in dig notes) handed).answer
        → (guard_by log (guards_in dig notes) handed).note ≡ None
    at (Err refused) is = refl
    at (Ok links) is =
        unless-refused (first_cause (guard_causes log links)) (guard_taken (guards_in dig notes) links) _ why refl is

pub release-refused : (dig : List ℕ → List ℕ) (notes : List (List ℕ)) (coin tip : ℕ) (why : WatcherRefusal)
    → Err why ≡ (release_effect dig notes coin tip).answer → (release_effect dig notes coin tip).note ≡ None
unfolding release_effect
release-refused dig notes coin tip why = at (list_any (is_of coin tip) (guards_in dig notes))
  where
    at : (there : Bool)
        → Err why ≡ (if there then record { answer = Ok tt; note = Some (note_text (Released coin tip)) }
        else only {A = Result Unit WatcherRefusal} (Err WatcherRefusal.NoGuard)).answer
        → (if there then record { answer = Ok tt; note = Some (note_text (Released coin tip)) }
        else only {A = Result Unit WatcherRefusal} (Err WatcherRefusal.NoGuard)).note ≡ None
    at true is = absurd (cc is)
    at false is = refl
