-- What a call that was entered shows, and its event.
use Rattle.world_scene.proofs.Words.{◌≡◌, refl, sym, ap, ◌∙◌, subst, false, if◌then◌else◌, List, [], ◌∷◌, ◌++◌, reverse, ℕ, Option, Some, None, reverse-append, RootCall, Chain, with_log, tests_by, rules_of, World, Joins, Bounces, Reply, called, reply_to, IsEvent, event_of_call, SceneState, Shown, world_of, shown_of, TellsEffect}
use Rattle.plasma_tx.specs.declared.answer.Answer.{Answer}
use Rattle.plasma_tx.specs.Table.{answer_to, log_after, is_accepted}
use Rattle.coin_verdicts.specs.declared.fact.Fact.{Fact}
use Rattle.world_trace.specs.Asked.{IsTold}

-- it is told by what its answer says of it
pub call_tells : (dig : List ℕ → List ℕ) (world : World) (call : RootCall) (answer : Answer) (told : Option Fact)
    → answer ≡ answer_to (tests_by dig) (rules_of world.chain) world.chain.log call
    → IsTold (tests_by dig) (rules_of world.chain) world.chain.log call answer told
    → TellsEffect dig world (event_of_call told) (called dig world call)
call_tells dig world call answer None is told =
    subst (λ b. IsEvent (tests_by dig) (rules_of world.chain) world.chain.log (if b then Joins call else Bounces call)
    (event_of_call None)) (sym told ∙ ap is_accepted is) refl
call_tells dig world call answer (Some fact) is told =
    subst (λ b. IsEvent (tests_by dig) (rules_of world.chain) world.chain.log (if b then Joins call else Bounces call)
    (event_of_call (Some fact))) (sym told.0 ∙ ap is_accepted is) told.1

-- what is shown, by its parts
abbrev shown_as : Reply → World → Shown
shown_as reply world = record { done = false; reply = reply; made = []; world = world }

-- it shows its reply, in the world with the contract after it
pub call_shows : {H : Type 0} (dig : List ℕ → List ℕ) (scene : SceneState H) (call : RootCall) (answer : Answer)
    (reply : Reply) (chain : Chain)
    → answer ≡ answer_to (tests_by dig) (rules_of scene.chain) scene.chain.log call → reply ≡ reply_to answer
    → chain ≡ with_log scene.chain (log_after (tests_by dig) (rules_of scene.chain) scene.chain.log call)
    → shown_of (called dig (world_of scene) call) ≡ shown_as reply (world_of (record scene { chain = chain }))
call_shows dig scene call answer reply chain is replied left =
    ap (λ r. shown_as r (called dig (world_of scene) call).world) (sym (replied ∙ ap reply_to is))
    ∙ ap (λ c. shown_as reply (world_of (record scene { chain = c }))) (sym left)

-- ---- the account of a raw call

-- an account that is put last is the newest
pub newest_first : (accounts earlier : List ℕ) (account : ℕ) → accounts ≡ earlier ++ account ∷ []
    → reverse accounts ≡ account ∷ reverse earlier
newest_first accounts earlier account is = ap reverse is ∙ reverse-append earlier (account ∷ [])

-- the world with the account of a raw call
abbrev pub with_caller : {H : Type 0} → ℕ → SceneState H → SceneState H
with_caller account scene = record scene { raw_callers = account ∷ scene.raw_callers }
