-- The promises of every schedule, from those of legal events: the events of a run are legal, and so are those up to
-- each line.
use Rattle.world_laws.proofs.Basics.{◌≡◌, ◌⊎◌, inl, inr, ◌≤◌, ℕ, ◌+◌, ◌||◌, true, false, if◌then◌else◌, List, [], ◌∷◌, ◌++◌, is_some, Contains, refl, sym, ap, ◌∙◌, subst, arith, rules, ◌≢◌, list_any, le_refl, or_parts, ne_eqb, eq-eqb, option_map_or, common_steps}
use Rattle.world_laws.proofs.CoinWords.{RootCall, coins, Tests, Rules, tests_by, rules_of, answer_to, is_accepted}
use Rattle.world_laws.proofs.WorldWords.{Line, Event, Joins, Watches, log_of, wallet_owner, is_command_of, World, Run, events_of, is_joined, IsRun, HeldCoinsAreSafe, OneWalletHolds, lacks_bond, DueCallsAreTaken, HarmsAreTakings, LostIsExhibited, StartsAreTaken, IsTaken, was_declared_before, fresh_offers, LookedAfterCoinsAreSafe, LookingOftenIsEnough, is_taken_kind, WentUnseen, TakenCoinsWentUnseen, IsLegal, logs_are_of_events, Exhibit, exhibit_of, exhibit_of_run, IsOfHeld, verdicts_are_of_held_coins}
use Rattle.world_laws.proofs.Often.{often_looked_after}
use Rattle.world_laws.proofs.Attended.{attended_are_looked_after}
use Rattle.world_laws.proofs.CoinEvents.{runs-legal}
use Rattle.world_laws.proofs.Safe.{legal_coins_are_safe}
use Rattle.world_laws.proofs.OneHolder.{one_wallet_holds}
use Rattle.world_laws.proofs.Starts.{starts_are_taken}
use Rattle.world_laws.proofs.Taken.{lost_is_exhibited, taken_unseen}
use Rattle.world_laws.proofs.Takings.{legal-takings}
use Rattle.world_laws.proofs.DueTaken.{due_calls_are_taken}

-- the earlier of legal events are legal
pub suffix-legal : (tests : Tests) (rules : Rules) (later events : List Event) → IsLegal tests rules (later ++ events)
    → IsLegal tests rules events
unfolding IsLegal
suffix-legal tests rules [] events legal = legal
suffix-legal tests rules (event ∷ later) events legal = suffix-legal tests rules later events legal.1

-- a log has as many coins as deposits, so an earlier deposit isn't of a later number
coins-up : (event : Event) (events : List Event) → coins (log_of events) ≤ coins (log_of (event ∷ events))
unfolding log_of coins
coins-up (Joins (RootCall.Deposit account amount key)) events = omega arith
coins-up event events = le_refl (coins (log_of events))

coins-later : (later : List Event) (account amount : ℕ) (key : List ℕ) (earlier : List Event)
    → coins (log_of earlier) + 1 ≤ coins (log_of (later ++ Joins (RootCall.Deposit account amount key) ∷ earlier))
unfolding log_of coins
coins-later [] account amount key earlier = le_refl (coins (log_of earlier) + 1)
coins-later (event ∷ later) account amount key earlier =
    let more = coins-later later account amount key earlier in
    let up = coins-up event (later ++ Joins (RootCall.Deposit account amount key) ∷ earlier) in
    omega (arith, more, up)

-- the wallets were declared before the deposit
declared-before : (later : List Event) (account amount : ℕ) (key : List ℕ) (earlier : List Event) (w c : ℕ)
    → c ≡ coins (log_of earlier) + 1 → is_some (wallet_owner earlier w) ≡ true
    → was_declared_before (later ++ Joins (RootCall.Deposit account amount key) ∷ earlier) w c ≡ true
unfolding was_declared_before
declared-before [] account amount key earlier w c coin some =
    ap (λ b. if b then is_some (wallet_owner earlier w) else was_declared_before earlier w c)
    (eq-eqb c (coins (log_of earlier) + 1) coin) ∙ some
declared-before (Joins (RootCall.Deposit other much its) ∷ later) account amount key earlier w c coin some =
    grind (arith, common_steps, declared-before later account amount key earlier w c coin some, coins-later, ne_eqb)
declared-before (event ∷ later) account amount key earlier w c coin some =
    declared-before later account amount key earlier w c coin some

-- the calls of a fresh watch
fresh-watch : (later : List Event) (n : ℕ) (calls : List RootCall) (earlier : List Event)
    → list_any (λ event. is_command_of n event || is_joined event) later ≡ false
    → fresh_offers (later ++ Watches n calls ∷ earlier) n ≡ calls
unfolding fresh_offers
fresh-watch [] n calls earlier since =
    ap (λ b. if b then calls else (if false then [] else fresh_offers earlier n)) (eq-eqb n n refl)
fresh-watch (event ∷ later) n calls earlier since =
    let parts = or_parts (is_command_of n event || is_joined event)
    (list_any (λ event. is_command_of n event || is_joined event) later) since in
    grind (arith, common_steps, fresh-watch later n calls earlier parts.1, or_parts)

-- the events up to a line of a run are legal
pub legal-to : (dig : List ℕ → List ℕ) (lines : List Line) (run : Run) (world : World) (later events : List Event)
    → IsRun dig lines run world → events_of run.entries ≡ later ++ events
    → IsLegal (tests_by dig) (rules_of world.chain) events
legal-to dig lines run world later events is split =
    suffix-legal (tests_by dig) (rules_of world.chain) later events
    (subst (IsLegal (tests_by dig) (rules_of world.chain)) split (runs-legal dig lines run world is))

pub looked_after_are_safe : LookedAfterCoinsAreSafe
looked_after_are_safe dig lines run world later events event w c e is split looked whole honest =
    legal_coins_are_safe dig (rules_of world.chain) event events w c e is.digest
    (legal-to dig lines run world later (event ∷ events) is split)
    looked whole honest

pub held_coins_are_safe : HeldCoinsAreSafe
held_coins_are_safe dig lines run world later events event w c e is split attended =
    looked_after_are_safe dig lines run world later events event w c e is split
    (attended_are_looked_after events w c e attended)

pub often_is_enough : LookingOftenIsEnough
often_is_enough dig lines run world later events w c e is split often =
    often_looked_after (tests_by dig) (rules_of world.chain) events w c e
    (legal-to dig lines run world later events is split) often

pub one_holds : OneWalletHolds
one_holds dig lines run world v w c d e is apart before whole honest other held also =
    one_wallet_holds dig (rules_of world.chain) (events_of run.entries) v w c d e is.digest
    (runs-legal dig lines run world is) apart (declared v before.one) (declared w before.other) whole honest other held
    also
  where
    declared : (u : ℕ) → is_some (wallet_owner before.earlier u) ≡ true
        → was_declared_before (events_of run.entries) u c ≡ true
    declared u some = ap (λ events. was_declared_before events u c) before.events_are
        ∙ declared-before before.later before.account before.amount before.key before.earlier u c before.coin some

pub due_are_taken : DueCallsAreTaken
due_are_taken dig lines run world n calls call is fresh has whole rich =
    let log = logs_are_of_events dig lines run world is.run_is is.world_is in
    let offers : fresh_offers (events_of run.entries) n ≡ calls =
    grind (arith, common_steps, fresh-watch) in
    ap (λ l. is_accepted (answer_to (tests_by dig) (rules_of world.chain) l call)) log
    ∙ due_calls_are_taken dig (rules_of world.chain) (events_of run.entries) n call is.digest
    (runs-legal dig lines run world is) (subst (λ cs. Contains cs call) (sym offers) has) whole
    (ap (λ l. lacks_bond l call) (sym log) ∙ rich)

pub harms_are_takings : HarmsAreTakings
unfolding IsLegal
harms_are_takings dig lines run world later events event me w c e is split owner held =
    legal-takings (tests_by dig) (rules_of world.chain) events event me w c e
    (legal-to dig lines run world later (event ∷ events) is split).0
    owner held

pub lost_is_shown : LostIsExhibited
unfolding exhibit_of_run
lost_is_shown dig lines run world verdict is has lost nothing =
    let held = verdicts_are_of_held_coins dig lines run world verdict is.run_is is.world_is has in
    grind (arith, common_steps, lost_is_exhibited, runs-legal)

pub taken_went_unseen : TakenCoinsWentUnseen
unfolding exhibit_of_run
taken_went_unseen dig lines run world verdict is has taken =
    let held = verdicts_are_of_held_coins dig lines run world verdict is.run_is is.world_is has in
    let shown = ap (λ w. option_map_or (λ world. exhibit_of dig world.chain.tag (events_of run.entries)) w
    Exhibit.Nothing) is.world_is in
    by_exhibit (exhibit_of dig world.chain.tag (events_of run.entries)) refl held shown
  where
    by_exhibit : (exhibit : Exhibit) → exhibit_of dig world.chain.tag (events_of run.entries) ≡ exhibit
        → IsOfHeld dig run world verdict
        → exhibit_of_run dig run ≡ exhibit_of dig world.chain.tag (events_of run.entries)
        → WentUnseen dig run world verdict ⊎ (exhibit_of_run dig run ≢ Exhibit.Nothing)
    by_exhibit Exhibit.Nothing nothing held shown =
        let u = taken_unseen dig (rules_of world.chain) (events_of run.entries) held.number verdict.coin held.tip
        held.owner is.digest (runs-legal dig lines run world is) held.is_owner nothing
        (ap is_taken_kind (sym held.kind) ∙ taken) in
        inl (record {
          held = held;
          later = u.later;
          event = u.event;
          earlier = u.earlier;
          events_are = u.events_are;
          unseen = u.unseen;
        })
    by_exhibit (Exhibit.Collision one other) some held shown = inr (λ none. cc)
    by_exhibit (Exhibit.Forgery line) some held shown = inr (λ none. cc)

pub starts_taken : StartsAreTaken
starts_taken dig lines run world w account call is offer start held =
    let log = logs_are_of_events dig lines run world is.run_is is.world_is in
    subst (λ l. IsTaken l account call (answer_to (tests_by dig) (rules_of world.chain) l call)) (sym log)
    (starts_are_taken dig (rules_of world.chain) (events_of run.entries) w account call
    (runs-legal dig lines run world is) offer start held)
