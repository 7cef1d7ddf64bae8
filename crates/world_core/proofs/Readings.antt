-- What verdicts and the exhibit are read of is what a run left.
use Rattle.world_core.proofs.Words.{◌≡◌, ℕ, List, [], ◌∷◌, map, Option, Some, None, refl, sym, ap, ◌∙◌, subst, option_map, Result, Vec, IfOk, flat_map, option_map_or, some_same, Tests, Rules, tests_by, rules_of, IsLegal, Line, Verdict, World, Event, log_of, TraceEntry, Run, run_of, events_of, verdicts_on, wallets_from, verdicts_in, verdicts_of, exhibit_of_run, run-kept, logs_are_of_events, named_of, TraceState, no_trace, Tells, SceneState, world_of, RunningState, world_in, TellsIn, wallets_in, IsAfter}
use Rattle.std.specs.Global.{Global}
use Rattle.std.proofs.lemmas.Result.{IfOk-weaker}
use Rattle.world_rules.specs.declared.verdict.Exhibit.{Exhibit}
use Rattle.world_rules.specs.Exhibits.{exhibit_of}
use Rattle.world_rules.proofs.HeldTips.{OwnersStay as Stay}
use Rattle.coin_verdicts.specs.Facts.{OwnersStay}
use Rattle.world_trace.proofs.Telling.{nothing_shown}
use Rattle.world_core.proofs.RunFacts.{legal_events, tells_none}

-- rules of no contract
abbrev no-rules : Rules
no-rules = record { tag = []; operator = 0; most_blocks = 0 }

no-legal : IsLegal no-rules (log_of [])
unfolding IsLegal log_of
no-legal = tt

owners-stay : (events : List Event) → Stay events → OwnersStay events
owners-stay [] are = are
owners-stay (event ∷ events) are = (are.0, owners-stay events are.1)

module _ {H : Type 0} (dig : List ℕ → List ℕ) (lines : List Line) (state : RunningState H)
    (after : IsAfter dig lines state) (run : Run) (ran : run_of dig lines ≡ Some run) where
  pub same-run : after.run ≡ run
  same-run = some_same after.run run (sym after.ran ∙ ran)

  world-is : run.world ≡ world_in state
  world-is = ap (λ (r : Run). r.world) (sym same-run) ∙ after.world

  -- ---- before the first line

  module _ (none : state.scene ≡ None) where
    no-world : run.world ≡ None
    no-world = world-is ∙ ap (option_map world_of) none

    -- no line was answered, and nothing is kept
    pub no_entries : (run.entries ≡ []) × (state.trace ≡ no_trace)
    unfolding events_of
    no_entries =
        let both = subst (λ (w : Option World). TellsIn dig w (events_of run.entries) state.trace) no-world
        (subst (λ (r : Run). TellsIn dig r.world (events_of r.entries) state.trace) same-run after.trace) in
        (none-of run.entries both.0, both.1)
      where
        none-of : (entries : List TraceEntry) → events_of entries ≡ [] → entries ≡ []
        none-of [] is = refl
        none-of (entry ∷ entries) is = absurd (cc is)

    pub no_verdicts : [] ≡ verdicts_of dig run
    unfolding verdicts_of
    no_verdicts =
        sym (ap (λ (w : Option World). option_map_or (λ world. verdicts_in dig world (events_of run.entries)) w [])
        no-world)

    -- no events are those of any contract
    pub tells-none : (rules : Rules) → Tells dig (tests_by dig) rules [] state.trace
    tells-none rules =
        subst (Tells dig (tests_by dig) rules []) (sym no_entries.1) (tells_none dig (tests_by dig) rules)

    pub no-names : map named_of state.trace.wallets ≡ []
    no-names = ap (λ (t : TraceState). map named_of t.wallets) no_entries.1

    pub no_exhibit : Exhibit.Nothing ≡ exhibit_of_run dig run
    unfolding exhibit_of_run
    no_exhibit =
        sym (ap (λ (w : Option World).
        option_map_or (λ world. exhibit_of dig world.chain.tag (events_of run.entries)) w Exhibit.Nothing) no-world)

  -- ---- once the chain has begun

  module _ (scene : SceneState H) (some : state.scene ≡ Some scene) where
    begun : run.world ≡ Some (world_of scene)
    begun = world-is ∙ ap (option_map world_of) some

    pub tells : Tells dig (tests_by dig) (rules_of scene.chain) (events_of run.entries) state.trace
    tells =
        subst (λ (w : Option World). TellsIn dig w (events_of run.entries) state.trace) begun
        (subst (λ (r : Run). TellsIn dig r.world (events_of r.entries) state.trace) same-run after.trace)

    pub log_is : scene.chain.log ≡ log_of (events_of run.entries)
    log_is = logs_are_of_events dig lines run (world_of scene) ran begun

    pub legal : IsLegal (rules_of scene.chain) (log_of (events_of run.entries))
    legal = legal_events dig lines run (world_of scene) ran begun

    pub stay : OwnersStay (events_of run.entries)
    stay = owners-stay (events_of run.entries) ((run-kept dig lines run ran).kept (world_of scene) begun).stay

    names-are : map named_of state.trace.wallets ≡ wallets_from 0 (world_of scene).nodes
    names-are =
        subst (λ (w : Option World). map named_of state.trace.wallets ≡ wallets_in w) begun
        (subst (λ (r : Run). map named_of state.trace.wallets ≡ wallets_in r.world) same-run after.named)

    pub verdicts_are
        : flat_map (verdicts_on (tests_by dig) (rules_of scene.chain) (events_of run.entries))
        (map named_of state.trace.wallets) ≡ verdicts_of dig run
    unfolding verdicts_of verdicts_in
    verdicts_are =
        ap (flat_map (verdicts_on (tests_by dig) (rules_of scene.chain) (events_of run.entries))) names-are
        ∙ sym (ap (λ (w : Option World). option_map_or (λ world. verdicts_in dig world (events_of run.entries)) w [])
        begun)

    pub exhibit_is : exhibit_of dig scene.chain.tag (events_of run.entries) ≡ exhibit_of_run dig run
    unfolding exhibit_of_run
    exhibit_is =
        sym (ap (λ (w : Option World).
        option_map_or (λ world. exhibit_of dig world.chain.tag (events_of run.entries)) w Exhibit.Nothing) begun)

  -- ---- what is read of the trace

  module _ (trace : TraceState) {E : Type 0} where
    -- whether the chain has begun or not
    pub reads-verdicts : (found : Result (Vec Verdict Global) E) → state.trace ≡ trace
        → ((d : List ℕ → List ℕ) (tests : Tests) (rules : Rules) (events : List Event)
        → Tells d tests rules events trace → IsLegal rules (log_of events) → OwnersStay events
        → IfOk found (λ verdicts. verdicts.items ≡ flat_map (verdicts_on tests rules events)
        (map named_of trace.wallets)))
        → IfOk found (λ verdicts. verdicts.items ≡ verdicts_of dig run)
    reads-verdicts found same told = by state.scene refl
      where
        by : (scene : Option (SceneState H)) → state.scene ≡ scene
            → IfOk found (λ verdicts. verdicts.items ≡ verdicts_of dig run)
        by None none = IfOk-weaker found _ (λ verdicts. verdicts.items ≡ verdicts_of dig run)
            (λ verdicts is. is
            ∙ ap (flat_map (verdicts_on (tests_by dig) no-rules []))
            (ap (λ (t : TraceState). map named_of t.wallets) (sym same) ∙ no-names none)
            ∙ no_verdicts none)
            (told dig (tests_by dig) no-rules []
            (subst (Tells dig (tests_by dig) no-rules []) same (tells-none none no-rules)) no-legal tt)
        by (Some scene) some = IfOk-weaker found _ (λ verdicts. verdicts.items ≡ verdicts_of dig run)
            (λ verdicts is. is
            ∙ ap (λ (t : TraceState). flat_map (verdicts_on (tests_by dig) (rules_of scene.chain)
            (events_of run.entries)) (map named_of t.wallets)) (sym same)
            ∙ verdicts_are scene some)
            (told dig (tests_by dig) (rules_of scene.chain) (events_of run.entries)
            (subst (Tells dig (tests_by dig) (rules_of scene.chain) (events_of run.entries)) same
            (tells scene some)) (legal scene some) (stay scene some))

    pub reads-exhibit : (found : Result Exhibit E) → state.trace ≡ trace
        → ((d : List ℕ → List ℕ) (tests : Tests) (rules : Rules) (events : List Event)
        → Tells d tests rules events trace → IfOk found (λ exhibit. exhibit ≡ exhibit_of d rules.tag events))
        → IfOk found (λ exhibit. exhibit ≡ exhibit_of_run dig run)
    reads-exhibit found same told = by state.scene refl
      where
        by : (scene : Option (SceneState H)) → state.scene ≡ scene
            → IfOk found (λ exhibit. exhibit ≡ exhibit_of_run dig run)
        by None none = IfOk-weaker found _ (λ exhibit. exhibit ≡ exhibit_of_run dig run)
            (λ exhibit is. is ∙ sym (nothing_shown dig [] [] refl) ∙ no_exhibit none)
            (told dig (tests_by dig) no-rules []
            (subst (Tells dig (tests_by dig) no-rules []) same (tells-none none no-rules)))
        by (Some scene) some = IfOk-weaker found _ (λ exhibit. exhibit ≡ exhibit_of_run dig run)
            (λ exhibit is. is ∙ exhibit_is scene some)
            (told dig (tests_by dig) (rules_of scene.chain) (events_of run.entries)
            (subst (Tells dig (tests_by dig) (rules_of scene.chain) (events_of run.entries)) same
            (tells scene some)))
