-- A world that took a line is what the lines with it leave.
use Rattle.world_core.proofs.Words.{◌≡◌, ℕ, ◌+◌, ◌^◌, ◌<◌, ◌≤◌, Bool, true, false, nat_lt, if◌then◌else◌, List, [], ◌∷◌, ◌++◌, map, length, Option, Some, None, refl, sym, ap, ◌∙◌, subst, arith, option_map, option_and_then, All, count_by, lt-ltb, le-ltb, map-append, All-nil, All-cons, option_map_some, some_same, Tests, Rules, tests_by, rules_of, Line, IsLine, World, keeps_rules, Event, log_of, LineEffect, effect_in, effect_of, with_mail, step, mail_size, is_mail_full, TraceEntry, entry_of, Run, no_lines, with_line, step_run, run_of, events_of, is_refused, wallets_from, named_of, logs_are_of_events, LineEvent, IsEvent, declared_by, TraceState, no_trace, Tells, LineAnswer, SceneState, shown_of, world_of, answered, TellsEffect, RunningState, before_all, world_in, TellsIn, wallets_in, MadeBytes, IsAfter, name_in, IsStep, WouldFill, TellsLine, Takes, scene_with, with_item, with_answer}
use Rattle.plasma_tx.specs.Spelling.{AreBytes}
use Rattle.world_rules.specs.declared.TheConstants.{MOST_MAIL}
use Rattle.world_rules.specs.declared.trace.TraceLine.{TraceLine}
use Rattle.world_core.proofs.WalletLines.{has_wallets}
use Rattle.world_core.proofs.NameLines.{line_named}
use Rattle.world_core.proofs.Counts.{refused_more}
use Rattle.world_core.proofs.RunFacts.{rules_stay, made_in, size_of_run, size_more, facts_count, tells_none}

-- ---- no lines

-- what no lines leave
pub after_none : {H : Type 0} (dig : List ℕ → List ℕ) (hash : H) → IsAfter dig [] (before_all hash)
unfolding run_of events_of
after_none dig hash = record {
  run = no_lines;
  ran = refl;
  world = refl;
  grammar = All-nil IsLine;
  made = All-nil MadeBytes;
  hash = λ scene wrong. absurd (cc wrong);
  mail = refl;
  fits = omega arith;
  trace = (refl, refl);
  named = refl;
  refused = refl;
}

-- ---- refused lines

-- a line that breaks the rules has no run
pub no_run : (dig : List ℕ → List ℕ) (lines : List Line) (run : Run) (line : Line) → run_of dig lines ≡ Some run
    → keeps_rules run.world line ≡ false → run_of dig (line ∷ lines) ≡ None
unfolding run_of step
no_run dig lines run line ran breaks =
    ap (option_and_then (step_run dig line)) ran
    ∙ ap (λ (b : Bool). option_map (with_line run line)
    (if b then option_map with_mail (effect_of dig run.world line) else None)) breaks

-- ---- the event of a line

-- what is told of a line, in a world that lines left
record IsTold (dig : List ℕ → List ℕ) (run : Run) (effect : LineEffect) (event : LineEvent) (trace : TraceState)
    : Type 0 where
  tells : Tells dig (tests_by dig) (rules_of effect.world.chain) (events_of run.entries) trace
  is : IsEvent (tests_by dig) (rules_of effect.world.chain) (log_of (events_of run.entries)) effect.event event

first-told : (dig : List ℕ → List ℕ) (line : Line) (run : Run) (effect : LineEffect) (event : LineEvent)
    (trace : TraceState) → effect_of dig None line ≡ Some effect → event ≡ LineEvent.Idle
    → events_of run.entries ≡ [] → trace ≡ no_trace → IsTold dig run effect event trace
unfolding effect_of
first-told dig (Line.Chain tag operator most) run effect event trace is idle none empty = record {
  tells =
      subst (λ (t : TraceState). Tells dig (tests_by dig) (rules_of effect.world.chain) (events_of run.entries) t)
      (sym empty)
      (subst (λ (es : List Event). Tells dig (tests_by dig) (rules_of effect.world.chain) es no_trace) (sym none)
      (tells_none dig (tests_by dig) (rules_of effect.world.chain)));
  is =
      subst (λ (e : LineEffect). IsEvent (tests_by dig) (rules_of e.world.chain) (log_of (events_of run.entries))
      e.event event) (some_same _ effect is) idle;
}
first-told dig line run effect event trace is idle none empty = absurd (cc is)

next-told : (dig : List ℕ → List ℕ) (lines : List Line) (run : Run) (world : World) (line : Line)
    (effect : LineEffect) (event : LineEvent) (trace : TraceState)
    → run_of dig lines ≡ Some run → run.world ≡ Some world → All IsLine lines → All MadeBytes run.entries
    → effect_of dig (Some world) line ≡ Some effect → keeps_rules (Some world) line ≡ true
    → TellsLine dig (Some world) line event
    → Tells dig (tests_by dig) (rules_of world.chain) (events_of run.entries) trace → IsTold dig run effect event trace
unfolding effect_of step
next-told dig lines run world line effect event trace ran world_is fits made is keeps told tells =
    let stepped : step dig (Some world) line ≡ Some (with_mail effect) =
    ap (λ (b : Bool). if b then option_map with_mail (effect_in dig world line) else None) keeps
    ∙ ap (option_map with_mail) is in
    let rules : rules_of effect.world.chain ≡ rules_of world.chain =
    rules_stay dig world line (with_mail effect) stepped in
    let event_is : TellsEffect dig world event effect =
    told (has_wallets dig lines run world fits made ran world_is) effect is in
    record {
      tells =
          subst (λ (r : Rules). Tells dig (tests_by dig) r (events_of run.entries) trace) (sym rules) tells;
      is =
          subst (λ (r : Rules). IsEvent (tests_by dig) r (log_of (events_of run.entries)) effect.event event)
          (sym rules)
          (subst (λ log. IsEvent (tests_by dig) (rules_of world.chain) log effect.event event)
          (logs_are_of_events dig lines run world ran world_is) event_is);
    }

-- ---- one more line

-- an answer with the event and the world of its line
abbrev pub effect_as : LineAnswer → Event → World → LineEffect
effect_as answer event world =
    record { done = answer.done; reply = answer.reply; made = answer.made; event = event; world = world }

-- an answer as a line of the trace
abbrev pub told_as : ℕ → LineAnswer → TraceLine
told_as number answer =
    record { line = number; done = answer.done; answer = answer.reply; made = answer.made }

module _ {H : Type 0} (dig : List ℕ → List ℕ) (lines : List Line) (line : Line) (old : RunningState H)
    (after : IsAfter dig lines old) (answer : LineAnswer) (taken : RunningState H)
    (takes : Takes dig old line answer taken) where
  -- the world that the line left
  abbrev pub left : World
  left = world_of takes.scene

  -- its effect
  pub effect-is : (event : Event) × (effect_of dig (world_in old) line ≡ Some (effect_as answer event left))
  effect-is =
      let found = option_map_some shown_of (effect_of dig (world_in old) line) (answered answer left) takes.shows in
      let same : found.0 ≡ effect_as answer found.0.event left =
      λ i. effect_as
      (record { done = (found.2 i).done; reply = (found.2 i).reply; made = (found.2 i).made; event = answer.event })
      found.0.event (found.2 i).world in
      (found.0.event, found.1 ∙ ap (λ (e : LineEffect). Some e) same)

  abbrev pub effect : LineEffect
  effect = effect_as answer effect-is.0 left

  -- the run with it
  abbrev pub longer : Run
  longer = with_line after.run line (with_mail effect)

  ran : run_of dig (line ∷ lines) ≡ Some longer
  unfolding run_of step
  ran =
      ap (option_and_then (step_run dig line)) after.ran
      ∙ ap (λ (w : Option World). option_map (with_line after.run line) (step dig w line)) after.world
      ∙ ap (λ (b : Bool). option_map (with_line after.run line)
      (if b then option_map with_mail (effect_of dig (world_in old) line) else None)) takes.keeps
      ∙ ap (λ (e : Option LineEffect). option_map (with_line after.run line) (option_map with_mail e)) effect-is.1

  -- no line stands before the first
  none-before : after.run.world ≡ None → after.run.entries ≡ []
  unfolding events_of
  none-before none = by after.run.entries (subst (λ (w : Option World). TellsIn dig w
      (events_of after.run.entries) old.trace) none after.trace).0
    where
      by : (entries : List TraceEntry) → events_of entries ≡ [] → entries ≡ []
      by [] is = refl
      by (entry ∷ entries) is = absurd (cc is)

  -- its mail
  size : mail_size (world_of (scene_with answer.made takes.scene)) ≡ old.mail_size + length answer.made
  size =
      size_of_run dig (line ∷ lines) longer ran (λ wrong. absurd (cc wrong))
      ∙ size_more answer.made (made_in after.run.entries)
      ∙ ap (λ (n : ℕ). n + length answer.made)
      (sym (after.mail ∙ size_of_run dig lines after.run after.ran none-before))

  -- what is told of it
  told-in : (w : Option World) → world_in old ≡ w → IsTold dig after.run effect answer.event old.trace
  told-in None none =
      let trace = subst (λ (w : Option World). TellsIn dig w (events_of after.run.entries) old.trace)
      (after.world ∙ none) after.trace in
      first-told dig line after.run effect answer.event old.trace
      (subst (λ (w : Option World). effect_of dig w line ≡ Some effect) none effect-is.1)
      (subst (λ (w : Option World). TellsLine dig w line answer.event) none takes.tells) trace.0 trace.1
  told-in (Some world) some =
      next-told dig lines after.run world line effect answer.event old.trace after.ran (after.world ∙ some)
      after.grammar after.made
      (subst (λ (w : Option World). effect_of dig w line ≡ Some effect) some effect-is.1)
      (subst (λ (w : Option World). keeps_rules w line ≡ true) some takes.keeps)
      (subst (λ (w : Option World). TellsLine dig w line answer.event) some takes.tells)
      (subst (λ (w : Option World). TellsIn dig w (events_of after.run.entries) old.trace) (after.world ∙ some)
      after.trace)

  told : IsTold dig after.run effect answer.event old.trace
  told = told-in (world_in old) refl

  -- where there is no room for its mail item
  would-fill : MOST_MAIL < old.mail_size + length answer.made → WouldFill dig lines line
  unfolding is_mail_full
  would-fill full =
      (longer, ran, ap (nat_lt MOST_MAIL) size ∙ lt-ltb MOST_MAIL (old.mail_size + length answer.made) full)

  -- how many lines are kept with it
  lines-kept : (trace : TraceState)
      → Tells dig (tests_by dig) (rules_of left.chain) (effect-is.0 ∷ events_of after.run.entries) trace
      → length trace.facts ≡ length after.run.entries + 1
  unfolding events_of
  lines-kept trace tells =
      facts_count dig (tests_by dig) (rules_of left.chain) longer.entries trace tells ∙ omega arith

  -- the calls that are kept with it
  calls-kept : left.chain.log ≡ log_of (effect-is.0 ∷ events_of after.run.entries)
  unfolding events_of
  calls-kept = logs_are_of_events dig (line ∷ lines) longer (world_of (scene_with answer.made takes.scene)) ran refl

  -- the wallets with it
  wallets-kept : (trace : TraceState) → trace.wallets ≡ old.trace.wallets ++ declared_by (name_in line) answer.event
      → map named_of trace.wallets ≡ wallets_from 0 left.nodes
  wallets-kept trace named =
      ap (map named_of) named
      ∙ map-append named_of old.trace.wallets (declared_by (name_in line) answer.event)
      ∙ ap (λ before. before ++ map named_of (declared_by (name_in line) answer.event))
      (after.named ∙ ap wallets_in after.world)
      ∙ sym (line_named dig (world_in old) line effect (tests_by dig) (rules_of left.chain)
      (log_of (events_of after.run.entries)) answer.event effect-is.1 takes.keeps told.is)

  module _ (fits_line : IsLine line) (made : AreBytes answer.made)
      (fits : old.mail_size + length answer.made ≤ MOST_MAIL) (trace : TraceState)
      (named : trace.wallets ≡ old.trace.wallets ++ declared_by (name_in line) answer.event)
      (tells : Tells dig (tests_by dig) (rules_of left.chain) (effect-is.0 ∷ events_of after.run.entries) trace)
      (refused : ℕ) (refused_is : refused ≡ count_by is_refused longer.entries) where
    -- the world with its mail item, and what is kept of it
    abbrev pub new : RunningState H
    new = record {
      hash = old.hash;
      scene = Some (scene_with answer.made takes.scene);
      mail_size = old.mail_size + length answer.made;
      trace = trace;
      refused = refused;
    }

    is-after : IsAfter dig (line ∷ lines) new
    unfolding events_of
    is-after = record {
      run = longer;
      ran = ran;
      world = refl;
      grammar = All-cons IsLine line lines fits_line after.grammar;
      made = All-cons MadeBytes (entry_of line effect) after.run.entries made after.made;
      hash = λ scene is.
          subst (λ (s : SceneState H). s.hash ≡ old.hash) (some_same (scene_with answer.made takes.scene) scene is)
          takes.hash;
      mail = sym size;
      fits = fits;
      trace = tells;
      named = wallets-kept trace named;
      refused = refused_is;
    }

    -- the answer of its line
    is-step : IsStep dig lines line (told_as (length trace.facts) answer) new
    unfolding events_of is_mail_full is-after
    is-step = record {
      after = is-after;
      entry = entry_of line effect;
      earlier = after.run.entries;
      entries = refl;
      is = ap (λ (n : ℕ). told_as n answer) (lines-kept trace tells);
      fits = ap (nat_lt MOST_MAIL) size ∙ le-ltb MOST_MAIL (old.mail_size + length answer.made) fits;
    }

  -- the world with the item put, and the line kept
  module _ (fits_line : IsLine line) (made : AreBytes answer.made) (item : List ℕ) (item_is : item ≡ answer.made)
      (put : RunningState H) (put_is : put ≡ with_item taken item) (fits : taken.mail_size + length item ≤ MOST_MAIL)
      (trace : TraceState)
      (more : (scene : SceneState H) → put.scene ≡ Some scene
      → (tests : Tests) (rules : Rules) (events : List Event) (event : Event) → Tells dig tests rules events put.trace
      → IsEvent tests rules (log_of events) event answer.event → scene.chain.log ≡ log_of (event ∷ events)
      → scene.chain.tag ≡ rules.tag → Tells dig tests rules (event ∷ events) trace)
      (names : (scene : SceneState H) → put.scene ≡ Some scene
      → trace.wallets ≡ put.trace.wallets ++ declared_by (name_in line) answer.event)
      (few_lines : length trace.facts < 2 ^ 64) (refused : ℕ)
      (refused_as : refused ≡ with_answer put.refused answer.done answer.reply) where
    same-put : put ≡ with_item (record old { scene = Some takes.scene }) answer.made
    same-put =
        put_is ∙ ap (λ (t : RunningState H). with_item t item) takes.is
        ∙ ap (with_item (record old { scene = Some takes.scene })) item_is

    pub put_steps
        : IsStep dig lines line (told_as (length trace.facts) answer) (record put { trace = trace; refused = refused })
    put_steps =
        let few : old.mail_size + length answer.made ≤ MOST_MAIL =
        subst (λ (n : ℕ). n ≤ MOST_MAIL)
        (ap (λ (t : RunningState H). t.mail_size + length item) takes.is
        ∙ ap (λ (i : List ℕ). old.mail_size + length i) item_is) fits in
        let tells : Tells dig (tests_by dig) (rules_of left.chain) (effect-is.0 ∷ events_of after.run.entries) trace =
        more (scene_with answer.made takes.scene) (ap (λ (p : RunningState H). p.scene) same-put)
        (tests_by dig) (rules_of left.chain) (events_of after.run.entries) effect-is.0
        (subst (λ (t : TraceState). Tells dig (tests_by dig) (rules_of left.chain) (events_of after.run.entries) t)
        (ap (λ (p : RunningState H). p.trace) (sym same-put)) told.tells) told.is calls-kept refl in
        let named : trace.wallets ≡ old.trace.wallets ++ declared_by (name_in line) answer.event =
        names (scene_with answer.made takes.scene) (ap (λ (p : RunningState H). p.scene) same-put)
        ∙ ap (λ (p : RunningState H). p.trace.wallets ++ declared_by (name_in line) answer.event) same-put in
        let count : refused ≡ count_by is_refused longer.entries =
        refused_as
        ∙ ap (λ (p : RunningState H). with_answer p.refused answer.done answer.reply) same-put
        ∙ refused_more after.run.entries (entry_of line effect) old.refused after.refused
        (subst (λ (n : ℕ). n < 2 ^ 64) (lines-kept trace tells) few_lines) in
        subst (IsStep dig lines line (told_as (length trace.facts) answer))
        (ap (λ (p : RunningState H). record p { trace = trace; refused = refused }) (sym same-put))
        (is-step fits_line made few trace named tells refused count)

  -- there was no room for it
  pub put_fills : (item : List ℕ) → item ≡ answer.made → MOST_MAIL < taken.mail_size + length item
      → WouldFill dig lines line
  put_fills item item_is full =
      would-fill
      (subst (λ (n : ℕ). MOST_MAIL < n)
      (ap (λ (t : RunningState H). t.mail_size + length item) takes.is
      ∙ ap (λ (i : List ℕ). old.mail_size + length i) item_is) full)
