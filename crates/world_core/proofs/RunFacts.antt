-- What holds of the calls, the mail and the facts of every run.
use Rattle.world_core.proofs.Words.{◌≡◌, ℕ, suc, ◌+◌, List, [], ◌∷◌, length, map, reverse, Option, Some, None, inl, inr, refl, sym, ap, ◌∙◌, subst, arith, sum_by, option_map_or, length-reverse, sum_by-append, Chain, Tests, Rules, tests_by, rules_of, IsLegal, Line, World, log_of, wallets, LineEffect, mail_size, step, TraceEntry, entry_of, Run, run_of, events_of, steps_keep_the_log, logs_are_of_events, items_are_made, TraceState, no_trace, Tells}
use Rattle.std.proofs.lemmas.Grind.{reverse_onto}
use Rattle.world_rules.proofs.Runs.{over_run}
use Rattle.coin_verdicts.proofs.Forms.{as-many}

-- ---- the log

-- the calls of a log were accepted
abbrev HasLegalLog : List TraceEntry → World → Type 0
HasLegalLog entries world = IsLegal (rules_of world.chain) world.chain.log

legal-next : (dig : List ℕ → List ℕ) (entries : List TraceEntry) (world : World) (line : Line) (effect : LineEffect)
    → HasLegalLog entries world → step dig (Some world) line ≡ Some effect
    → HasLegalLog (entry_of line effect ∷ entries) effect.world
unfolding IsLegal
legal-next dig entries world line effect legal is =
    elim (steps_keep_the_log dig world line effect is) [
      | inl left ↦ subst (λ (c : Chain). IsLegal (rules_of c) c.log) (sym left.chain) legal
      | inr more ↦
          subst (λ (c : Chain). IsLegal (rules_of c) c.log) (sym more.chain) ((tests_by dig, more.accepted), legal)
    ]

-- those of a run's events were
pub legal_events : (dig : List ℕ → List ℕ) (lines : List Line) (run : Run) (world : World)
    → run_of dig lines ≡ Some run → run.world ≡ Some world
    → IsLegal (rules_of world.chain) (log_of (events_of run.entries))
unfolding IsLegal
legal_events dig lines run world is world_is =
    subst (IsLegal (rules_of world.chain)) (logs_are_of_events dig lines run world is world_is)
    (over_run dig HasLegalLog (λ tag operator most. tt) (legal-next dig) lines run world is world_is)

-- a step leaves the contract's rules
pub rules_stay : (dig : List ℕ → List ℕ) (world : World) (line : Line) (effect : LineEffect)
    → step dig (Some world) line ≡ Some effect → rules_of effect.world.chain ≡ rules_of world.chain
rules_stay dig world line effect is =
    elim (steps_keep_the_log dig world line effect is) [
      | inl left ↦ ap rules_of left.chain
      | inr more ↦ ap rules_of more.chain
    ]

-- ---- the mail

-- what the entries made, the newest first
abbrev pub made_in : List TraceEntry → List (List ℕ)
made_in entries = map (λ (entry : TraceEntry). entry.made) entries

-- the bytes of all items of a run; without a world it has no lines
pub size_of_run : (dig : List ℕ → List ℕ) (lines : List Line) (run : Run) → run_of dig lines ≡ Some run
    → (run.world ≡ None → run.entries ≡ [])
    → option_map_or mail_size run.world 0 ≡ sum_by length (reverse (made_in run.entries))
size_of_run dig lines run is none = by run.world refl
  where
    by : (world : Option World) → run.world ≡ world
        → option_map_or mail_size world 0 ≡ sum_by length (reverse (made_in run.entries))
    by None world_is =
        sym (ap (λ (entries : List TraceEntry). sum_by length (reverse (made_in entries))) (none world_is))
    by (Some world) world_is = ap (sum_by length) (items_are_made dig lines run world is world_is)

-- one more item
pub size_more : (item : List ℕ) (items : List (List ℕ))
    → sum_by length (reverse (item ∷ items)) ≡ sum_by length (reverse items) + length item
size_more item items =
    ap (sum_by length) (reverse_onto items item [])
    ∙ sum_by-append length (reverse items) (item ∷ [])
    ∙ omega arith

-- ---- what is kept of the lines

events-length : (entries : List TraceEntry) → length (events_of entries) ≡ length entries
unfolding events_of
events-length [] = refl
events-length (entry ∷ entries) = ap suc (events-length entries)

-- there is a fact of each line
pub facts_count : (dig : List ℕ → List ℕ) (tests : Tests) (rules : Rules) (entries : List TraceEntry)
    (trace : TraceState) → Tells dig tests rules (events_of entries) trace → length trace.facts ≡ length entries
facts_count dig tests rules entries trace tells =
    sym (length-reverse trace.facts)
    ∙ as-many tests rules (events_of entries) (reverse trace.facts) tells.facts
    ∙ events-length entries

-- nothing is that of no lines
pub tells_none : (dig : List ℕ → List ℕ) (tests : Tests) (rules : Rules) → Tells dig tests rules [] no_trace
unfolding wallets
tells_none dig tests rules = record { facts = tt; named = refl; finds = refl }
