-- A trace with one more line is that of one more event.
use Rattle.std.proofs.Common.{◌≡◌, ℕ, ◌+◌, ◌^◌, ◌<◌, ◌-◌, min, List, [], ◌∷◌, ◌++◌, length, map, reverse, Option, Some, None, refl, sym, ap, ◌∙◌, subst, arith}
use Rattle.std.proofs.lemmas.List.{reverse-append, length-reverse, length-map, map-append}
use Rattle.plasma_tx.specs.declared.call.RootCall.{RootCall}
use Rattle.plasma_tx.specs.Shown.{Tests, Rules}
use Rattle.world_rules.specs.Events.{Event, log_of}
use Rattle.world_rules.specs.declared.verdict.Exhibit.{Exhibit}
use Rattle.world_rules.specs.Exhibits.{all_strings, first_clash, first_forgery, exhibit_of}
use Rattle.coin_verdicts.specs.declared.fact.Fact.{Fact}
use Rattle.coin_verdicts.specs.Facts.{IsFact, AreFacts}
use Rattle.coin_verdicts.proofs.Forms.{as-many}
use Rattle.trace_exhibits.specs.Lines.{read_of}
use Rattle.trace_exhibits.specs.Findings.{Finds}
use Rattle.trace_exhibits.specs.declared.findings.Findings.{Findings}
use Rattle.world_trace.specs.declared.event.LineEvent.{LineEvent}
use Rattle.world_trace.specs.Events.{IsEvent}
use Rattle.world_trace.specs.Read.{read_in, declared_by}
use Rattle.world_trace.specs.Traces.{TraceState, number_of, FindsIn, Tells}
use Rattle.world_trace.proofs.ReadLaws.{read_as, wallets_as}

module _ (dig : List ℕ → List ℕ) (tests : Tests) (rules : Rules) (events : List Event) where
  -- the number of the next line, where it fits
  pub next_number : (old : TraceState) (number : ℕ) → Tells dig tests rules events old
      → number ≡ min (length old.facts + 1) (2 ^ 64 - 1) → length old.facts + 1 < 2 ^ 64
      → number ≡ length (map read_of events) + 1
  next_number old number tells is fits =
      let many = as-many tests rules events (reverse old.facts) tells.facts in
      omega (arith, is, fits, many, length-reverse old.facts, length-map events read_of)

  pub tells_more : (told : Event) (event : LineEvent) (name : List ℕ) (log : List RootCall) (fact : Fact)
      (old new : TraceState) → Tells dig tests rules events old → IsEvent tests rules (log_of events) told event
      → log ≡ log_of (told ∷ events) → IsFact tests rules events told fact
      → FindsIn dig rules.tag (read_in log event ∷ map read_of events) new.found
      → new.facts ≡ old.facts ++ fact ∷ [] → new.wallets ≡ old.wallets ++ declared_by name event
      → Tells dig tests rules (told ∷ events) new
  tells_more told event name log fact old new tells is log_is is_fact finds facts named = record {
    facts =
        subst (AreFacts tests rules (told ∷ events))
        (sym (ap reverse facts ∙ reverse-append old.facts (fact ∷ []))) (is_fact, tells.facts);
    named =
        ap (map number_of) named ∙ map-append number_of old.wallets (declared_by name event)
        ∙ ap (λ before. before ++ map number_of (declared_by name event)) tells.named
        ∙ wallets_as tests rules events told event name is;
    finds =
        subst (λ (read : Event). FindsIn dig rules.tag (read ∷ map read_of events) new.found)
        (ap (λ calls. read_in calls event) log_is ∙ read_as tests rules events told event is) finds;
  }

-- no events show nothing
pub nothing_shown : (dig : List ℕ → List ℕ) (tag : List ℕ) (events : List Event) → map read_of events ≡ []
    → Exhibit.Nothing ≡ exhibit_of dig tag events
unfolding exhibit_of all_strings first_clash first_forgery
nothing_shown dig tag [] is = refl
nothing_shown dig tag (event ∷ events) is = absurd (cc is)

-- at what is found
pub found-at : (dig : List ℕ → List ℕ) (tag : List ℕ) (events : List Event) (found other : Option Findings)
    → found ≡ other → FindsIn dig tag events found → FindsIn dig tag events other
found-at dig tag events found other is finds = subst (FindsIn dig tag events) is finds

-- by another tag and what is found, which are the same; and of another line that is read so
pub finds-same : (dig : List ℕ → List ℕ) (tag other : List ℕ) (events : List Event) (found here : Option Findings)
    → tag ≡ other → found ≡ here → FindsIn dig tag events found → FindsIn dig other events here
finds-same dig tag other events found here is is_found finds =
    subst (FindsIn dig other events) is_found (subst (λ (t : List ℕ). FindsIn dig t events found) is finds)

pub finds-read : (dig : List ℕ → List ℕ) (tag other : List ℕ) (line read : Event) (events : List Event)
    (found : Option Findings) → tag ≡ other → line ≡ read → FindsIn dig tag (line ∷ events) found
    → FindsIn dig other (read ∷ events) found
finds-read dig tag other line read events found is is_read finds =
    subst (λ (e : Event). FindsIn dig other (e ∷ events) found) is_read
    (subst (λ (t : List ℕ). FindsIn dig t (line ∷ events) found) is finds)
