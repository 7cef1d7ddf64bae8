use Rattle.std.proofs.Common.{◌∙◌, ◌++◌, ◌∷◌, ℕ, List, sym, ap, subst}
use Rattle.std.specs.Prelude.{is_some}
use Rattle.std.proofs.lemmas.Bool.{true≢false}
use Rattle.world_rules.specs.Exhibits.{all_strings}
use Rattle.trace_exhibits.specs.Told.{shown_of}
use Rattle.trace_exhibits.specs.Lines.{event_of}
use Rattle.trace_exhibits.specs.Ways.{strings_in_all}
use Rattle.trace_exhibits.specs.Findings.{FindsClash, FindsForgery, Finds}
use Rattle.trace_exhibits.proofs.Lined.{more-strings}
use Rattle.trace_exhibits.proofs.Found.{none-of, closed-finds}
use Rattle.trace_exhibits.proofs.Forged.{on-ok-weaker}
use Rattle.trace_exhibits.proofs.findings.Findings.pass.Goals as goal

pub returns-then-is_some-clause-finds : goal.returns-then-is_some-clause-finds
returns-then-is_some-clause-finds g c events number finds =
    let dig = g.H.Hash32.digest_of c.args.h.now in
    let event = event_of c.args.line.now in
    let old = c.args.self.now.collisions in
    let some = sym c.is_some.ensures ∙ c.if-is_some.true in
    record {
      clash = subst (λ (all : List (List ℕ)). FindsClash dig all old) (more-strings dig events event)
          (closed-finds dig (all_strings dig events) (strings_in_all dig (shown_of event)) old some finds.clash);
      forgery = λ none. absurd (true≢false (sym some ∙ ap is_some none));
    }

pub returns-clause-finds : goal.returns-clause-finds
returns-clause-finds g c events number finds =
    let dig = g.H.Hash32.digest_of c.args.h.now in
    let tag = c.args.tag.now in
    let event = event_of c.args.line.now in
    let old = c.args.self.now in
    let none = none-of old.collisions.found (sym c.is_some.ensures ∙ c.if-is_some.false) in
    let all = ap (λ shown. all_strings dig events ++ strings_in_all dig shown)
    (c.as_slice.ensures.value ∙ c.in_ok-shown.ensures) ∙ more-strings dig events event in
    let clash = subst (λ (strings : List (List ℕ)). FindsClash dig strings c.take_all.new.self) all
    (c.in_ok-take_all.ensures.finds (all_strings dig events) finds.clash) in
    on-ok-weaker c.take.result (FindsForgery tag (event ∷ events) c.take_all.new.self.met c.take.new.self)
    (Finds dig tag (event ∷ events) (record {
      alloc = old.alloc;
      collisions = c.take_all.new.self;
      forgeries = c.take.new.self;
    })) (λ forgery. record { clash = clash; forgery = λ _. forgery })
    (c.take.ensures events old.collisions.met number c.in_ok-take_all.ensures.still (finds.forgery none))
