use Rattle.std.proofs.Common.{◌≡◌, ◌∙◌, ℕ, [], map, Option, Some, None, subst}
use Rattle.std.specs.Prelude.{MatchOption}
use Rattle.world_rules.specs.declared.verdict.Exhibit.{Exhibit}
use Rattle.world_rules.specs.Exhibits.{all_strings, first_clash, first_forgery}
use Rattle.trace_exhibits.specs.Lines.{read_of}
use Rattle.trace_exhibits.specs.Ways.{pair_of}
use Rattle.trace_exhibits.specs.Findings.{KeepsEvents}
use Rattle.trace_exhibits.specs.declared.shown.Clash.{Clash}
use Rattle.trace_exhibits.proofs.Lined.{exhibit-read, exhibit-clash}
use Rattle.trace_exhibits.proofs.Found.{finds-first}
use Rattle.trace_exhibits.proofs.Forged.{open-events}
use Rattle.trace_exhibits.proofs.findings.Findings.exhibit.Goals as goal

pub returns-in-Some : goal.returns-in-Some
returns-in-Some c dig tag events finds =
    let strings = all_strings dig (map read_of events) in
    let first = subst (λ (found : Option Clash). MatchOption found (first_clash dig [] strings ≡ None)
    (λ clash. first_clash dig [] strings ≡ Some (pair_of clash))) c.in-Some.is
    (finds-first dig strings c.args.self.now.collisions finds.clash) in
    (λ i. Exhibit.Collision (c.in_ok-copy.ensures i) (c.in_ok-copy-2.ensures i))
    ∙ exhibit-clash dig tag events (pair_of c.in-Some.clash) first

pub returns-in-None : goal.returns-in-None
returns-in-None c dig tag events finds =
    let strings = all_strings dig (map read_of events) in
    let first = subst (λ (found : Option Clash). MatchOption found (first_clash dig [] strings ≡ None)
    (λ clash. first_clash dig [] strings ≡ Some (pair_of clash))) c.in_default.is
    (finds-first dig strings c.args.self.now.collisions finds.clash) in
    exhibit-read dig tag events None None first
    (open-events tag (map read_of events) c.args.self.now.collisions.met c.args.self.now.forgeries c.in-None.is
    (finds.forgery c.in_default.is)).none

pub returns-in-Some-found : goal.returns-in-Some-found
returns-in-Some-found c dig tag events finds =
    let strings = all_strings dig (map read_of events) in
    let first = subst (λ (found : Option Clash). MatchOption found (first_clash dig [] strings ≡ None)
    (λ clash. first_clash dig [] strings ≡ Some (pair_of clash))) c.in_default.is
    (finds-first dig strings c.args.self.now.collisions finds.clash) in
    let forgery = subst (λ (found : Option ℕ). MatchOption found
    (KeepsEvents tag (map read_of events) c.args.self.now.collisions.met c.args.self.now.forgeries)
    (λ line. first_forgery tag (map read_of events) ≡ Some line)) c.in-Some-found.is
    (finds.forgery c.in_default.is) in
    exhibit-read dig tag events None (Some c.in-Some-found.line) first forgery
