use Rattle.std.proofs.Common.{◌≡◌, ◌∙◌, ◌+◌, ◌-◌, ◌^◌, ◌<◌, min, [], ◌∷◌, ◌++◌, length, map, sym, ap, arith}
use Rattle.std.proofs.lemmas.List.{length-append}
use Rattle.trace_exhibits.specs.Lines.{read_of, event_of}
use Rattle.world_trace.specs.Read.{read_in, declared_by}
use Rattle.world_trace.specs.Traces.{TraceState}
use Rattle.world_trace.proofs.Telling.{next_number, tells_more, finds-same, finds-read}
use Rattle.world_trace.proofs.trace.Trace.push.Goals as goal

pub returns-clause-told : goal.returns-clause-told
returns-clause-told g c tests rules events told tells is log tag =
    let dig = g.H.Hash32.digest_of c.args.h.now in
    let old = c.args.self.now in
    let calls = c.args.log.now.log in
    let fact = c.in_ok-fact.fact in
    let new : TraceState = record {
      facts = c.push.new.self.items;
      wallets = c.add_wallet.new.wallets.items;
      found = c.find_in.new.found;
    } in
    let facts : c.push.new.self.items ≡ old.facts ++ fact ∷ [] =
    c.in_ok-push.ensures.items ∙ ap (λ (t : TraceState). t.facts ++ fact ∷ []) c.self.view_is in
    let long : c.len.result ≡ length old.facts =
    omega (arith, c.len.ensures, c.self.inside.facts.ok.0, ap (λ (t : TraceState). length t.facts) c.self.view_is) in
    let number = c.saturating_add-number.ensures ∙ ap (λ n. min (n + 1) (2 ^ 64 - 1)) long in
    let fits : length old.facts + 1 < 2 ^ 64 =
    omega (
      arith,
      c.push.new.self.small,
      c.push.new.self.ok.0,
      c.push.new.self.ok.1,
      ap length facts,
      length-append old.facts (fact ∷ []),
    ) in
    let is_tag = c.tag.ensures ∙ tag in
    tells_more dig tests rules events told c.args.event c.args.name.now calls fact old new tells is log
    (c.in_ok-fact.ensures tests rules events told is)
    (finds-read dig c.tag.result rules.tag (event_of c.read_in-line.result) (read_in calls c.args.event)
    (map read_of events) c.find_in.new.found is_tag c.read_in-line.ensures
    (c.in_ok-find_in.ensures.finds (map read_of events)
    (next_number dig tests rules events old c.saturating_add-number.result tells number fits)
    (finds-same dig rules.tag c.tag.result (map read_of events) old.found c.self.inside.found (sym is_tag)
    (ap (λ (t : TraceState). t.found) (sym c.self.view_is)) tells.finds)))
    facts
    (c.in_ok-add_wallet.ensures
    ∙ ap (λ (t : TraceState). t.wallets ++ declared_by c.args.name.now c.args.event) c.self.view_is)
