use Rattle.std.proofs.Common.{◌≡◌, ℕ, ◌+◌, ◌<◌, List, [], ◌∷◌, ◌++◌, length, get_or, take, sym, ap, ◌∙◌}
use Rattle.std.specs.List.{filter_map}
use Rattle.std.proofs.lemmas.List.{take_more}
use Rattle.std.proofs.lemmas.List.Elements.{filter_map-append}
use Rattle.plasma_tx.specs.declared.call.RootCall.{RootCall}
use Rattle.node_replies.specs.declared.reply.OfferKind.{OfferKind}
use Rattle.node_replies.specs.Orders.{kind_of}
use Rattle.node_replies.proofs.offering.offer_kinds.Goals as goal

-- one more call
more : (calls : List RootCall) (i : ℕ) (call : RootCall) → i < length calls → call ≡ get_or calls i call
    → filter_map kind_of (take i calls) ++ filter_map kind_of (call ∷ [])
    ≡ filter_map kind_of (take (i + 1) calls)
more calls i call less is =
    sym (filter_map-append kind_of (take i calls) (call ∷ []))
    ∙ ap (λ (c : RootCall). filter_map kind_of (take i calls ++ c ∷ [])) is
    ∙ ap (filter_map kind_of) (sym (take_more calls i call less))

pub loop-call-preserved : goal.loop-call-preserved
loop-call-preserved c =
    c.in_ok-push_kind.ensures
    ∙ ap (λ (kinds : List OfferKind). kinds ++ filter_map kind_of (c.call-item.result ∷ [])) c.loop-call.invariant
    ∙ more c.args.calls.now c.loop-call.call-index c.call-item.result c.loop-call-test.true c.call-item.is
