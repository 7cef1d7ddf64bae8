use Rattle.wallet_core.proofs.Words.{◌==◌, ◌∙◌, sym, rules, tests, noted_tips}
use Rattle.std.proofs.lemmas.Iterator.Adapters.{option_map_id}
use Rattle.std.proofs.lemmas.Iterator.{YieldsList-from_slice, YieldsList-from_map}
use Rattle.std.proofs.lemmas.Iterator.Consumers.{YieldsList-at, YieldsList-from_filter, max_from_yields_List}
use Rattle.wallet_core.proofs.StateLaws.{reduce_max}
use Rattle.wallet_core.proofs.notes.Tips.greatest.Goals as goal

pub returns : goal.returns
returns c =
    sym (option_map_id c.max.result)
    ∙ max_from_yields_List c.map.result _ c.max.ensures.ran
    (YieldsList-from_map _ (λ note. note.tip)
    (YieldsList-at c.map.ensures.source (YieldsList-from_filter _ (λ note. note.coin == c.args.coin)
    (YieldsList-from_slice c.args.self.now cc) c.filter.ensures.closure (λ x r q k. search (rules, tests))))
    c.map.ensures.closure (λ x r q k. search (rules, tests)))
    ∙ reduce_max (noted_tips c.args.coin c.args.self.now)
