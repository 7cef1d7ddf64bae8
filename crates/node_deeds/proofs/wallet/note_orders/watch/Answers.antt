use Rattle.std.proofs.Common.{refl, ap, ◌∙◌}
use Rattle.std.specs.List.{filter_map}
use Rattle.node_replies.specs.declared.reply.Reply.{Reply}
use Rattle.node_replies.specs.Orders.{kind_of, wallet_does}
use Rattle.node_deeds.proofs.wallet.note_orders.watch.Goals as goal

pub returns-clause-gives : goal.returns-clause-gives
unfolding wallet_does
returns-clause-gives g c = record {
  reply =
      c.offers.ensures.reply
      ∙ ap Reply.Offers
      (c.in_ok-kinds.ensures ∙ ap (filter_map kind_of) (c.deref.ensures.value ∙ c.in_ok-calls.ensures.calls));
  made = c.offers.ensures.made;
  offers = c.offers.ensures.offers ∙ c.in_ok-calls.ensures.calls;
}

pub returns-clause-did : goal.returns-clause-did
unfolding wallet_does
returns-clause-did g c = record { did = (c.requires, refl); disk = refl; leaves = refl; hash = refl }
