use Rattle.world_rules.proofs.OfferLaws.{offers_are_of_events, down_nodes_offer_nothing}
use Rattle.world_rules.proofs.laws.offers_are_of_events.Goals as goal

pub returns : goal.returns
returns c = record {
  offers = offers_are_of_events;
  down = down_nodes_offer_nothing;
}
