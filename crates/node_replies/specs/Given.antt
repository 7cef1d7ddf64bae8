-- What a node's order gives out, in memory.
use Rattle.std.specs.Prelude.{◌≡◌}
use Rattle.node_replies.specs.declared.given.Given.{Given}
use Rattle.node_replies.specs.Orders.{Response}

-- this is what the definitions say that it gives out
pub record IsGiven (response : Response) (given : Given) : Type 0 where
  pub reply : given.reply ≡ response.reply
  pub made : given.made ≡ response.made
  pub offers : given.offers.items ≡ response.offers
