-- What comes of a command of a wallet's node that is refused.
use Rattle.std.specs.Prelude.{◌≡◌, ℕ, List, Option, Some, None, Result, Ok, Err}
use Rattle.node_journal.specs.declared.stop.Stop.{Stop}
use Rattle.node_journal.specs.declared.stop.Stop.TheVariants.{NoMemory}
use Rattle.node_replies.specs.Orders.{refused}
use Rattle.node_replies.specs.declared.given.Given.{Given}
use Rattle.node_replies.specs.Given.{IsGiven}

-- what stopped it is handed on; where nothing did, the text of its cause is given out, or finds no memory
abbrev pub HandsOn : Option Stop → List ℕ → Result Given Stop → Type 0
HandsOn (Some stop) cause result = result ≡ Err stop
HandsOn None cause (Ok given) = IsGiven (refused cause) given
HandsOn None cause (Err stop) = stop ≡ NoMemory
