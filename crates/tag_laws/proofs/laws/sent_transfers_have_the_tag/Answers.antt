use Rattle.tag_laws.proofs.Sent.{sent_are_of_the_chain, new_wallets_are_own, wallets_stay_own}
use Rattle.tag_laws.proofs.laws.sent_transfers_have_the_tag.Goals as goal

pub returns-clause-sent : goal.returns-clause-sent
returns-clause-sent c = sent_are_of_the_chain

pub returns-clause-new : goal.returns-clause-new
returns-clause-new c = new_wallets_are_own

pub returns-clause-stay : goal.returns-clause-stay
returns-clause-stay c = wallets_stay_own
