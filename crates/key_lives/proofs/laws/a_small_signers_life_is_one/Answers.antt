use Rattle.key_lives.proofs.SignerSample.{small_signer_life}
use Rattle.key_lives.proofs.laws.a_small_signers_life_is_one.Goals as goal

pub returns : goal.returns
returns c = small_signer_life
