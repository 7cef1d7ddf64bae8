use Rattle.sparse_merkle.proofs.ProofLaws.{proof-one}
use Rattle.sparse_merkle.proofs.laws.path_has_one_proof.Goals as goal

pub returns : goal.returns
returns c dig proof other = proof-one dig proof other
