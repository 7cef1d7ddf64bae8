use Rattle.sparse_merkle.proofs.PathProof.{IsMaskedPath-proof_of_path, is_canonical-proof_of_path, proof_path-proof_of_path}
use Rattle.sparse_merkle.proofs.laws.paths_have_proofs.Goals as goal

pub returns : goal.returns
returns c dig path long h = (
  IsMaskedPath-proof_of_path dig path long h,
  is_canonical-proof_of_path dig path,
  proof_path-proof_of_path dig path long,
)
