-- A signature of whatever types is short.
use Rattle.receipt_audit.proofs.Words.{◌≤◌, arith, common_steps, chains, height, signature_length}
use Rattle.lms_sign.specs.declared.types.LmsTypes.{LmsTypes}

few-chains : (types : LmsTypes) → chains types ≤ 67
unfolding chains
few-chains types = grind (arith, common_steps) steps 20000

low-height : (types : LmsTypes) → height types ≤ 10
unfolding height
low-height types = grind (arith, common_steps) steps 20000

pub signature-short : (types : LmsTypes) → signature_length types ≤ 2508
signature-short types = omega (arith, few-chains types, low-height types)
