-- What an archive holds that was just made.
use Rattle.std.proofs.Common.{◌≡◌, [], ap}
use Rattle.plasma_tx.specs.Chain.{Chain, with_log}
use Rattle.proof_archive.specs.Archives.{ArchiveState}
use Rattle.log_runs.specs.Holds.{holding_of, Holds}

-- the chain without a call, and no opening
pub begins : {H : Type 0} (h : H) (archive : ArchiveState H) (chain : Chain)
    → archive ≡ record { chain = with_log chain []; hash = h; kept = [] }
    → Holds h archive (record { chain = with_log chain []; kept = λ coin. [] })
begins {H = H} h archive chain is = record {
  hash_is = ap (λ (made : ArchiveState H). made.hash) is;
  held_is = ap holding_of is;
}
