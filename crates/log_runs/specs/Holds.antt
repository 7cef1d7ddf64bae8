-- What an archive in memory holds, and what it says.
use Rattle.std.specs.Prelude.{◌≡◌, ℕ, List, ◌++◌, Result, Ok}
use Rattle.proof_archive.specs.declared.refusal.ArchiveRefusal.{ArchiveRefusal}
use Rattle.proof_archive.specs.Archives.{ArchiveState, kept_in}
use Rattle.proof_archive.specs.Laws.{Holding}

-- the chain, and the openings of each coin
abbrev pub holding_of : {H : Type 0} → ArchiveState H → Holding
holding_of archive = record { chain = archive.chain; kept = λ coin. kept_in archive coin }

-- an archive judges by this digest, and holds this
pub record Holds {H : Type 0} (h : H) (archive : ArchiveState H) (held : Holding) : Type 0 where
  pub hash_is : archive.hash ≡ h
  pub held_is : holding_of archive ≡ held

-- this answer is a text, which stands behind the one before
pub record IsTold (answer : Result (List ℕ) ArchiveRefusal) (before after : List ℕ) : Type 0 where
  pub text : List ℕ
  pub is : answer ≡ Ok text
  pub stands : after ≡ before ++ text
