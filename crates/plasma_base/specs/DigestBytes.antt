-- Digests are bytes.
use Rattle.std.proofs.Common.{ℕ, zero, suc, ◌<◌, ◌%◌, List, [], ◌∷◌, ◌++◌, lit<}
use Rattle.std.specs.Prelude.{slice_index, replicate}
use Rattle.std.specs.Int.{w32, w64, to_be_bytes}
use Rattle.std.specs.List.{All}
use Rattle.std.proofs.Math.Nat.{mod-lt}
use Rattle.std.proofs.lemmas.List.Elements.{All-nil, All-cons, All-append, All-replicate}
use Rattle.sha2.specs.Sha256.{sha256, digest_bytes, final_hash, initial_hash_256}
use Rattle.plasma_base.specs.Toy.{toy_text, toy_digest}

-- the numbers are bytes; a record, so that its list can be found from it
pub record Small (bytes : List ℕ) : Type 0 where
  pub are : All (λ byte. byte < 256) bytes

pub small-nil : Small []
small-nil = record { are = All-nil (λ byte. byte < 256) }

pub small-cons : {bytes : List ℕ} (byte : ℕ) → byte < 256 → Small bytes → Small (byte ∷ bytes)
small-cons {bytes} byte low small = record { are = All-cons (λ b. b < 256) byte bytes low small.are }

pub small-append : {one other : List ℕ} → Small one → Small other → Small (one ++ other)
small-append {one} {other} first second =
    record { are = All-append (λ byte. byte < 256) one other first.are second.are }

pub small-zeros : (n : ℕ) → Small (replicate n 0)
small-zeros n = record { are = All-replicate (λ byte. byte < 256) n 0 (lit< tt) }

-- ---- numbers

low-byte : {bytes : List ℕ} (n : ℕ) → Small bytes → Small (n % 256 ∷ bytes)
low-byte n small = small-cons (n % 256) (mod-lt n (lit< tt)) small

pub small-32 : (n : ℕ) → Small (to_be_bytes w32 n)
small-32 n = low-byte _ (low-byte _ (low-byte _ (low-byte n small-nil)))

pub small-64 : (n : ℕ) → Small (to_be_bytes w64 n)
small-64 n =
    low-byte _ (low-byte _ (low-byte _ (low-byte _ (low-byte _ (low-byte _ (low-byte _ (low-byte n small-nil)))))))

-- ---- digests

small-digest_bytes : (hash : List ℕ) (n : ℕ) → Small (digest_bytes hash n)
unfolding digest_bytes
small-digest_bytes hash zero = small-nil
small-digest_bytes hash (suc n) = small-append (small-digest_bytes hash n) (small-32 (slice_index hash n))

pub small-sha256 : (message : List ℕ) → Small (sha256 message)
unfolding sha256
small-sha256 message = small-digest_bytes (final_hash initial_hash_256 message) 8

pub small-toy_digest : (bytes : List ℕ) → Small (toy_digest bytes)
unfolding toy_text
small-toy_digest bytes = small-append (small-zeros 24) (small-64 _)
