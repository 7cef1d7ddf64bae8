-- What is kept of each wallet's leaves.
use Rattle.std.specs.Prelude.{◌≡◌, ℕ, ◌==◌, if◌then◌else◌}
use Rattle.coin_verdicts.specs.{Books.{Signing, signing_of}, declared.signers.Signers.{Signers}}

-- what a wallet signed
abbrev pub signed_in : Signers → ℕ → Signing
signed_in signers w = signing_of signers.wallets w

-- the wallet signed this now, and each other one what it had signed before
abbrev pub IsSigned : Signers → Signers → ℕ → Signing → Type 0
IsSigned old new wallet signing = (w : ℕ) → signed_in new w ≡ (if w == wallet then signing else signed_in old w)
