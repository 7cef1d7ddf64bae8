-- What an opening reads of notes.
use Rattle.wallet_node.proofs.Words.{◌≡◌, ℕ, ◌==◌, ◌&&◌, not, Bool, true, false, List, [], ◌∷◌, length, drop, if◌then◌else◌, Option, Some, None, refl, ◌∙◌, ap, arith, slice_get, and_parts, common_steps, is_supported, public_key_of, WalletIdentity, identity_in, identity_of, is_first, types_in, may_be_second, who_is, owner_of, secret_of}

-- the identity of records, where the first one spells it
pub who-is : (records : List (List ℕ)) (first : List ℕ) (who : WalletIdentity) → Some first ≡ slice_get records 0
    → Some who ≡ identity_in first → who ≡ who_is records
unfolding who_is
who-is records first who at is = grind (arith, common_steps) steps 20000

same-some : (x y : WalletIdentity) (r : Option WalletIdentity) → r ≡ Some x → r ≡ Some y → x ≡ y
same-some x y r d e = cc

-- its types are supported
pub who-supported : (first : List ℕ) (who : WalletIdentity) → Some who ≡ identity_in first
    → is_supported who.types ≡ true
unfolding identity_in
who-supported [] who is = absurd (cc is)
who-supported (mark ∷ bytes) who is =
    first ((mark == 1) && (length bytes == 72)) ((mark == 4) && (length bytes == 80) && may_be_second (types_in bytes))
    is refl
  where
    of_second : Bool → Option WalletIdentity
    of_second b = if b then Some (identity_of (types_in bytes) (drop 8 bytes)) else None

    second : (b : Bool) → Some who ≡ of_second b
        → ((mark == 4) && (length bytes == 80) && may_be_second (types_in bytes)) ≡ b → is_supported who.types ≡ true
    second false wrong parts = absurd (cc wrong)
    second true right parts =
        let behind = and_parts ((mark == 4) && (length bytes == 80)) (may_be_second (types_in bytes)) parts in
        let good = and_parts (is_supported (types_in bytes)) (not (is_first (types_in bytes))) behind.1 in
        ap (λ (w : WalletIdentity). is_supported w.types)
        (same-some who (identity_of (types_in bytes) (drop 8 bytes)) (Some who) refl right) ∙ good.0

    first : (a b : Bool)
        → Some who ≡ (if a then Some (identity_of (record { lms = 5; ots = 4 }) bytes) else of_second b)
        → ((mark == 4) && (length bytes == 80) && may_be_second (types_in bytes)) ≡ b → is_supported who.types ≡ true
    first true b right parts = grind (arith, common_steps, same-some) steps 20000
    first false b right parts = second b right parts

-- the owner that an identity and its key are
pub owner-is : (who : WalletIdentity) (public : List ℕ) → public ≡ public_key_of (secret_of who)
    → record { account = who.account; key = public } ≡ owner_of who
unfolding owner_of
owner-is who public is = λ i. record { account = who.account; key = is i }
