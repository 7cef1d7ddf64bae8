-- What events say of a wallet and what its records are, and that an accept keeps them one.
use Rattle.world_rules.proofs.Basics.{◌≡◌, ℕ, ◌==◌, Bool, true, List, [], ◌∷◌, ◌++◌, map, Some, refl, arith, reverse, list_any, common_steps}
use Rattle.world_rules.proofs.CoinWords.{Owner, RootCall, IsOwner, coin_at-grown, Notes, is_noted, all-append}
use Rattle.world_rules.proofs.NodeWords.{messages_of, Note, AcceptsNote, who_is, owner_of, state_notes, leaves_in, LeavesWith, Reclaims, WalletRecords, who, noted, is_wallet, Small}
use Rattle.world_rules.proofs.WorldWords.{is_taken, is_bundle}
use Rattle.world_rules.proofs.OperatorItems.{AreSmallRecords}
use Rattle.world_rules.proofs.Said.{Said}
use Rattle.world_rules.proofs.Handed.{IsKnownCoin}

-- what is said of a wallet is what its records are; the records are a wallet's, and bytes
pub record KeptWallet (dig : List ℕ → List ℕ) (s : Said) (log : List RootCall) (wallet : WalletRecords)
    : Type 0 where
  pub owner : s.owner ≡ Some (owner_of (who wallet))
  pub is : is_wallet dig wallet ≡ true
  pub is_owner : IsOwner (owner_of (who wallet))
  pub tag : Small (who wallet).tag
  pub notes : AreSmallRecords wallet.notes
  pub messages : AreSmallRecords (messages_of wallet.leaves)
  pub bodies : map (λ leaf. leaf.body) (leaves_in wallet.leaves) ≡ reverse s.bound
  pub taken : (q : ℕ) → list_any (λ other. other == q) (noted dig wallet).reclaimed ≡ is_taken s.taken q
  pub known : (c e : ℕ) → list_any (is_bundle c e) s.accepted ≡ true
      → IsKnownCoin (owner_of (who wallet)) log (is_noted c e (noted dig wallet).accepted) c e
  pub noted : (c e : ℕ) → is_noted c e (noted dig wallet).accepted ≡ true
      → list_any (is_bundle c e) s.accepted ≡ true

-- a longer log
known-longer : (me : Owner) (log : List RootCall) (call : RootCall) (noted : Bool) (c e : ℕ)
    → IsKnownCoin me log noted c e → IsKnownCoin me (call ∷ log) noted c e
known-longer me log call noted c e known = grind (arith, common_steps, coin_at-grown)

pub wallet-longer : (dig : List ℕ → List ℕ) (s : Said) (log : List RootCall) (call : RootCall)
    (wallet : WalletRecords) → KeptWallet dig s log wallet → KeptWallet dig s (call ∷ log) wallet
wallet-longer dig s log call wallet kept = grind (arith, common_steps, known-longer)

-- ---- one more note

pub state-me : (me : Owner) (notes : List Note) → (state_notes me notes).me ≡ me
unfolding state_notes
state-me me [] = refl
state-me me (AcceptsNote kept ∷ notes) = state-me me notes
state-me me (LeavesWith coin tip ∷ notes) = state-me me notes
state-me me (Reclaims coin tip q ∷ notes) = state-me me notes

pub records-push : (records : List (List ℕ)) (body : List ℕ) → AreSmallRecords records → Small body
    → AreSmallRecords (records ++ body ∷ [])
records-push records body small one = all-append Small records body small one

-- the wallet with a note
abbrev pub with_note : WalletRecords → List ℕ → WalletRecords
with_note wallet body = record wallet { notes = wallet.notes ++ body ∷ [] }

module _ (dig : List ℕ → List ℕ) (s : Said) (log : List RootCall) (wallet : WalletRecords)
    (kept : KeptWallet dig s log wallet) where
  -- what a wallet's notes say with one more, and what is said then
  pub record IsNoting (body : List ℕ) (now : Notes) (next : Said) : Type 0 where
    pub is : is_wallet dig (with_note wallet body) ≡ true
    pub who_same : who_is (wallet.notes ++ body ∷ []) ≡ who wallet
    pub now_is : noted dig (with_note wallet body) ≡ now
    pub small : Small body
    pub owner : next.owner ≡ s.owner
    pub bound : next.bound ≡ s.bound
    pub taken : (q : ℕ) → list_any (λ other. other == q) now.reclaimed ≡ is_taken next.taken q
    pub known : (c e : ℕ) → list_any (is_bundle c e) next.accepted ≡ true
        → IsKnownCoin (owner_of (who wallet)) log (is_noted c e now.accepted) c e
    pub noted : (c e : ℕ) → is_noted c e now.accepted ≡ true → list_any (is_bundle c e) next.accepted ≡ true

  pub noting : (body : List ℕ) (now : Notes) (next : Said) → IsNoting body now next
      → KeptWallet dig next log (with_note wallet body)
  noting body now next new = grind (arith, common_steps, records-push)
