-- A wallet takes a bundle that is a history which ends with it, unless the coin was withdrawn or an exit stands.
use Rattle.world_laws.proofs.Basics.{◌≡◌, ℕ, Bool, true, false, if◌then◌else◌, List, [], ◌∷◌, ◌++◌, length, Option, Ok, nat_lt, arith, Result, common_steps}
use Rattle.world_laws.proofs.CoinWords.{Links, RootCall, tip_of, last_owner_of, is_withdrawn, is_owner}
use Rattle.world_laws.proofs.NodeWords.{first_cause, Accepted, WalletRefusal, kept_of, links_handed, standing_block, most_note, Accepts, note_text, owner_of, WalletRecords, WalletEffect, answers, notes_it, unless, who, standing_causes, accept_effect, Reply, wallet_cause, answered, on_accepted}
use Rattle.world_laws.proofs.WorldWords.{state-me, IsTakenBundle}

module _ (dig : List ℕ → List ℕ) (wallet : WalletRecords) (log : List RootCall) (bytes : List ℕ)
    (links : Links) where
  abbrev size : ℕ
  size = length (note_text (Accepts (kept_of links)))

  abbrev taken : Accepted
  taken = record { coin = links.coin; tip = tip_of links }

  abbrev reply_of : WalletEffect (Result Accepted WalletRefusal) → Reply
  reply_of effect = (answered wallet_cause on_accepted effect.answer).reply

  -- what an accept of the wallet's own history does, by what is so of the coin
  abbrev ends : Bool → Option ℕ → Bool → WalletEffect (Result Accepted WalletRefusal)
  ends withdrawn standing known =
      unless
      (first_cause ((false, WalletRefusal.NotMine) ∷ (withdrawn, WalletRefusal.Withdrawn)
      ∷ standing_causes standing ++ (false, WalletRefusal.NoteTooLong size) ∷ []))
      (if known then answers (Ok taken) else notes_it (Ok taken) (note_text (Accepts (kept_of links))))

  cases : (withdrawn : Bool) (standing : Option ℕ) (known : Bool) → is_withdrawn log links.coin ≡ withdrawn
      → standing_block log links.coin ≡ standing
      → IsTakenBundle log links.coin (tip_of links) (reply_of (ends withdrawn standing known))
  cases withdrawn standing known withdrawn_is standing_is = grind (arith, common_steps)

  pub taken-bundle : links_handed dig (who wallet).tag log bytes ≡ Ok links
      → is_owner (last_owner_of links) (owner_of (who wallet)) ≡ true → nat_lt most_note size ≡ false
      → IsTakenBundle log links.coin (tip_of links) (reply_of (accept_effect dig wallet log bytes))
  unfolding accept_effect
  taken-bundle handed mine short = grind (arith, state-me, cases)
