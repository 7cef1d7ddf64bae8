-- What the notes of a wallet's commands change.
use Rattle.wallet_node.proofs.Words.{◌≡◌, ◌<◌, ◌^◌, ℕ, List, Some, ap, arith, option_map, common_steps, Links, IsShown, kept_of, Accepts, LeavesWith, Reclaims, note_text, note_in, accepts, change_of}
use Rattle.node_rules.proofs.WalletTexts.{note_in-text}
use Rattle.plasma_tx.specs.Links.{tip_of}
use Rattle.wallet_node.specs.declared.change.Change.TheVariants.{Accepts as TakesUp, LeavesWith as Leaves, Reclaims as TakesBack}

accept-read : (dig : List ℕ → List ℕ) (tag : List ℕ) (links : Links) → IsShown dig tag links
    → note_in dig tag (note_text (Accepts (kept_of links))) ≡ Some (Accepts (kept_of links))
unfolding note_in note_text
accept-read dig tag links shown = ap accepts shown.read

-- the note of a coin that is taken up puts it in memory as it was handed in
pub accept-spells : (dig : List ℕ → List ℕ) (tag : List ℕ) (links : Links) (tip : ℕ) (body : List ℕ)
    → IsShown dig tag links → tip ≡ tip_of links → body ≡ note_text (Accepts (kept_of links))
    → Some (TakesUp (record { coin = links.coin; tip = tip; spends = links.spends }))
    ≡ option_map (change_of tag) (note_in dig tag body)
accept-spells dig tag links tip body shown tip_is is = grind (arith, common_steps, accept-read) steps 20000

pub leave-spells : (dig : List ℕ → List ℕ) (tag : List ℕ) (coin tip : ℕ) (body : List ℕ) → coin < 2 ^ 64
    → tip < 2 ^ 64 → body ≡ note_text (LeavesWith coin tip)
    → Some (Leaves coin tip) ≡ option_map (change_of tag) (note_in dig tag body)
leave-spells dig tag coin tip body coin_fits tip_fits is = grind (arith, common_steps, note_in-text) steps 20000

pub reclaim-spells : (dig : List ℕ → List ℕ) (tag : List ℕ) (coin tip q : ℕ) (body : List ℕ) → coin < 2 ^ 64
    → tip < 2 ^ 64 → q < 2 ^ 32 → body ≡ note_text (Reclaims coin tip q)
    → Some (TakesBack coin tip q) ≡ option_map (change_of tag) (note_in dig tag body)
reclaim-spells dig tag coin tip q body coin_fits tip_fits q_fits is =
    grind (arith, common_steps, note_in-text) steps 20000
