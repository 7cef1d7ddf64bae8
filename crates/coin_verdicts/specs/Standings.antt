-- What a coin's notes, the newest first, come to for one wallet.
use Rattle.std.specs.Prelude.{ℕ, ◌+◌, ◌-◌, ◌==◌, ◌&&◌, ◌||◌, not, Bool, true, false, if◌then◌else◌, nat_lt, max, List, [], ◌∷◌, ◌++◌, filter, Option, Some, None, option_map}
use Rattle.std.specs.Option.{option_or}
use Rattle.plasma_tx.specs.declared.owner.Owner.{Owner}
use Rattle.wallet_core.specs.State.{is_owner, greatest}
use Rattle.world_rules.specs.{declared.verdict.VerdictKind.{VerdictKind}, Verdicts.{lost_or}}
use Rattle.coin_verdicts.specs.{declared.note.Note.{Note}, declared.note.Change.{Change}, declared.note.Holder.{Holder}, declared.note.Standing.{Standing}, Facts.{has}}

-- before the first note
abbrev pub no_notes : Standing
no_notes = record {
  deposited = false;
  accepted = false;
  sent = 0;
  withdrawn = false;
  ever_held = false;
  paid = false;
  taken = false;
  unattended = None;
}

-- a wallet that is declared holds the coin
abbrev pub has_coin : Standing → Bool
has_coin s = (s.deposited || s.accepted) && (s.sent == 0) && not s.withdrawn

-- the wallet is declared before the line, and holds the coin there
abbrev pub is_held_at : Holder → ℕ → Standing → Bool
is_held_at holder line s = nat_lt holder.since line && has_coin s

-- the change is one of the wallet at block e
abbrev pub is_its : Holder → ℕ → ℕ → ℕ → Bool
is_its holder e wallet block = (wallet == holder.wallet) && (block == e)

-- an exit that another account started is paid while the wallet holds the coin, or its own ends unpaid
abbrev pub takes : Holder → ℕ → Bool → ℕ → ℕ → Bool → Bool
takes holder e held block account paid =
    if paid then not (account == holder.owner.account) && held
    else (block == e) && (account == holder.owner.account)

-- the line is the first that nobody attended, where the coin isn't taken yet
abbrev pub missed : ℕ → Standing → Bool → Option ℕ
missed line s is_missed =
    if s.taken then s.unattended else option_or s.unattended (if is_missed then Some line else None)

-- the standing after a change in a line, before which the wallet held the coin or not
abbrev pub changed : Holder → ℕ → ℕ → Bool → Standing → Change → Standing
changed holder e line held s (Change.Deposits block owner) =
    record s { deposited = (block == e) && is_owner owner holder.owner }
changed holder e line held s (Change.Accepts wallet tip) =
    record s { accepted = s.accepted || is_its holder e wallet tip }
changed holder e line held s (Change.Sends wallet parent) =
    record s { sent = if is_its holder e wallet parent then s.sent + 1 else s.sent }
changed holder e line held s (Change.Returns wallet parent) =
    record s { sent = if is_its holder e wallet parent then s.sent - 1 else s.sent }
changed holder e line held s (Change.Ends block account paid) =
    record s {
      withdrawn = s.withdrawn || paid;
      paid = s.paid || ((block == e) && (account == holder.owner.account) && paid);
      taken = s.taken || takes holder e held block account paid;
    }
changed holder e line held s (Change.Meets wallets tips) =
    record s { unattended = missed line s (held && not (has wallets holder.wallet || has tips e)) }

-- the standing after a note
abbrev pub with_note : Holder → ℕ → Standing → Note → Standing
with_note holder e s note =
    let held = is_held_at holder note.line s in
    record (changed holder e note.line held s note.change) { ever_held = s.ever_held || held }

-- the standing after all notes
unfoldable pub standing_in : Holder → ℕ → List Note → Standing
standing_in holder e [] = no_notes
standing_in holder e (note ∷ notes) = with_note holder e (standing_in holder e notes) note

-- the wallet ever held the coin at e
abbrev pub was_held : Holder → List Note → ℕ → Bool
was_held holder notes e = (standing_in holder e notes).ever_held || has_coin (standing_in holder e notes)

-- what one change says of the deposit block, where the owner is the depositor; else what was said before
abbrev pub deposited_or : Owner → List ℕ → Change → List ℕ
deposited_or me before (Change.Deposits block owner) = if is_owner owner me then block ∷ [] else []
deposited_or me before change = before

-- the block in which the coin was deposited, where the owner is the depositor
unfoldable pub deposited_in : Owner → List Note → List ℕ
deposited_in me [] = []
deposited_in me (note ∷ notes) = deposited_or me (deposited_in me notes) note.change

-- what one change says of the tips that a wallet accepted
abbrev pub tips_or : ℕ → List ℕ → Change → List ℕ
tips_or w before (Change.Accepts wallet tip) = if wallet == w then tip ∷ before else before
tips_or w before change = before

-- the tips that a wallet accepted
unfoldable pub tips_in : ℕ → List Note → List ℕ
tips_in w [] = []
tips_in w (note ∷ notes) = tips_or w (tips_in w notes) note.change

-- the greatest block at which the wallet ever held the coin
unfoldable pub tip_in : Holder → List Note → Option ℕ
tip_in holder notes =
    greatest (filter (was_held holder notes) (deposited_in holder.owner notes ++ tips_in holder.wallet notes))

-- a block at which the wallet held the coin, or not, beside the greatest one so far
abbrev pub better : Bool → Option ℕ → ℕ → Option ℕ
better false best tip = best
better true None tip = Some tip
better true (Some best) tip = Some (max best tip)

-- the greatest one so far after a change, by whether the wallet ever held the coin at a block
abbrev pub better_by : (ℕ → Bool) → ℕ → Option ℕ → Change → Option ℕ
better_by held w best (Change.Accepts wallet tip) = if wallet == w then better (held tip) best tip else best
better_by held w best change = best

-- what became of a coin that a wallet held at a block: the first of these that applies
abbrev pub kind_of : Standing → VerdictKind
kind_of s =
    if not (s.sent == 0) then VerdictKind.Away
    else if s.paid then VerdictKind.Paid
    else if s.taken then lost_or s.unattended
    else VerdictKind.Held

-- what became of a coin to a wallet, where it ever held it
abbrev pub kind_in : Holder → List Note → Option VerdictKind
kind_in holder notes = option_map (λ e. kind_of (standing_in holder e notes)) (tip_in holder notes)
