-- What a node is to be told beside the calls: to release a guard, or to take back a transfer.
use Rattle.std.specs.Prelude.{ℕ, ◌&&◌, not, Bool, if◌then◌else◌, nat_le, List, Option, Some, None, is_some}
use Rattle.std.specs.Option.{option_and_then, option_or}
use Rattle.plasma_tx.specs.declared.call.RootCall.{RootCall}
use Rattle.plasma_tx.specs.Views.{blocks, is_exiting, is_withdrawn}
use Rattle.coin_safety.specs.declared.kept.Kept.{Kept}
use Rattle.coin_safety.specs.declared.word.Command.{Command}
use Rattle.coin_safety.specs.declared.word.Command.TheVariants.{Release, Reclaim}
use Rattle.coin_safety.specs.Advice.{tip, left_by}

-- the coin has left the tip, by what an answer showed
abbrev pub has_left : List RootCall → Kept → Bool
has_left log kept = is_some (left_by log kept.links.coin (tip kept))

-- The guard of a block that the coin has left is of no use to anybody, and who knows that can make it pay bonds.
abbrev pub release : List RootCall → Kept → Option Command
release log kept = if kept.guarded && has_left log kept then Some Release else None

-- A wallet may take back the transfer: its last block has come, the coin isn't paid out, no exit of it stands, and no
-- answer shows that the transfer went through.
abbrev pub may_reclaim : List RootCall → Kept → ℕ → Bool
may_reclaim log kept last =
    nat_le last (blocks log) && not (is_withdrawn log kept.links.coin) && not (is_exiting log kept.links.coin)
    && not (has_left log kept)

abbrev pub reclaim : List RootCall → Kept → Option Command
reclaim log kept =
    option_and_then (λ last. if may_reclaim log kept last then Some (Reclaim last) else None)
    (option_and_then (λ sent. sent.last) kept.sent)

-- what the node is told, if anything
abbrev pub command_of : List RootCall → Kept → Option Command
command_of log kept = option_or (release log kept) (reclaim log kept)
