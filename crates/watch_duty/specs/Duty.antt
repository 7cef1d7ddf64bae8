-- The calls that are due for guarded coins. A guard's blocks are its deposit block and the blocks of its links, in
-- order; the last of them is its tip. Each standing exit of the coin is met by the first rule that speaks of it, and
-- each call is due only inside its window.
use Rattle.std.specs.Prelude.{ℕ, ◌==◌, ◌&&◌, not, if◌then◌else◌, nat_lt, List, [], ◌∷◌, Option, Some, None, unwrap_or}
use Rattle.std.specs.List.{flat_map}
use Rattle.std.specs.Option.{option_map, option_map_or, option_or}
use Rattle.plasma_tx.specs.{declared.links.Link.{Link}, declared.links.Links.{Links}, declared.call.Shown.{Shown}, declared.call.Shown.TheVariants.{Deposit as AtDeposit, Spend}, declared.call.RootCall.{RootCall}}
use Rattle.plasma_tx.specs.{declared.call.RootCall.TheVariants.{After, Between, Before, Respond}, declared.views.ChallengeView.{ChallengeView}, declared.views.ExitView.{ExitView}, ChallengeLists.{is_challenged}, Links.{last_spend, tip_of}}
use Rattle.plasma_tx.specs.{Transfer.{nobody}, Views.{exits_of}, declared.rules.TheConstants.{CHALLENGE_WINDOW, RESPONSE_WINDOW}, Table.{is_over}}
use Rattle.watch_duty.specs.declared.guard.Guard.{Guard}

-- ---- a guard's links

-- the link that comes after a block of these links; after the lowest, where several have it
unfoldable pub next_link : ℕ → ℕ → List Link → Option Link
next_link block last [] = None
next_link block last (link ∷ links) = if last == block then Some link else next_link block link.block links

-- the link that spent a block of the guard; None where the block is its tip, or none of its blocks
abbrev pub link_after : Links → ℕ → Option Link
link_after links block = next_link block links.deposit links.spends

-- what shows the tip: the last link, or the deposit
abbrev pub tip_shown : Links → Shown
tip_shown links = option_map_or (λ link. Spend link.opening) (last_spend links) (AtDeposit links.deposit)

-- ---- the rules

-- the call, inside a window that was opened at that time
abbrev pub within : List RootCall → ℕ → ℕ → RootCall → List RootCall
within log time window call = if is_over log time window then [] else call ∷ []

-- The old owner exits: the exit is of a block that the guard's coin has left. His own next transfer shows it: an After
-- by the link that spent the block.
abbrev pub old_owner : List RootCall → ℕ → Links → ExitView → Option (List RootCall)
old_owner log account links exit =
    option_map
    (λ link. within log exit.start CHALLENGE_WINDOW (After account links.coin exit.block link.opening))
    (link_after links exit.block)

-- A second spend exits: the exit's block is later than the tip, and its parent is a block that the coin has left. The
-- first spend of the parent shows it: a Between by the link that spent the parent.
abbrev pub second_spend : List RootCall → ℕ → Links → ExitView → Option (List RootCall)
second_spend log account links exit =
    if nat_lt (tip_of links) exit.block
    then option_map
    (λ link. within log exit.start CHALLENGE_WINDOW (Between account links.coin exit.block link.opening))
    (link_after links exit.parent)
    else None

-- A planted transfer exits: the exit's parent is later than the tip, though nobody spent the tip. Who says otherwise
-- has to show a spend of it: a Before at the tip, where the exit wasn't challenged there yet.
abbrev pub planted_parent : List RootCall → ℕ → Links → ExitView → Option (List RootCall)
planted_parent log account links exit =
    if nat_lt (tip_of links) exit.parent && not (is_challenged (tip_of links) exit.challenges)
    then Some (within log exit.start CHALLENGE_WINDOW (Before account links.coin exit.block (tip_shown links)))
    else None

-- the answer to an open challenge at a block that the coin has left: a Respond by the link that spent the block
abbrev pub answer : List RootCall → ℕ → Links → ExitView → ChallengeView → List RootCall
answer log account links exit challenge =
    if challenge.answered then []
    else option_map_or
    (λ link. within log challenge.at RESPONSE_WINDOW
    (Respond account links.coin exit.block challenge.block link.opening))
    (link_after links challenge.block)
    []

-- The exit is of the tip, so it is the holder's: each open challenge of it is answered.
abbrev pub answers : List RootCall → ℕ → Links → ExitView → Option (List RootCall)
answers log account links exit =
    if exit.block == tip_of links then Some (flat_map (answer log account links exit) exit.challenges) else None

-- what is due for an exit of the guard's coin: the calls of the first rule that speaks of it; nothing where none does
abbrev pub due_for : List RootCall → ℕ → Links → ExitView → List RootCall
due_for log account links exit =
    unwrap_or
    (option_or (old_owner log account links exit)
    (option_or (second_spend log account links exit)
    (option_or (planted_parent log account links exit)
    (answers log account links exit))))
    []

-- ---- all of it

-- a guard of a coin with that deposit block and these links; who deposited it doesn't matter for what is due
abbrev pub guard_of : ℕ → ℕ → List Link → Guard
guard_of coin deposit spends =
    record { links = record { coin = coin; deposit = deposit; owner = nobody; spends = spends } }

-- what is due for a guard: for each standing exit of its coin, in the order of their starts
abbrev pub due_of : List RootCall → ℕ → Guard → List RootCall
due_of log account guard = flat_map (due_for log account guard.links) (exits_of log guard.links.coin)

-- what is due for guards, in their order
unfoldable pub due_calls : List RootCall → ℕ → List Guard → List RootCall
due_calls log account guards = flat_map (due_of log account) guards
