-- What holds of the calls that are due.
use Rattle.std.specs.Prelude.{◌≡◌, ℕ, ◌≤◌, ◌==◌, ◌&&◌, not, Bool, true, false, if◌then◌else◌, nat_lt, List, [], ◌∷◌, ◌++◌, filter, map, length, slice_get, Option, Some, is_some}
use Rattle.std.specs.List.{Contains, flat_map, position}
use Rattle.std.specs.Option.{option_and_then, option_map_or}
use Rattle.plasma_tx.specs.{declared.opening.RawOpening.{RawOpening}, declared.links.Link.{Link}, declared.links.Links.{Links}, declared.call.Shown.{Shown}, declared.call.Shown.TheVariants.{Deposit as AtDeposit, Spend}}
use Rattle.plasma_tx.specs.{declared.call.RootCall.{RootCall}, declared.call.RootCall.TheVariants.{StartSpend, After, Between, Before, Respond}, declared.views.ChallengeView.{ChallengeView}, declared.views.ExitView.{ExitView}}
use Rattle.plasma_tx.specs.{ChallengeLists.{is_challenged}, Links.{tip_of}, Views.{exits_of}, declared.rules.TheConstants.{CHALLENGE_BOND, CHALLENGE_WINDOW, RESPONSE_WINDOW}, Shown.{Tests, Rules, root_at}, Table.{answer_to, is_accepted}}
use Rattle.plasma_tx.specs.Money.{balance_of}
use Rattle.coin_history.specs.{declared.bundle.Bundle.{Bundle}, History.{leaf_of_opening, IsHistory}}
use Rattle.watch_duty.specs.{declared.guard.Guard.{Guard}, Duty.{link_after, tip_shown, within, due_for, due_of, due_calls}}

-- each call of the log was accepted after those before it, under these tests
unfoldable pub IsLegalBy : Tests → Rules → List RootCall → Type 0
IsLegalBy tests rules [] = Unit {0}
IsLegalBy tests rules (call ∷ log) =
    (is_accepted (answer_to tests rules log call) ≡ true) × IsLegalBy tests rules log

-- the openings of a call of the coin
abbrev pub shown_openings : Shown → List RawOpening
shown_openings (AtDeposit block) = []
shown_openings (Spend opening) = opening ∷ []

abbrev pub openings_of_call : ℕ → RootCall → List RawOpening
openings_of_call c (StartSpend account coin parent exit) = if coin == c then shown_openings parent ++ exit ∷ [] else []
openings_of_call c (After account coin exit spend) = if coin == c then spend ∷ [] else []
openings_of_call c (Between account coin exit spend) = if coin == c then spend ∷ [] else []
openings_of_call c (Before account coin exit shown) = if coin == c then shown_openings shown else []
openings_of_call c (Respond account coin exit challenged spend) = if coin == c then spend ∷ [] else []
openings_of_call c call = []

-- no two of these openings open one root at the coin to different leaves
abbrev pub HaveOneLeaf : Tests → List RootCall → ℕ → List RawOpening → Type 0
HaveOneLeaf tests log coin openings = (one other : RawOpening) (root : List ℕ)
    → Contains openings one → Contains openings other → one.block ≡ other.block → root_at log one.block ≡ Some root
    → tests.opens root coin one ≡ true → tests.opens root coin other ≡ true
    → leaf_of_opening one ≡ leaf_of_opening other

-- a Before for which the account's balance doesn't suffice
abbrev pub is_poor_before : List RootCall → ℕ → RootCall → Bool
is_poor_before log account (Before by coin exit shown) = nat_lt (balance_of log account) CHALLENGE_BOND
is_poor_before log account call = false

-- Each call that is due for the history of a coin is accepted, unless it is a Before for which there is no money,
-- where no two openings of that history and of the log's calls of the coin show two leaves of one root.
abbrev pub DueCallsAreAccepted : Type 0
DueCallsAreAccepted = (tests : Tests) (rules : Rules) (log : List RootCall) (account : ℕ) (bundle : Bundle)
    (links : Links) (call : RootCall)
    → IsLegalBy tests rules log → IsHistory tests rules log bundle links
    → HaveOneLeaf tests log bundle.coin (flat_map (openings_of_call bundle.coin) log ++ bundle.openings)
    → Contains (due_of log account (record { links = links })) call
    → is_poor_before log account call ≡ false → is_accepted (answer_to tests rules log call) ≡ true

-- where no exit of the coin stands, nothing is due
abbrev pub NothingIsDueWithoutExits : Type 0
NothingIsDueWithoutExits = (log : List RootCall) (account : ℕ) (guard : Guard) → exits_of log guard.links.coin ≡ []
    → due_of log account guard ≡ []

-- the call challenges an exit
abbrev pub is_challenge : RootCall → Bool
is_challenge (After account coin exit spend) = true
is_challenge (Between account coin exit spend) = true
is_challenge (Before account coin exit shown) = true
is_challenge call = false

-- at most one challenge is due for an exit
abbrev pub OneChallengeIsDue : Type 0
OneChallengeIsDue = (log : List RootCall) (account : ℕ) (links : Links) (exit : ExitView)
    → length (filter is_challenge (due_for log account links exit)) ≤ 1

-- ---- the rules, by the places of a guard's blocks

-- b0, b1, .., bk: the deposit block, and the blocks of the links in order
abbrev pub guard_blocks : Links → List ℕ
guard_blocks links = links.deposit ∷ map (λ link. link.block) links.spends

-- link i + 1, for the lowest i at which bi is the block: links are counted from 1. None where the block is no bi with
-- i < k.
abbrev pub link_by_place : Links → ℕ → Option Link
link_by_place links block =
    option_and_then (λ i. slice_get links.spends i) (position (λ b. b == block) (guard_blocks links))

-- the link that spent a block of the guard is the one of that place
abbrev pub LinksAreByPlace : Type 0
LinksAreByPlace = (links : Links) (block : ℕ) → link_after links block ≡ link_by_place links block

-- the call that is made by a link, if there is one, inside a window that was opened at that time
abbrev pub by_link : List RootCall → ℕ → ℕ → Option Link → (RawOpening → RootCall) → List RootCall
by_link log time window link call =
    option_map_or (λ found. within log time window (call found.opening)) link []

-- a Respond by link i + 1 to an open challenge at a bi with i < k
abbrev pub response_by_place : List RootCall → ℕ → Links → ExitView → ChallengeView → List RootCall
response_by_place log account links exit challenge =
    if challenge.answered then []
    else by_link log challenge.at RESPONSE_WINDOW (link_by_place links challenge.block)
    (Respond account links.coin exit.block challenge.block)

-- What is due for an exit with block e and parent p, by the first of the five rules whose condition holds: where e is a
-- bi with i < k an After by link i + 1; where e is later than bk, and p is a bi with i < k, a Between by link i + 1;
-- where p is later than bk, and the exit wasn't challenged there, a Before at bk; where e is bk the responses; else
-- nothing.
abbrev pub due_by_place : List RootCall → ℕ → Links → ExitView → List RootCall
due_by_place log account links exit =
    if is_some (link_by_place links exit.block)
    then by_link log exit.start CHALLENGE_WINDOW (link_by_place links exit.block)
    (After account links.coin exit.block)
    else if nat_lt (tip_of links) exit.block && is_some (link_by_place links exit.parent)
    then by_link log exit.start CHALLENGE_WINDOW (link_by_place links exit.parent)
    (Between account links.coin exit.block)
    else if nat_lt (tip_of links) exit.parent && not (is_challenged (tip_of links) exit.challenges)
    then within log exit.start CHALLENGE_WINDOW (Before account links.coin exit.block (tip_shown links))
    else if exit.block == tip_of links then flat_map (response_by_place log account links exit) exit.challenges
    else []

-- What is due for guards are these calls, in the order of the guards, and of the standing exits of each guard's coin.
abbrev pub DueCallsAreByPlace : Type 0
DueCallsAreByPlace = (log : List RootCall) (account : ℕ) (guards : List Guard)
    → due_calls log account guards
    ≡ flat_map
    (λ guard. flat_map (due_by_place log account guard.links) (exits_of log guard.links.coin))
    guards
