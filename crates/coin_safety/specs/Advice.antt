-- The calls that are advised for a coin, and what they take: what is due for it, with a cheaper call where there is
-- one, and behind it a Finish where bonds come back.
use Rattle.std.specs.Prelude.{ℕ, ◌-◌, ◌==◌, ◌&&◌, ◌||◌, not, Bool, if◌then◌else◌, nat_lt, List, [], ◌∷◌, ◌++◌, length, Option, Some, None, is_some, is_none, find, filter, map}
use Rattle.std.specs.List.{flat_map, list_any, sum_by}
use Rattle.std.specs.Option.{option_and_then, option_map_or, option_or}
use Rattle.plasma_tx.specs.declared.opening.RawOpening.{RawOpening}
use Rattle.plasma_tx.specs.declared.links.Link.{Link}
use Rattle.plasma_tx.specs.declared.links.Links.{Links}
use Rattle.plasma_tx.specs.declared.call.Shown.TheVariants.{Spend}
use Rattle.plasma_tx.specs.declared.call.RootCall.{RootCall}
use Rattle.plasma_tx.specs.declared.call.RootCall.TheVariants.{Deposit, StartDeposit, StartSpend, Between, Before, Respond, Finish}
use Rattle.plasma_tx.specs.declared.views.ChallengeView.{ChallengeView}
use Rattle.plasma_tx.specs.declared.views.ExitView.{ExitView}
use Rattle.plasma_tx.specs.declared.rules.TheConstants.{CHALLENGE_BOND, CHALLENGE_WINDOW, EXIT_BOND, EXIT_PERIOD}
use Rattle.plasma_tx.specs.ChallengeLists.{is_challenged}
use Rattle.plasma_tx.specs.Links.{last_owner_of, last_spend, tip_of}
use Rattle.plasma_tx.specs.Money.{balance_of}
use Rattle.plasma_tx.specs.Table.{is_over}
use Rattle.plasma_tx.specs.Views.{exits_of, is_withdrawn}
use Rattle.coin_history.specs.Laws.{first_links}
use Rattle.watch_duty.specs.Duty.{due_of, tip_shown, within}
use Rattle.coin_safety.specs.declared.kept.Kept.{Kept}
use Rattle.coin_safety.specs.Numbers.{least}

-- the standing exits of the coin
abbrev pub standing : List RootCall → Kept → List ExitView
standing log kept = exits_of log kept.links.coin

-- where the coin is kept
abbrev pub tip : Kept → ℕ
tip kept = tip_of kept.links

-- the account of the owner at the tip
abbrev pub holder : Kept → ℕ
holder kept = (last_owner_of kept.links).account

-- the exit at the block
abbrev pub exit_in : List ExitView → ℕ → Option ExitView
exit_in exits block = find (λ exit. exit.block == block) exits

-- ---- a spend that is shown again

-- the spend of the block `at` that the call shows, where it answers the challenge there of coin c's exit at the block
abbrev pub answer_in : ℕ → ℕ → ℕ → RootCall → Option RawOpening
answer_in c at block (Respond account coin exit challenged spend) =
    if (coin == c) && (challenged == at) && (exit == block) then Some spend else None
answer_in c at block call = None

-- the spend that the last such answer showed
unfoldable pub answer_shown : List RootCall → ℕ → ℕ → ℕ → Option RawOpening
answer_shown [] c at block = None
answer_shown (call ∷ log) c at block = option_or (answer_in c at block call) (answer_shown log c at block)

-- whether the challenge at the block was answered
abbrev pub is_answered : ℕ → List ChallengeView → Bool
is_answered block challenges = list_any (λ challenge. (challenge.block == block) && challenge.answered) challenges

-- The spend challenges the exit: a Before by it, where it is before the exit's parent, and the exit wasn't challenged
-- there yet.
abbrev pub before_by : List RootCall → ℕ → ℕ → ExitView → RawOpening → List RootCall
before_by log account c exit spend =
    if nat_lt spend.block exit.parent && not (is_challenged spend.block exit.challenges)
    then within log exit.start CHALLENGE_WINDOW (Before account c exit.block (Spend spend))
    else []

-- A planted transfer exits, and the challenge at the tip was answered, by a spend of the tip. So the coin is in the
-- block of that spend: who says otherwise has to show a spend of that one. Its opening is in the log.
abbrev pub again_for : List RootCall → ℕ → Kept → ExitView → List RootCall
again_for log account kept exit =
    if nat_lt (tip kept) exit.parent && is_answered (tip kept) exit.challenges
    then option_map_or (before_by log account kept.links.coin exit)
    (answer_shown log kept.links.coin (tip kept) exit.block) []
    else []

-- It helps whoever has the coin now, so that it is advised also where the coin was signed away.
abbrev pub shown_again : List RootCall → ℕ → Kept → List RootCall
shown_again log account kept = flat_map (again_for log account kept) (standing log kept)

-- ---- a coin that has left

-- the spend of the block that the call shows, where it answers a challenge there of an exit of coin c
abbrev pub left_in : ℕ → ℕ → RootCall → Option RawOpening
left_in c block (Respond account coin exit challenged spend) =
    if (coin == c) && (challenged == block) then Some spend else None
left_in c block call = None

-- the spend that the last such answer showed: who owned the coin at the block signed it away from there
unfoldable pub left_by : List RootCall → ℕ → ℕ → Option RawOpening
left_by [] c block = None
left_by (call ∷ log) c block = option_or (left_in c block call) (left_by log c block)

-- ---- a cheaper call

-- the opening of the exit's block that the last start of the coin's exit there showed
unfoldable pub start_shown : List RootCall → ℕ → ℕ → Option RawOpening
start_shown [] c block = None
start_shown (StartSpend account coin parent exit ∷ log) c block =
    if (coin == c) && (exit.block == block) then Some exit else start_shown log c block
start_shown (call ∷ log) c block = start_shown log c block

-- the lowest block of the exits with this parent
abbrev pub lowest : List ExitView → ℕ → Option ℕ
lowest exits parent = least (map (λ exit. exit.block) (filter (λ exit. exit.parent == parent) exits))

-- Two exits that share a parent are two spends of it, so that the earlier one cancels the later one. What shows an
-- earlier spend of the exit's parent: the start of the standing exit at the lowest block.
abbrev pub earlier_spend : List RootCall → ℕ → ExitView → Option RawOpening
earlier_spend log c exit =
    option_and_then (λ block. if nat_lt block exit.block then start_shown log c block else None)
    (lowest (exits_of log c) exit.parent)

-- The call to enter for one that is due for coin c: where another standing exit shows an earlier spend of the same
-- parent, a Between, which takes nothing and wins the exit's bond, in place of a Before, which takes a bond and may be
-- answered.
abbrev pub instead : List RootCall → ℕ → RootCall → RootCall
instead log c (Before account coin block shown) =
    option_map_or (λ spend. Between account coin block spend)
    (option_and_then (earlier_spend log c) (exit_in (exits_of log c) block)) (Before account coin block shown)
instead log c call = call

-- ---- ends

-- the account has an open challenge of the exit
abbrev pub has_challenged : ℕ → ExitView → Bool
has_challenged account exit =
    list_any (λ challenge. (challenge.by == account) && not challenge.answered) exit.challenges

-- the exit is the holder's own: it is of the tip, and he didn't sign the coin away
abbrev pub is_own : Kept → ExitView → Bool
is_own kept exit = is_none kept.sent && (exit.block == tip kept)

-- A Finish of the exit helps: it has reached its end, and the account's bond comes back by it, or the coin is paid out
-- to its holder.
abbrev pub is_to_finish : List RootCall → ℕ → Kept → ExitView → Bool
is_to_finish log account kept exit =
    is_over log exit.start EXIT_PERIOD && (has_challenged account exit || is_own kept exit)

abbrev pub finishes : List RootCall → ℕ → Kept → List RootCall
finishes log account kept =
    map (λ exit. Finish account kept.links.coin exit.block)
    (filter (is_to_finish log account kept) (standing log kept))

-- ---- the own start

-- the start of an exit at a tip, as a wallet offers it that leaves: of the last link, whose parent is shown by the
-- links before; without links that of the deposit
abbrev pub start_by : ℕ → ℕ → Links → Option Link → RootCall
start_by account at links None = StartDeposit account links.coin at
start_by account at links (Some link) =
    StartSpend account links.coin (tip_shown (first_links (length links.spends - 1) links)) link.opening

abbrev pub start_of : ℕ → ℕ → Links → RootCall
start_of account at links = start_by account at links (last_spend links)

-- The account is the holder's, the coin is at the tip still, and no exit there stands.
abbrev pub may_leave : List RootCall → ℕ → Kept → Bool
may_leave log account kept =
    is_none kept.sent && (account == holder kept) && not (is_withdrawn log kept.links.coin)
    && is_none (left_by log kept.links.coin (tip kept)) && is_none (exit_in (standing log kept) (tip kept))

-- An exit stands whose parent is later than the tip: the operator planted a block, or hides one.
abbrev pub is_planted : List RootCall → Kept → Bool
is_planted log kept = list_any (λ exit. nat_lt (tip kept) exit.parent) (standing log kept)

-- Then the holder had better leave, and also where the operator hides a block that no exit shows yet: whoever leaves
-- first is paid first, whatever is planted later.
abbrev pub own_start : List RootCall → ℕ → Kept → List RootCall
own_start log account kept =
    if may_leave log account kept && (is_planted log kept || kept.hidden)
    then start_of account (tip kept) kept.links ∷ []
    else []

-- ---- all of it

-- what is due for the coin; nothing where it was signed away, since then it is another's to guard
abbrev pub due : List RootCall → ℕ → Kept → List RootCall
due log account kept = if is_some kept.sent then [] else due_of log account (record { links = kept.links })

-- what has to be entered inside windows: what is due, and behind it what is shown again
abbrev pub timed : List RootCall → ℕ → Kept → List RootCall
timed log account kept = due log account kept ++ shown_again log account kept

-- the calls to enter, in their order
abbrev pub calls_of : List RootCall → ℕ → Kept → List RootCall
calls_of log account kept =
    map (instead log kept.links.coin) (timed log account kept) ++ own_start log account kept
    ++ finishes log account kept

-- what the call takes of the account that enters it
abbrev pub takes : RootCall → ℕ
takes (Deposit account amount key) = amount
takes (StartDeposit account coin block) = EXIT_BOND
takes (StartSpend account coin parent exit) = EXIT_BOND
takes (Before account coin exit shown) = CHALLENGE_BOND
takes call = 0

-- what the account lacks to enter all of the calls
abbrev pub missing : List RootCall → ℕ → List RootCall → ℕ
missing log account calls = sum_by takes calls - balance_of log account
