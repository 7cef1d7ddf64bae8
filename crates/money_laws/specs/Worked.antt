-- Worked lists of legal events, the newest first: the premises of the laws can be met, and each bound is tight.
use Rattle.std.specs.Prelude.{◌≡◌, ℕ, ◌+◌, true, false, List, [], ◌∷◌, ◌++◌, Some}
use Rattle.std.specs.List.{Contains}
use Rattle.plasma_tx.specs.declared.call.RootCall.{RootCall}
use Rattle.plasma_tx.specs.declared.call.RootCall.TheVariants.{Tick, Finish}
use Rattle.plasma_tx.specs.declared.answer.Answer.TheVariants.{Paid, Dropped, Refused}
use Rattle.plasma_tx.specs.declared.answer.Refusal.TheVariants.{NoFunds}
use Rattle.plasma_tx.specs.Views.{Challenge, Exit, exits, exit_at}
use Rattle.plasma_tx.specs.Shown.{Tests, tests_by}
use Rattle.plasma_tx.specs.Table.{answer_to}
use Rattle.plasma_tx.specs.Money.{balance_of}
use Rattle.world_rules.specs.Laws.{IsDigest}
use Rattle.world_rules.specs.Events.{Event, Joins, Watches, Leaves, log_of}
use Rattle.world_rules.specs.Exhibits.{collides, is_forged}
use Rattle.world_rules.specs.Safety.{is_safe}
use Rattle.world_laws.specs.Legal.{IsLegal}
use Rattle.world_laws.specs.LegalLaws.{fresh_offers}
use Rattle.world_laws.specs.Looked.{is_looked_after}
use Rattle.money_laws.specs.First.{has_led, ends_first}
use Rattle.money_laws.specs.Reserve.{Tip, reserve_of, AreApart, AreAccepted, with_calls}
use Rattle.money_laws.specs.Keepers.{keeps, IsKeeper}
use Rattle.money_laws.specs.MoneyLaws.{AreOnOffer, is_in_time, wins_in, OnlyGuarded}
use Rattle.money_laws.specs.Samples.{rules, tag, digest, began, attacked, exit_one, exit_two, before_one, before_two, before_by_friend, own_exit, received, old_exit, after, commits, second, second_exit, between}

-- openings are judged by the digest of these samples
abbrev pub tests : Tests
tests = tests_by digest

-- ---- the reserve

-- both exits stand, and the wallet watched
abbrev pub watched : ℕ → List Event
watched left = Watches 1 (before_one ∷ before_two ∷ []) ∷ Joins exit_two ∷ attacked left

abbrev pub tips : List Tip
tips = record { coin = 1; block = 1 } ∷ record { coin = 2; block = 2 } ∷ []

-- with so much left two Befores are on offer, the reserve is 80, and this is what the account has
pub record IsAttacked (left : ℕ) : Type 0 where
  pub legal : IsLegal tests rules (watched left)
  pub on_offer : AreOnOffer digest (watched left) 21 tips (before_one ∷ before_two ∷ [])
  pub reserve : reserve_of (log_of (watched left)) tips ≡ 80
  pub has : balance_of (log_of (watched left)) 21 ≡ left

-- With 80 both are accepted, and then none is due. With one unit less the second isn't.
pub record ReserveIsTight : Type 0 where
  pub digested : IsDigest digest
  pub apart : AreApart tips
  pub with_it : IsAttacked 80
  pub accepted : AreAccepted tests rules (log_of (watched 80)) (before_one ∷ before_two ∷ [])
  pub none_due : reserve_of (with_calls (log_of (watched 80)) (before_one ∷ before_two ∷ [])) tips ≡ 0
  pub with_less : IsAttacked 79
  pub refused : answer_to tests rules (before_one ∷ log_of (watched 79)) before_two ≡ Refused (NoFunds 39 40)

-- ---- guarding

-- the events show, at coin c, neither two byte strings with one digest nor a forgery of wallet 1's signature
pub record ShowsNothing (events : List Event) (c : ℕ) : Type 0 where
  pub whole : collides digest events c ≡ false
  pub honest : is_forged tag events 1 c ≡ false

-- The wallet has 40, and watched. Its Before was entered, the exit's end came, and somebody finished the exit.
abbrev pub guarding_begins : List Event
guarding_begins = Watches 1 (before_one ∷ []) ∷ attacked 40

abbrev pub challenged : List Event
challenged = Joins (Tick 907200) ∷ Joins before_one ∷ guarding_begins

abbrev pub finish : RootCall
finish = Finish 50 1 5

abbrev pub guarding : List Event
guarding = Joins finish ∷ Joins (Tick 907200) ∷ Joins before_one ∷ []

-- no exit stands any more, and the wallet has what it had and 100: no less than that is sure, and it is no more
pub record GuardingIsTight : Type 0 where
  pub legal : IsLegal tests rules (guarding ++ guarding_begins)
  pub only : OnlyGuarded digest tag guarding guarding_begins 21
  pub none_left : exits (log_of (guarding ++ guarding_begins)) ≡ []
  pub had : balance_of (log_of guarding_begins) 21 ≡ 40
  pub wins : wins_in guarding guarding_begins 21 ≡ 1
  pub has : balance_of (log_of (guarding ++ guarding_begins)) 21 ≡ 140

-- before its end the exit stands with the Before, the wallet keeps the coin, and it was looked after
pub record IsGuarded : Type 0 where
  pub legal : IsLegal tests rules challenged
  pub kept : keeps challenged 1 1 1 ≡ true
  pub looked : is_looked_after challenged 1 1 1 ≡ true
  pub nothing : ShowsNothing challenged 1
  pub exit : Exit
  pub challenge : Challenge
  pub stands : exit_at (log_of challenged) 1 5 ≡ Some exit
  pub has : Contains exit.challenges challenge
  pub at_tip : challenge.block ≡ 1
  pub keeper : IsKeeper digest tag (Joins finish) challenged 1 1 1

-- ---- an attack that costs nothing

-- the stranger's friend challenges the exit first, at the hidden block
abbrev pub covering : List Event
covering =
    Joins finish
    ∷ Joins (Tick 907200)
    ∷ Joins before_one
    ∷ Joins before_by_friend
    ∷ Joins exit_one
    ∷ []

abbrev pub covered : List Event
covered = Joins (Tick 907200) ∷ Joins before_one ∷ Joins before_by_friend ∷ attacked 40

-- what the stranger and his friend have together
abbrev pub of_strangers : List Event → ℕ
of_strangers events = balance_of (log_of events) 30 + balance_of (log_of events) 40

-- The exit isn't paid, and the two have what they had. The guardian has its 40 again, and no more: of its Before that
-- was open 40 came back.
pub record AttackCostsNothing : Type 0 where
  pub legal : IsLegal tests rules (covering ++ began 40)
  pub only : OnlyGuarded digest tag covering (began 40) 21
  pub dropped : answer_to tests rules (log_of covered) finish ≡ Dropped
  pub had : of_strangers (began 40) ≡ 240
  pub has : of_strangers (covering ++ began 40) ≡ 240
  pub wins : wins_in covering (began 40) 21 ≡ 0
  pub guardian_had : balance_of (log_of (began 40)) 21 ≡ 40
  pub guardian_open : balance_of (log_of covered) 21 ≡ 0
  pub guardian_has : balance_of (log_of (covering ++ began 40)) 21 ≡ 40

-- ---- leaving first

-- the wallet left a second before the stranger's exit began, which nobody challenged
abbrev pub raced : ℕ → List Event
raced time =
    Joins (Tick time)
    ∷ Joins exit_one
    ∷ Joins (Tick 1)
    ∷ Joins own_exit
    ∷ Leaves 1 own_exit
    ∷ began 100

-- At its end it is paid, though nobody looked after the coin: no exit came too late. A second later the stranger's exit
-- has ended too, and the coin may be lost.
pub record LeavingFirstIsTight : Type 0 where
  pub legal : IsLegal tests rules (Joins (Finish 50 1 1) ∷ raced 907200)
  pub looked : is_looked_after (raced 907200) 1 1 1 ≡ false
  pub in_time : is_in_time (raced 907200) 1 1 1 ≡ true
  pub nothing : ShowsNothing (Joins (Finish 50 1 1) ∷ raced 907200) 1
  pub led : has_led (log_of (raced 907200)) 1 1 ≡ true
  pub first : ends_first 907200 (log_of (raced 907200)) 1 1 ≡ true
  pub paid : answer_to tests rules (log_of (raced 907200)) (Finish 50 1 1) ≡ Paid
  pub late_legal : IsLegal tests rules (Joins finish ∷ raced 907201)
  pub late_nothing : ShowsNothing (Joins finish ∷ raced 907201) 1
  pub late : is_in_time (raced 907201) 1 1 1 ≡ false
  pub late_led : has_led (log_of (raced 907201)) 1 1 ≡ false
  pub late_first : ends_first 907201 (log_of (raced 907201)) 1 1 ≡ false
  pub lost : is_safe tests rules (Joins finish ∷ raced 907201) 1 1 1 ≡ false

-- ---- without money

-- the old owner exits, and the wallet, which has nothing, watches
abbrev pub left_behind : List Event
left_behind = Watches 1 (after ∷ []) ∷ Joins old_exit ∷ received

-- the After that it offers is accepted, and brings it 100
pub record AnAfterNeedsNoMoney : Type 0 where
  pub legal : IsLegal tests rules (Joins after ∷ left_behind)
  pub offered : Contains (fresh_offers left_behind 1) after
  pub nothing : ShowsNothing left_behind 1
  pub had : balance_of (log_of left_behind) 21 ≡ 0
  pub has : balance_of (log_of (Joins after ∷ left_behind)) 21 ≡ 100

-- he exits with his second transfer, and the wallet watches
abbrev pub spent_twice : List Event
spent_twice = Watches 1 (between ∷ []) ∷ Joins second_exit ∷ commits 1 second ∷ received

-- the Between that it offers is accepted, and brings it 100
pub record ABetweenNeedsNoMoney : Type 0 where
  pub legal : IsLegal tests rules (Joins between ∷ spent_twice)
  pub offered : Contains (fresh_offers spent_twice 1) between
  pub nothing : ShowsNothing spent_twice 1
  pub had : balance_of (log_of spent_twice) 21 ≡ 0
  pub has : balance_of (log_of (Joins between ∷ spent_twice)) 21 ≡ 100
