-- What an account has, with what it has at stake, over the calls of a log.
use Rattle.money_laws.proofs.Basics.{◌≡◌, ◌≢◌, ℕ, ◌+◌, ◌*◌, ◌≤◌, ◌==◌, ◌&&◌, not, Bool, true, false, if◌then◌else◌, List, [], ◌∷◌, ◌++◌, Some, None, inl, inr, refl, ap, ◌∙◌, subst, cond, filter, arith, rules, is_some, eqb-true, eq-eqb, ne_eqb, and_from, or_parts, false_from_ne_true, common_steps}
use Rattle.money_laws.proofs.CoinWords.{EXIT_BOND, CHALLENGE_BOND, RawOpening, Shown, RootCall, Fund, Tick, Deposit, Commit, StartDeposit, StartSpend, After, Between, Before, Respond, Finish, is_challenged_at, Challenge, Exit, exits, exit_at, block_of, deposit_exit, spend_exit, challenge_at, with_challenge, with_answer, new_challenge, Rules, tests_by, rules_of, IsLegalLog, challenge_bonds, pays, takes, share_of, balance_of, accepted_calls_show, new_challenges_are_open, responds_answer, challenged-once, Has, has-contains}
use Rattle.money_laws.proofs.WorldWords.{IsDigest, Event, Joins, log_of, IsLegal, found-has, challenge-has, legal-log, legal-table, bonds_at, sum_over, staked, first_or, if_to, IsKeeper, stands_first, wins, wins_in, OnlyGuards, OnlyGuarded, LegalGuardingCostsNothing, GuardingCostsNothing, LegalGuardiansHaveTheirMoney, GuardiansHaveTheirMoney, legal-to}
use Rattle.plasma_tx.proofs.MoneyKept.{balances_suffice}
use Rattle.plasma_tx.proofs.Weights.{by_share, share_of-is, exit_weight, exit_weight-is, exit_weight-challenged, exit_weight-answered}
use Rattle.money_laws.proofs.SumsOver.{begun, ended, changed}
use Rattle.money_laws.proofs.Ends.{ends_pay_bonds}
use Rattle.money_laws.proofs.Tips.{tips_are_not_answered}

-- those of the challenges that are open
abbrev open_challenges_in : List Challenge → List Challenge
open_challenges_in challenges = filter (λ challenge. not challenge.answered) challenges

-- one where it is so
abbrev pub one_for : Bool → ℕ
one_for b = if b then 1 else 0

-- what an account has, with what it has at stake
abbrev pub worth : List RootCall → ℕ → ℕ
worth log account = balance_of log account + staked log account

to-no : (account paid amount : ℕ) → (paid == account) ≡ false → if_to account paid amount ≡ 0
to-no account paid amount other = ap (λ b. if b then amount else 0) other

-- ---- the bonds at an exit

bonds-weigh : (account : ℕ) (x : Exit)
    → if_to account x.account EXIT_BOND + bonds_at account x ≡ exit_weight (by_share account) x
bonds-weigh account x = grind (arith, common_steps, share_of-is, exit_weight-is, by_share)

bonds-challenged : (account : ℕ) (x : Exit) (new : Challenge)
    → is_some (challenge_at new.block x.challenges) ≡ false → new.answered ≡ false
    → bonds_at account (with_challenge new x) ≡ bonds_at account x + if_to account new.by CHALLENGE_BOND
bonds-challenged account x new none unanswered =
    let pushed : Exit = record x { challenges = x.challenges ++ new ∷ [] } in
    let is : with_challenge new x ≡ pushed = ap (λ (b : Bool). if b then x else pushed) none in
    let heavier = exit_weight-challenged (by_share account) x new none unanswered in
    let after = bonds-weigh account pushed in
    let before = bonds-weigh account x in
    let same = ap (λ (y : Exit). exit_weight (by_share account) y) is in
    let moved = ap (λ (y : Exit). bonds_at account y) is in
    omega (arith, heavier, after, before, same, moved)

bonds-answered : (account : ℕ) (log : List RootCall) (c f challenged : ℕ) (x : Exit) (one : Challenge)
    → exit_at log c f ≡ Some x → challenge_at challenged x.challenges ≡ Some one → one.answered ≡ false
    → bonds_at account (with_answer challenged x) + if_to account one.by CHALLENGE_BOND ≡ bonds_at account x
bonds-answered account log c f challenged x one stands there is_open =
    let lighter = exit_weight-answered (by_share account) x challenged one
    (challenged-once log c f x stands challenged) there is_open in
    let after = bonds-weigh account (with_answer challenged x) in
    let before = bonds-weigh account x in
    omega (arith, lighter, after, before)

-- ---- one call

-- the worth is no less after the call, and 100 more where the account wins
abbrev pub Grows : ℕ → List RootCall → RootCall → Type 0
Grows account log call = worth log account + EXIT_BOND * one_for (wins log account call) ≤ worth (call ∷ log) account

first-gets : (account other : ℕ) (challenges : List Challenge)
    → EXIT_BOND * one_for (stands_first account challenges) ≤ if_to account (first_or other challenges) EXIT_BOND
first-gets account other challenges = grind (arith, common_steps)

mine-gets : (account by : ℕ) → EXIT_BOND * one_for (by == account) ≤ if_to account by EXIT_BOND
mine-gets account by = grind (arith, common_steps)

module _ (account : ℕ) (log : List RootCall) where
  own-name : (k f : ℕ) → ((k == k) && (f == f)) ≡ true
  own-name k f = and_from (k == k) (f == f) (eq-eqb k k refl) (eq-eqb f f refl)

  grows-After : (by k f : ℕ) (spend : RawOpening) (x : Exit) → exit_at log k f ≡ Some x
      → Grows account log (After by k f spend)
  unfolding exits
  grows-After by k f spend x stands = grind (arith, common_steps, ends_pay_bonds, own-name, ended, mine-gets)

  grows-Between : (by k f : ℕ) (spend : RawOpening) (x : Exit) → exit_at log k f ≡ Some x
      → Grows account log (Between by k f spend)
  unfolding exits
  grows-Between by k f spend x stands = grind (arith, common_steps, ends_pay_bonds, own-name, ended, mine-gets)

  grows-Finish : (by k f : ℕ) (x : Exit) → exit_at log k f ≡ Some x → Grows account log (Finish by k f)
  unfolding exits
  grows-Finish by k f x stands = grind (arith, common_steps, ends_pay_bonds, own-name, ended, first-gets)

  grows-Before : (by k f : ℕ) (shown : Shown) (x : Exit) → exit_at log k f ≡ Some x
      → is_some (challenge_at (block_of shown) x.challenges) ≡ false
      → (new_challenge log by k f shown).answered ≡ false
      → if_to account by CHALLENGE_BOND ≤ balance_of log account → Grows account log (Before by k f shown)
  unfolding exits balance_of pays takes share_of
  grows-Before by k f shown x stands none unanswered covered =
      let new : Challenge = new_challenge log by k f shown in
      let more = bonds-challenged account x new none unanswered in
      let change = changed (bonds_at account) log k f (with_challenge new) x stands in
      omega (arith, more, change, covered)

  grows-Respond : (by k f challenged : ℕ) (spend : RawOpening) (x : Exit) (one : Challenge)
      → exit_at log k f ≡ Some x → challenge_at challenged x.challenges ≡ Some one → one.answered ≡ false
      → (one.by == account) ≡ false → Grows account log (Respond by k f challenged spend)
  unfolding exits balance_of pays takes share_of
  grows-Respond by k f challenged spend x one stands there is_open other =
      let less = bonds-answered account log k f challenged x one stands there is_open in
      let change = changed (bonds_at account) log k f (with_answer challenged) x stands in
      let none = to-no account one.by CHALLENGE_BOND other in
      omega (arith, less, change, none)

  grows-StartDeposit : (by k block : ℕ) → exit_at log k block ≡ None → (by == account) ≡ false
      → Grows account log (StartDeposit by k block)
  unfolding exits balance_of pays takes share_of
  grows-StartDeposit by k block none other =
      let new = begun (bonds_at account) log (deposit_exit log by k block) none in
      let free = to-no account by EXIT_BOND other in
      omega (arith, new, free)

  grows-StartSpend : (by k : ℕ) (parent : Shown) (exit : RawOpening) → exit_at log k exit.block ≡ None
      → (by == account) ≡ false → Grows account log (StartSpend by k parent exit)
  unfolding exits balance_of pays takes share_of
  grows-StartSpend by k parent exit none other =
      let new = begun (bonds_at account) log (spend_exit log by k parent exit) none in
      let free = to-no account by EXIT_BOND other in
      omega (arith, new, free)

  grows-Deposit : (by amount : ℕ) (key : List ℕ) → (by == account) ≡ false → Grows account log (Deposit by amount key)
  unfolding exits balance_of pays takes share_of
  grows-Deposit by amount key other =
      let free = to-no account by amount other in omega (arith, free)

  grows-Fund : (by amount : ℕ) → Grows account log (Fund by amount)
  unfolding exits balance_of pays takes share_of
  grows-Fund by amount = omega arith

  grows-Tick : (time : ℕ) → Grows account log (Tick time)
  unfolding exits balance_of pays takes share_of
  grows-Tick time = omega arith

  grows-Commit : (by : ℕ) (root : List ℕ) → Grows account log (Commit by root)
  unfolding exits balance_of pays takes share_of
  grows-Commit by root = omega arith

before-covered : (rules : Rules) (account : ℕ) (log : List RootCall) (by k f : ℕ) (shown : Shown)
    → IsLegalLog rules (Before by k f shown ∷ log) → if_to account by CHALLENGE_BOND ≤ balance_of log account
unfolding takes share_of
before-covered rules account log by k f shown legal =
    omega (arith, balances_suffice rules log (Before by k f shown) account legal)

module _ (dig : List ℕ → List ℕ) (digest : IsDigest dig) (rules : Rules) (account : ℕ) where
  grows-call : (events : List Event) (call : RootCall) → IsLegal (tests_by dig) rules (Joins call ∷ events)
      → IsLegalLog rules (call ∷ log_of events) → OnlyGuards dig rules.tag (Joins call) events account
      → Grows account (log_of events) call
  unfolding IsLegal
  grows-call events (Fund by amount) legal whole only = grows-Fund account (log_of events) by amount
  grows-call events (Tick time) legal whole only = grows-Tick account (log_of events) time
  grows-call events (Commit by root) legal whole only = grows-Commit account (log_of events) by root
  grows-call events (Deposit by amount key) legal whole only =
      grows-Deposit account (log_of events) by amount key (or_parts (by == account) false only.no_start).0
  grows-call events (StartDeposit by k block) legal whole only =
      let s = accepted_calls_show (tests_by dig) rules (log_of events) (StartDeposit by k block) legal.0.accepted in
      grows-StartDeposit account (log_of events) by k block s.none_stands only.no_start
  grows-call events (StartSpend by k parent exit) legal whole only =
      let s = accepted_calls_show (tests_by dig) rules (log_of events) (StartSpend by k parent exit)
      legal.0.accepted in
      grows-StartSpend account (log_of events) by k parent exit s.none_stands only.no_start
  grows-call events (After by k f spend) legal whole only =
      let s = accepted_calls_show (tests_by dig) rules (log_of events) (After by k f spend) legal.0.accepted in
      grows-After account (log_of events) by k f spend s.exit s.stands
  grows-call events (Between by k f spend) legal whole only =
      let s = accepted_calls_show (tests_by dig) rules (log_of events) (Between by k f spend) legal.0.accepted in
      grows-Between account (log_of events) by k f spend s.exit s.stands
  grows-call events (Finish by k f) legal whole only =
      let s = accepted_calls_show (tests_by dig) rules (log_of events) (Finish by k f) legal.0.accepted in
      grows-Finish account (log_of events) by k f s.exit s.stands
  grows-call events (Before by k f shown) legal whole only =
      let log : List RootCall = log_of events in
      let s = accepted_calls_show (tests_by dig) rules log (Before by k f shown) legal.0.accepted in
      let none : is_some (challenge_at (block_of shown) s.exit.challenges) ≡ false = ap is_some s.none_there in
      let answers = responds_answer rules log
      (legal-table (tests_by dig) rules log (legal-log (tests_by dig) rules events legal.1)) in
      let unanswered : (new_challenge log by k f shown).answered ≡ false =
      new_challenges_are_open log k f (block_of shown) answers (ap is_some s.stands)
      (ap (is_challenged_at (block_of shown)) s.stands ∙ none) in
      grows-Before account log by k f shown s.exit s.stands none unanswered
      (before-covered rules account log by k f shown whole)
  grows-call events (Respond by k f challenged spend) legal whole only =
      let log : List RootCall = log_of events in
      let call : RootCall = Respond by k f challenged spend in
      let s = accepted_calls_show (tests_by dig) rules log call legal.0.accepted in
      let place = found-has log k f s.exit s.stands in
      let h = challenge-has challenged s.exit.challenges s.challenge s.there in
      grows-Respond account log by k f challenged spend s.exit s.challenge s.stands s.there s.open_still
      (false_from_ne_true (s.challenge.by == account) (λ mine.
      let keeper = only.for_keepers s.exit s.challenge (has-contains (exits log) s.exit place.0)
      (has-contains s.exit.challenges s.challenge h.0) (eqb-true s.challenge.by account mine) s.open_still in
      tips_are_not_answered dig rules events keeper.0 k challenged by f spend digest legal
      (subst (λ n. IsKeeper dig rules.tag (Joins call) events keeper.0 n challenged) place.1
      (subst (λ n. IsKeeper dig rules.tag (Joins call) events keeper.0 s.exit.coin n) h.1 keeper.1))))

  grows-event : (event : Event) (later earlier : List Event) → IsLegal (tests_by dig) rules (event ∷ later ++ earlier)
      → OnlyGuards dig rules.tag event (later ++ earlier) account
      → worth (log_of (later ++ earlier)) account + EXIT_BOND * wins_in (event ∷ later) earlier account
      ≤ worth (log_of (event ∷ later ++ earlier)) account + EXIT_BOND * wins_in later earlier account
  unfolding log_of wins_in
  grows-event event later earlier legal only = grind (arith, common_steps, legal-table, legal-log, grows-call)

  grows : (later earlier : List Event) → IsLegal (tests_by dig) rules (later ++ earlier)
      → OnlyGuarded dig rules.tag later earlier account
      → worth (log_of earlier) account + EXIT_BOND * wins_in later earlier account
      ≤ worth (log_of (later ++ earlier)) account
  unfolding OnlyGuarded IsLegal wins_in
  grows [] earlier legal only = omega arith
  grows (event ∷ later) earlier legal only =
      grind (arith, common_steps, grows later earlier legal.1 only.1, grows-event)

pub guarding_costs_nothing : LegalGuardingCostsNothing
guarding_costs_nothing dig rules later earlier account digest legal only =
    grows dig digest rules account later earlier legal only

pub run_guarding_costs_nothing : GuardingCostsNothing
run_guarding_costs_nothing dig lines run world rest later earlier account is split =
    guarding_costs_nothing dig (rules_of world.chain) later earlier account is.digest
    (legal-to dig lines run world rest (later ++ earlier) is split)

-- ---- who has no challenge left

-- none of the account's challenges is among these
none-of : (account : ℕ) (challenges : List Challenge)
    → ((challenge : Challenge) → Has challenges challenge → challenge.by ≢ account)
    → share_of account (challenge_bonds (open_challenges_in challenges)) ≡ 0
unfolding share_of
none-of account [] apart = refl
none-of account (first ∷ rest) apart =
    (elim (first.answered) as (λ b. share_of account (challenge_bonds (cond (not b)
    (first ∷ open_challenges_in rest) (open_challenges_in rest))) ≡ 0) [
      | true ↦ none-of account rest (λ ch there. apart ch (inr there))
      | false ↦
          let off = to-no account first.by CHALLENGE_BOND (ne_eqb first.by account (apart first (inl refl))) in
          omega (arith, off, none-of account rest (λ ch there. apart ch (inr there)))
    ])

none-staked : (account : ℕ) (xs : List Exit)
    → ((exit : Exit) (challenge : Challenge) → Has xs exit → Has exit.challenges challenge → challenge.by ≢ account)
    → sum_over (bonds_at account) xs ≡ 0
unfolding sum_over
none-staked account [] apart = refl
none-staked account (x ∷ xs) apart =
    omega (
      arith,
      none-of account x.challenges (λ ch there. apart x ch (inl refl) there),
      none-staked account xs (λ y ch there has. apart y ch (inr there) has),
    )

pub guardians_have_their_money : LegalGuardiansHaveTheirMoney
guardians_have_their_money dig rules later earlier account digest legal only none =
    let log : List RootCall = log_of (later ++ earlier) in
    omega (
      arith,
      guarding_costs_nothing dig rules later earlier account digest legal only,
      none-staked account (exits log) (λ x ch there has.
          none x ch (has-contains (exits log) x there) (has-contains x.challenges ch has)),
    )

pub run_guardians_have_their_money : GuardiansHaveTheirMoney
run_guardians_have_their_money dig lines run world rest later earlier account is split =
    guardians_have_their_money dig (rules_of world.chain) later earlier account is.digest
    (legal-to dig lines run world rest (later ++ earlier) is split)
