-- The worked list in which the stranger's friend challenges the exit first.
use Rattle.money_laws.proofs.Basics.{◌≡◌, ◌||◌, true, false, List, [], ◌∷◌, ◌++◌, inl, inr, refl, ap, subst, arith, Contains}
use Rattle.money_laws.proofs.CoinWords.{Tick, Spend, Dropped, now, blocks, coins, block_at, coin_at, responses, owner_of_opening, Challenge, Exit, exits, exit_at, is_withdrawn, answer_to, is_accepted, pays, takes, share_of, balance_of, Has, contains-has}
use Rattle.money_laws.proofs.WorldWords.{Event, Joins, log_of, wallet_owner, accepted, bound_by, taken_back, not_taken, openings_of, seen, is_forged, IsLegal, keeps, IsKeeper, wins_in, OnlyGuarded, tag, rules, transfer, stranger, unsigned, digest, shows, planted, hidden, taken, began, attacked, before_one, before_by_friend, tests, finish, covering, covered, AttackCostsNothing}
use Rattle.money_laws.proofs.Shows.{unsigned_not}
use Rattle.money_laws.proofs.Taken.{before-taken}
use Rattle.money_laws.proofs.Began.{IsMine, began-mine, began-40, legal-call, attacked-legal, attacked-honest, hidden-worked, forges-not, owner-shown, clear-hidden, whole-by}
use Rattle.money_laws.proofs.WorkedGuard.{keeper, standing, made, kept-all, kept-at}

-- ---- the calls are accepted

friend-accepted : is_accepted (answer_to tests rules (log_of (attacked 40)) before_by_friend) ≡ true
unfolding log_of shows unsigned balance_of pays takes share_of now blocks coins block_at coin_at responses exits exit_at
    is_withdrawn
friend-accepted =
    before-taken tests rules (log_of (attacked 40)) 40 1 5 (Spend (shows 3 hidden)) (standing []) stranger refl
    (owner-shown (log_of (attacked 40)) 3 hidden hidden-worked refl) refl refl refl refl

second-accepted : is_accepted (answer_to tests rules (before_by_friend ∷ log_of (attacked 40)) before_one) ≡ true
unfolding log_of shows answer_to balance_of pays takes share_of now blocks coins block_at coin_at responses exits
    exit_at is_withdrawn
second-accepted = refl

tick-accepted : is_accepted (answer_to tests rules (before_one ∷ before_by_friend ∷ log_of (attacked 40)) (Tick 907200))
    ≡ true
unfolding log_of answer_to now
tick-accepted = refl

finish-dropped : answer_to tests rules (log_of covered) finish ≡ Dropped
unfolding log_of shows answer_to now blocks coins block_at coin_at responses exits exit_at is_withdrawn
finish-dropped = refl

mine : IsMine (attacked 40)
unfolding wallet_owner
mine w owner is = began-mine 40 w owner is

covered-legal : IsLegal tests rules covered
unfolding IsLegal log_of wallet_owner
covered-legal = (
  legal-call (Joins before_one ∷ Joins before_by_friend ∷ attacked 40) (Tick 907200) (λ w owner is. mine w owner is)
      tick-accepted refl,
  (
    legal-call (Joins before_by_friend ∷ attacked 40) before_one (λ w owner is. mine w owner is) second-accepted
        refl,
    (legal-call (attacked 40) before_by_friend mine friend-accepted refl, attacked-legal 40 began-40),
  ),
)

all-legal : IsLegal tests rules (covering ++ began 40)
unfolding IsLegal log_of wallet_owner
all-legal = (
  legal-call covered finish (λ w owner is. mine w owner is) (ap is_accepted finish-dropped) refl,
  covered-legal,
)

-- ---- the coin is kept, and nothing is shown

covered-honest : is_forged tag (Joins before_by_friend ∷ attacked 40) 1 1 ≡ false
unfolding is_forged openings_of wallet_owner bound_by unsigned
covered-honest =
    λ i. (forges-not [] 3 hidden hidden-worked (unsigned_not (transfer 1 201 stranger)) i || false)
    || attacked-honest 40 i

-- the friend's challenge, and the wallet's after it
friends : Challenge
friends = record { block = 3; owner = owner_of_opening (shows 3 hidden); by = 40; at = 0; answered = false }

keeper-tick : IsKeeper digest tag (Joins (Tick 907200)) (Joins before_one ∷ Joins before_by_friend ∷ attacked 40) 1 1 1
unfolding keeps log_of wallet_owner accepted bound_by taken_back not_taken blocks coins coin_at seen openings_of
    is_forged
keeper-tick =
    keeper (Joins (Tick 907200)) (Joins before_one ∷ Joins before_by_friend ∷ attacked 40) refl
    (whole-by (Joins (Tick 907200) ∷ Joins before_one ∷ Joins before_by_friend ∷ attacked 40) 1
    (shows 3 hidden ∷ shows 4 (planted 1) ∷ shows 5 (taken 1 4) ∷ []) refl clear-hidden)
    covered-honest

keeper-finish : IsKeeper digest tag (Joins finish) covered 1 1 1
unfolding keeps log_of wallet_owner accepted bound_by taken_back not_taken blocks coins coin_at seen openings_of
    is_forged
keeper-finish =
    keeper (Joins finish) covered refl
    (whole-by (Joins finish ∷ covered) 1 (shows 3 hidden ∷ shows 4 (planted 1) ∷ shows 5 (taken 1 4) ∷ []) refl
    clear-hidden)
    covered-honest

exits-first : exits (log_of (attacked 40)) ≡ standing [] ∷ []
unfolding log_of shows now blocks coins block_at coin_at responses exits exit_at is_withdrawn
exits-first = refl

exits-friend : exits (log_of (Joins before_by_friend ∷ attacked 40)) ≡ standing (friends ∷ []) ∷ []
unfolding friends log_of shows now blocks coins block_at coin_at responses exits exit_at is_withdrawn
exits-friend = refl

exits-both : exits (log_of (Joins before_one ∷ Joins before_by_friend ∷ attacked 40))
    ≡ standing (friends ∷ made ∷ []) ∷ []
unfolding friends log_of shows now blocks coins block_at coin_at responses exits exit_at is_withdrawn
exits-both = refl

exits-covered : exits (log_of covered) ≡ standing (friends ∷ made ∷ []) ∷ []
unfolding friends log_of shows now blocks coins block_at coin_at responses exits exit_at is_withdrawn
exits-covered = refl

none-yet : exits (log_of (began 40)) ≡ []
unfolding log_of exits
none-yet = refl

-- the friend's isn't the wallet's
not-his : (ch : Challenge) → friends ≡ ch → ch.by ≡ 21 → ⊥
unfolding friends
not-his ch is by = absurd (omega (arith, ap (λ (x : Challenge). x.by) is, by))

both-made : (event : Event) (events : List Event) → IsKeeper digest tag event events 1 1 1
    → (ch : Challenge) → Has (friends ∷ made ∷ []) ch → ch.by ≡ 21 → IsKeeper digest tag event events 1 1 ch.block
both-made event events kept ch (inl is) by = absurd (not-his ch is by)
both-made event events kept ch (inr (inl is)) by = kept-at event events made ch is refl kept
both-made event events kept ch (inr (inr none)) by = absurd none

friend-made : (event : Event) (events : List Event) (ch : Challenge) → Has (friends ∷ []) ch → ch.by ≡ 21
    → IsKeeper digest tag event events 1 1 ch.block
friend-made event events ch (inl is) by = absurd (not-his ch is by)
friend-made event events ch (inr none) by = absurd none

only-covered : OnlyGuarded digest tag covering (began 40) 21
unfolding OnlyGuarded
only-covered = (
  record {
    no_start = refl;
    for_keepers =
        kept-all (Joins finish) covered (friends ∷ made ∷ []) exits-covered
        (both-made (Joins finish) covered keeper-finish);
  },
  (
    record {
      no_start = refl;
      for_keepers =
          kept-all (Joins (Tick 907200)) (Joins before_one ∷ Joins before_by_friend ∷ attacked 40)
          (friends ∷ made ∷ []) exits-both
          (both-made (Joins (Tick 907200)) (Joins before_one ∷ Joins before_by_friend ∷ attacked 40) keeper-tick);
    },
    (
      record {
        no_start = refl;
        for_keepers =
            kept-all (Joins before_one) (Joins before_by_friend ∷ attacked 40) (friends ∷ []) exits-friend
            (friend-made (Joins before_one) (Joins before_by_friend ∷ attacked 40));
      },
      (
        record {
          no_start = refl;
          for_keepers = kept-all (Joins before_by_friend) (attacked 40) [] exits-first (λ ch none by. absurd none);
        },
        (
          record {
            no_start = refl;
            for_keepers = λ exit challenge there has by is_open.
                absurd (contains-has [] exit (subst (λ (xs : List Exit). Contains xs exit) none-yet there));
          },
          tt,
        ),
      ),
    ),
  ),
)

pub attack_costs_nothing : AttackCostsNothing
unfolding log_of shows wins_in balance_of pays takes share_of now blocks coins block_at coin_at responses exits exit_at
    is_withdrawn
attack_costs_nothing = record {
  legal = all-legal;
  only = only-covered;
  dropped = finish-dropped;
  had = refl;
  has = refl;
  wins = refl;
  guardian_had = refl;
  guardian_open = refl;
  guardian_has = refl;
}
