-- The worked list in which two coins are attacked.
use Rattle.money_laws.proofs.Basics.{◌≡◌, ◌⊎◌, ℕ, true, false, List, [], ◌∷◌, inl, inr, refl, sym, subst, arith, Contains}
use Rattle.money_laws.proofs.CoinWords.{RootCall, now, blocks, coins, block_at, coin_at, responses, exits, exit_at, exits_of, is_withdrawn, answer_to, is_accepted, pays, takes, share_of, balance_of, links_in, next_link, Has, contains-has, has-contains}
use Rattle.money_laws.proofs.NodeWords.{due_for_kept}
use Rattle.money_laws.proofs.WorldWords.{Event, Joins, log_of, wallet_owner, accepted, openings_of, seen, collides, IsLegal, fresh_offers, sum_over, reserve_of, AreApart, AreAccepted, with_calls, AreOnOffer, tag, rules, digest, shows, planted, taken, began, exit_two, attacked, before_one, before_two, tests, tips, IsAttacked, ReserveIsTight}
use Rattle.money_laws.specs.Worked.{watched}
use Rattle.money_laws.proofs.Began.{digests, began-mine, began-80, began-79, are_taken, legal-call, exit-taken, attacked-legal, clear-one, clear-two, whole-by}
use Rattle.money_laws.proofs.WorkedGuard.{two, bare, watch-legal}

two-taken : (left : ℕ) → is_accepted (answer_to tests rules (log_of (attacked left)) exit_two) ≡ true
unfolding log_of shows now blocks coins block_at coin_at responses exits exit_at is_withdrawn balance_of pays takes
    share_of
two-taken left =
    exit-taken (log_of (attacked left)) 2 6 7 two (omega arith) (omega arith) refl refl refl refl refl refl refl

abbrev both : ℕ → List Event
both left = Joins exit_two ∷ attacked left

both-legal : (left : ℕ) → are_taken (log_of (began left)) ≡ true → IsLegal tests rules (both left)
unfolding IsLegal wallet_owner
both-legal left all = (
  legal-call (attacked left) exit_two (λ w owner is. began-mine left w owner is) (two-taken left) refl,
  attacked-legal left all,
)

due-one : (left : ℕ) → due_for_kept tag (log_of (both left)) 21 (bare 1) ≡ before_one ∷ []
unfolding log_of shows links_in next_link exits_of now blocks coins block_at coin_at responses exits exit_at
    is_withdrawn
due-one left = refl

due-two : (left : ℕ) → due_for_kept tag (log_of (both left)) 21 (bare 2) ≡ before_two ∷ []
unfolding log_of shows links_in next_link exits_of now blocks coins block_at coin_at responses exits exit_at
    is_withdrawn
due-two left = refl

abbrev offers : List RootCall
offers = before_one ∷ before_two ∷ []

either : (call : RootCall) → Has offers call → Contains (before_one ∷ []) call ⊎ Contains (before_two ∷ []) call
either call (inl is) = inl (has-contains (before_one ∷ []) call (inl is))
either call (inr there) = inr (has-contains (before_two ∷ []) call there)

first-of : (call : RootCall) → Has (before_one ∷ []) call → Has offers call
first-of call (inl is) = inl is
first-of call (inr none) = absurd none

watched-legal : (left : ℕ) → are_taken (log_of (began left)) ≡ true → IsLegal tests rules (watched left)
unfolding IsLegal log_of wallet_owner accepted coins coin_at blocks
watched-legal left all = (
  watch-legal (both left) offers refl refl (λ c. refl)
      (λ call there. has-contains offers call (first-of call (contains-has (before_one ∷ []) call
      (subst (λ (calls : List RootCall). Contains calls call) (due-one left) there))))
      (λ call there. has-contains offers call (inr (contains-has (before_two ∷ []) call
      (subst (λ (calls : List RootCall). Contains calls call) (due-two left) there))))
      (λ call there. elim (either call (contains-has offers call there)) [
        | inl is ↦ inl (subst (λ (calls : List RootCall). Contains calls call) (sym (due-one left)) is)
        | inr is ↦ inr (subst (λ (calls : List RootCall). Contains calls call) (sym (due-two left)) is)
      ]),
  both-legal left all,
)

whole-one : (left : ℕ) → collides digest (watched left) 1 ≡ false
unfolding seen openings_of
whole-one left = whole-by (watched left) 1 (shows 4 (planted 1) ∷ shows 5 (taken 1 4) ∷ []) refl clear-one

whole-two : (left : ℕ) → collides digest (watched left) 2 ≡ false
unfolding seen openings_of
whole-two left = whole-by (watched left) 2 (shows 6 (planted 2) ∷ shows 7 (taken 2 6) ∷ []) refl clear-two

offered : (left : ℕ) → AreOnOffer digest (watched left) 21 tips offers
unfolding AreOnOffer fresh_offers
offered left = (
  inl (record {
    at_tip = refl;
    node = 1;
    offered = has-contains offers before_one (inl refl);
    whole = whole-one left;
    once = refl;
  }),
  (
    inl (record {
      at_tip = refl;
      node = 1;
      offered = has-contains offers before_two (inr (inl refl));
      whole = whole-two left;
      once = refl;
    }),
    tt,
  ),
)

reserved : (left : ℕ) → reserve_of (log_of (watched left)) tips ≡ 80
unfolding reserve_of sum_over log_of shows now blocks coins block_at coin_at responses exits exit_at is_withdrawn
reserved left = refl

is-attacked : (left : ℕ) → are_taken (log_of (began left)) ≡ true → balance_of (log_of (watched left)) 21 ≡ left
    → IsAttacked left
is-attacked left all has =
    record { legal = watched-legal left all; on_offer = offered left; reserve = reserved left; has = has }

has-80 : balance_of (log_of (watched 80)) 21 ≡ 80
unfolding log_of balance_of pays takes share_of exits exit_at
has-80 = refl

has-79 : balance_of (log_of (watched 79)) 21 ≡ 79
unfolding log_of balance_of pays takes share_of exits exit_at
has-79 = refl

pub reserve_is_tight : ReserveIsTight
unfolding AreApart AreAccepted with_calls reserve_of sum_over log_of shows answer_to balance_of pays takes share_of now
    blocks coins block_at coin_at responses exits exit_at is_withdrawn
reserve_is_tight = record {
  digested = digests;
  apart = (refl, (refl, tt));
  with_it = is-attacked 80 began-80 has-80;
  accepted = (refl, (refl, tt));
  none_due = refl;
  with_less = is-attacked 79 began-79 has-79;
  refused = refl;
}
