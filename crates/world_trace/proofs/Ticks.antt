-- The coins that a loop over the coins with standing exits finds are those with a deadline that a tick meets.
use Rattle.std.proofs.Common.{◌≡◌, ℕ, ◌+◌, ◌≤◌, ◌==◌, ◌&&◌, ◌||◌, not, Bool, true, false, if◌then◌else◌, List, [], ◌∷◌, map, filter, refl, ap, sym, ◌∙◌, arith}
use Rattle.std.specs.List.{list_any}
use Rattle.std.specs.Ordering.{nat_cmp}
use Rattle.std.specs.BTreeSet.{BTreeSet, contains}
use Rattle.std.proofs.lemmas.Bool.{and_right, or_from}
use Rattle.std.proofs.lemmas.Bool.Decides.{nat_tests}
use Rattle.plasma_tx.specs.declared.call.RootCall.{RootCall}
use Rattle.plasma_tx.specs.declared.views.ExitView.{ExitView}
use Rattle.plasma_tx.specs.Views.{now, Challenge, Exit, exits, exit_view, challenge_view, exits_of, has_exits, is_exiting}
use Rattle.plasma_tx.proofs.States.{is_at-nat}
use Rattle.plasma_tx.specs.declared.rules.TheConstants.{CHALLENGE_WINDOW, RESPONSE_WINDOW}
use Rattle.world_rules.specs.Events.{Joins}
use Rattle.world_rules.specs.Safety.{is_met, meets_challenge, meets_exit, meets_deadline}
use Rattle.coin_verdicts.specs.Facts.{has, AreThose}
use Rattle.world_trace.specs.Deadlines.{meets_challenge_view, meets_exit_view}

-- ---- a deadline, as a log shows exits

challenges-met : (before after : ℕ) (xs : List Challenge)
    → list_any (meets_challenge_view before after) (map challenge_view xs) ≡ list_any (meets_challenge before after) xs
challenges-met before after [] = refl
challenges-met before after (x ∷ xs) =
    ap (λ rest. meets_challenge before after x || rest) (challenges-met before after xs)

exit-met : (before after : ℕ) (x : Exit)
    → meets_exit_view before after (exit_view x) ≡ meets_exit before after x
exit-met before after x =
    ap (λ some. is_met before after (x.start + CHALLENGE_WINDOW) || some) (challenges-met before after x.challenges)

exits-met : (before after c : ℕ) (xs : List Exit)
    → list_any (meets_exit_view before after) (map exit_view (filter (λ x. x.coin == c) xs))
    ≡ list_any (λ x. (x.coin == c) && meets_exit before after x) xs
exits-met before after c [] = refl
exits-met before after c (x ∷ xs) = at (x.coin == c) (exits-met before after c xs)
  where
    at : (b : Bool)
        → list_any (meets_exit_view before after) (map exit_view (filter (λ y. y.coin == c) xs))
        ≡ list_any (λ y. (y.coin == c) && meets_exit before after y) xs
        → list_any (meets_exit_view before after)
        (map exit_view (if b then x ∷ filter (λ y. y.coin == c) xs else filter (λ y. y.coin == c) xs))
        ≡ ((b && meets_exit before after x) || list_any (λ y. (y.coin == c) && meets_exit before after y) xs)
    at true rest =
        ap (λ b. b || list_any (meets_exit_view before after) (map exit_view (filter (λ y. y.coin == c) xs)))
        (exit-met before after x)
        ∙ ap (λ some. meets_exit before after x || some) rest
    at false rest = rest

pub met_views : (log : List RootCall) (c time : ℕ)
    → list_any (meets_exit_view (now log) time) (exits_of log c) ≡ meets_deadline log c (Joins (RootCall.Tick time))
unfolding exits_of
met_views log c time = exits-met (now log) time c (exits log)

-- ---- a tick that doesn't move the clock on

late-met : (before after deadline : ℕ) → after ≤ before → is_met before after deadline ≡ false
late-met before after deadline late = grind (arith, nat_tests, late)

late-challenges : (before after : ℕ) (xs : List Challenge) → after ≤ before
    → list_any (meets_challenge before after) xs ≡ false
late-challenges before after [] late = refl
late-challenges before after (x ∷ xs) late =
    or_from (meets_challenge before after x) (list_any (meets_challenge before after) xs)
    (and_right (not x.answered) (is_met before after (x.at + RESPONSE_WINDOW))
    (late-met before after (x.at + RESPONSE_WINDOW) late))
    (late-challenges before after xs late)

late-exits : (before after c : ℕ) (xs : List Exit) → after ≤ before
    → list_any (λ x. (x.coin == c) && meets_exit before after x) xs ≡ false
late-exits before after c [] late = refl
late-exits before after c (x ∷ xs) late =
    or_from ((x.coin == c) && meets_exit before after x) (list_any (λ y. (y.coin == c) && meets_exit before after y) xs)
    (and_right (x.coin == c) (meets_exit before after x)
    (or_from (is_met before after (x.start + CHALLENGE_WINDOW)) (list_any (meets_challenge before after) x.challenges)
    (late-met before after (x.start + CHALLENGE_WINDOW) late) (late-challenges before after x.challenges late)))
    (late-exits before after c xs late)

pub late_meets : (log : List RootCall) (time : ℕ) → time ≤ now log
    → AreThose (λ c. meets_deadline log c (Joins (RootCall.Tick time))) []
late_meets log time late c = sym (late-exits (now log) time c (exits log) late)

-- ---- the loop

module _ (log : List RootCall) (time : ℕ) where
  abbrev meets : ℕ → Bool
  meets c = meets_deadline log c (Joins (RootCall.Tick time))

  -- the coins met, and of those left the ones with such a deadline, are all that have one
  abbrev pub AreMetBut : List ℕ → List ℕ → Type 0
  AreMetBut left met = (c : ℕ) → (has met c || (has left c && meets c)) ≡ meets c

  -- a coin without an exit has no such deadline
  met-of : (c : ℕ) (views : List ExitView) → list_any (meets_exit_view (now log) time) views ≡ meets c
      → meets c ≡ true → has_exits views ≡ true
  met-of c [] is met = is ∙ met
  met-of c (view ∷ views) is met = refl

  pub met_of_exiting : (coins : BTreeSet ℕ) → ((c : ℕ) → contains nat_cmp coins c ≡ is_exiting log c)
      → AreMetBut coins.keys []
  met_of_exiting coins exactly c = at (meets c) refl
    where
      at : (b : Bool) → meets c ≡ b → (has coins.keys c && b) ≡ b
      at true met =
          ap (λ b. b && true)
          ((λ i. list_any (λ coin. sym (is_at-nat c coin) i) coins.keys) ∙ exactly c
          ∙ met-of c (exits_of log c) (met_views log c time) met)
      at false missed = and_right (has coins.keys c) false refl
