-- The worked lists in which the first exit is guarded.
use Rattle.money_laws.proofs.Basics.{◌≡◌, ◌⊎◌, ℕ, ◌==◌, true, false, if◌then◌else◌, List, [], ◌∷◌, ◌++◌, Option, Some, None, inl, inr, refl, sym, ap, ◌∙◌, subst, Contains, list_any, cases_Bool, eqb-true, and_parts, false≢true}
use Rattle.money_laws.proofs.CoinWords.{Owner, RootCall, Tick, CoinView, now, blocks, coins, block_at, coin_at, responses, owner_of_opening, Challenge, Exit, exits, exit_at, exits_of, is_withdrawn, answer_to, is_accepted, pays, takes, share_of, balance_of, links_in, next_link, Has, contains-has, has-contains}
use Rattle.money_laws.proofs.NodeWords.{due_for_kept}
use Rattle.money_laws.proofs.WorldWords.{Event, Joins, log_of, wallet_owner, accepted, bound_by, taken_back, not_taken, is_bundle, guarded_by, openings_of, seen, collides, is_forged, was_deposited, holds, Bare, IsGuarding, ShowsGuard, HasDue, LegalWatch, IsLegal, has_look, is_looked_after, holding, keeps, IsKeeper, wins_in, OnlyGuarded, me, tag, rules, digest, shows, planted, taken, attacked, before_one, tests, guarding_begins, challenged, finish, guarding, GuardingIsTight, IsGuarded}
use Rattle.coin_history.specs.declared.bundle.Bundle.{Bundle}
use Rattle.money_laws.proofs.Began.{IsMine, began-mine, began-40, legal-call, attacked-legal, attacked-honest, clear-one, whole-by}

-- ---- what a wallet guards

-- two deposits
abbrev pub one : CoinView
one = record { deposit = 1; amount = 5; owner = me }

abbrev pub two : CoinView
two = record { deposit = 2; amount = 5; owner = me }

-- a coin that was deposited to the wallet's owner is the first or the second, at its block
pub which : (owner : Owner) (c e : ℕ)
    → was_deposited owner e (if c == 2 then Some two else if c == 1 then Some one else None) ≡ true
    → ((c ≡ 1) × (e ≡ 1)) ⊎ ((c ≡ 2) × (e ≡ 2))
which owner c e is = elim (cases_Bool (c == 2)) [
  | inl second ↦
      let at : was_deposited owner e (Some two) ≡ true = sym (ap (λ b. was_deposited owner e
      (if b then Some two else if c == 1 then Some one else None)) second) ∙ is in
      inr (eqb-true c 2 second, sym (eqb-true 2 e (and_parts _ _ at).0))
  | inr other ↦
      let rest : was_deposited owner e (if c == 1 then Some one else None) ≡ true =
      sym (ap (λ b. was_deposited owner e
      (if b then Some two else if c == 1 then Some one else None)) other) ∙ is in
      elim (cases_Bool (c == 1)) [
        | inl first ↦
            let at : was_deposited owner e (Some one) ≡ true =
            sym (ap (λ b. was_deposited owner e (if b then Some one else None)) first) ∙ rest in
            inl (eqb-true c 1 first, sym (eqb-true 1 e (and_parts _ _ at).0))
        | inr none ↦
            absurd (false≢true (sym (ap (λ b. was_deposited owner e (if b then Some one else None)) none) ∙ rest))
      ]
]

abbrev pub bare : ℕ → Bundle
bare n = record { coin = n; tip = n; openings = [] }

-- the calls are all that is due for the two coins, and only that
pub watch-legal : (events : List Event) (calls : List RootCall) → wallet_owner events 1 ≡ Some me
    → accepted events 1 ≡ []
    → ((c : ℕ) → coin_at (log_of events) c ≡ (if c == 2 then Some two else if c == 1 then Some one else None))
    → ((call : RootCall) → Contains (due_for_kept tag (log_of events) 21 (bare 1)) call → Contains calls call)
    → ((call : RootCall) → Contains (due_for_kept tag (log_of events) 21 (bare 2)) call → Contains calls call)
    → ((call : RootCall) → Contains calls call
    → Contains (due_for_kept tag (log_of events) 21 (bare 1)) call
    ⊎ Contains (due_for_kept tag (log_of events) 21 (bare 2)) call)
    → LegalWatch rules events 1 calls
watch-legal events calls mine none coins_are first second only = record {
  account = 21;
  all = λ c e guards.
      let top = subst (λ (o : Option Owner). IsGuarding events 1 o c e) mine guards in
      let h = holding events 1 c e top.held in
      at c e (elim h.source [
        | inl made ↦ which h.me c e (sym (ap (was_deposited h.me e) (coins_are c)) ∙ made)
        | inr got ↦ absurd (false≢true (sym (ap (list_any (is_bundle c e)) none) ∙ got))
      ]);
  only = λ call there. elim (only call there) [
    | inl due ↦ record { bundle = bare 1; shows = shown 1 refl; due = due }
    | inr due ↦ record { bundle = bare 2; shows = shown 2 refl; due = due }
  ];
}
  where
    shown : (n : ℕ) → was_deposited me n (if n == 2 then Some two else if n == 1 then Some one else None) ≡ true
        → ShowsGuard events 1 (wallet_owner events 1) (bare n)
    shown n is =
        subst (λ (o : Option Owner). ShowsGuard events 1 o (bare n)) (sym mine)
        (Bare (ap (was_deposited me n) (coins_are n) ∙ is) refl)

    at : (c e : ℕ) → ((c ≡ 1) × (e ≡ 1)) ⊎ ((c ≡ 2) × (e ≡ 2)) → HasDue rules events 1 21 calls c e
    at c e (inl is) =
        record { bundle = bare 1; coin_is = sym is.0; tip_is = sym is.1; shows = shown 1 refl; due = first }
    at c e (inr is) =
        record { bundle = bare 2; coin_is = sym is.0; tip_is = sym is.1; shows = shown 2 refl; due = second }

-- the one exit stands: a Before is due for coin 1, and nothing for coin 2
due-one : due_for_kept tag (log_of (attacked 40)) 21 (bare 1) ≡ before_one ∷ []
unfolding log_of shows links_in next_link exits_of now blocks coins block_at coin_at responses exits exit_at
    is_withdrawn
due-one = refl

due-none : due_for_kept tag (log_of (attacked 40)) 21 (bare 2) ≡ []
unfolding log_of shows links_in next_link exits_of now blocks coins block_at coin_at responses exits exit_at
    is_withdrawn
due-none = refl

pub begins-legal : IsLegal tests rules guarding_begins
unfolding IsLegal log_of wallet_owner accepted coins coin_at blocks
begins-legal = (
  watch-legal (attacked 40) (before_one ∷ []) refl refl (λ c. refl)
      (λ call there. subst (λ (calls : List RootCall). Contains calls call) due-one there)
      (λ call there. absurd (contains-has [] call
      (subst (λ (calls : List RootCall). Contains calls call) due-none there)))
      (λ call there. inl (subst (λ (calls : List RootCall). Contains calls call) (sym due-one) there)),
  attacked-legal 40 began-40,
)

-- ---- guarding

begins-mine : IsMine guarding_begins
unfolding wallet_owner
begins-mine w owner is = began-mine 40 w owner is

before-accepted : is_accepted (answer_to tests rules (log_of guarding_begins) before_one) ≡ true
unfolding log_of shows answer_to balance_of pays takes share_of now blocks coins block_at coin_at responses exits
    exit_at is_withdrawn
before-accepted = refl

tick-accepted : is_accepted (answer_to tests rules (before_one ∷ log_of guarding_begins) (Tick 907200)) ≡ true
unfolding log_of answer_to now
tick-accepted = refl

finish-accepted : is_accepted (answer_to tests rules (log_of challenged) finish) ≡ true
unfolding log_of shows answer_to now blocks coins block_at coin_at responses exits exit_at is_withdrawn
finish-accepted = refl

challenged-legal : IsLegal tests rules challenged
unfolding IsLegal log_of wallet_owner
challenged-legal = (
  legal-call (Joins before_one ∷ guarding_begins) (Tick 907200) (λ w owner is. begins-mine w owner is)
      tick-accepted refl,
  (legal-call guarding_begins before_one begins-mine before-accepted refl, begins-legal),
)

guarded-legal : IsLegal tests rules (guarding ++ guarding_begins)
unfolding IsLegal log_of wallet_owner
guarded-legal = (
  legal-call challenged finish (λ w owner is. begins-mine w owner is) finish-accepted refl,
  challenged-legal,
)

-- ---- the coin is kept, and nothing is shown

pub keeper : (event : Event) (events : List Event) → keeps events 1 1 1 ≡ true
    → collides digest (event ∷ events) 1 ≡ false
    → is_forged tag (event ∷ events) 1 1 ≡ false → IsKeeper digest tag event events 1 1 1
keeper event events kept whole honest = record { kept = kept; whole = whole; honest = honest }

-- the first exit, with these challenges; and the wallet's Before
abbrev pub standing : List Challenge → Exit
standing challenges = record {
  coin = 1;
  block = 5;
  parent = 4;
  owner = owner_of_opening (shows 5 (taken 1 4));
  parent_owner = owner_of_opening (shows 4 (planted 1));
  account = 30;
  start = 0;
  challenges = challenges;
}

abbrev pub made : Challenge
made = record { block = 1; owner = me; by = 21; at = 0; answered = false }

-- the open challenges of account 21 are at block 1
pub kept-all : (event : Event) (events : List Event) (challenges : List Challenge)
    → exits (log_of events) ≡ standing challenges ∷ []
    → ((ch : Challenge) → Has challenges ch → ch.by ≡ 21 → IsKeeper digest tag event events 1 1 ch.block)
    → (exit : Exit) (challenge : Challenge) → Contains (exits (log_of events)) exit
    → Contains exit.challenges challenge → challenge.by ≡ 21 → challenge.answered ≡ false
    → (w : ℕ) × IsKeeper digest tag event events w exit.coin challenge.block
kept-all event events challenges are kept exit challenge there has mine is_open =
    by_exit (contains-has (standing challenges ∷ []) exit (subst (λ (xs : List Exit). Contains xs exit) are there))
  where
    by_exit : Has (standing challenges ∷ []) exit
        → (w : ℕ) × IsKeeper digest tag event events w exit.coin challenge.block
    by_exit (inl is) = (
      1,
      subst (λ (x : Exit). IsKeeper digest tag event events 1 x.coin challenge.block) is
          (kept challenge (contains-has challenges challenge
          (subst (λ (x : Exit). Contains x.challenges challenge) (sym is) has)) mine),
    )
    by_exit (inr none) = absurd none

-- at block 1 it is kept
pub kept-at : (event : Event) (events : List Event) (ch other : Challenge) → ch ≡ other → ch.block ≡ 1
    → IsKeeper digest tag event events 1 1 1 → IsKeeper digest tag event events 1 1 other.block
kept-at event events ch other is at keeps_it =
    subst (λ (n : Challenge). IsKeeper digest tag event events 1 1 n.block) is
    (subst (λ n. IsKeeper digest tag event events 1 1 n) (sym at) keeps_it)

keeper-tick : IsKeeper digest tag (Joins (Tick 907200)) (Joins before_one ∷ guarding_begins) 1 1 1
unfolding keeps log_of wallet_owner accepted bound_by taken_back not_taken blocks coins coin_at seen openings_of
    is_forged
keeper-tick =
    keeper (Joins (Tick 907200)) (Joins before_one ∷ guarding_begins) refl
    (whole-by (Joins (Tick 907200) ∷ Joins before_one ∷ guarding_begins) 1
    (shows 4 (planted 1) ∷ shows 5 (taken 1 4) ∷ []) refl clear-one)
    (attacked-honest 40)

keeper-finish : IsKeeper digest tag (Joins finish) challenged 1 1 1
unfolding keeps log_of wallet_owner accepted bound_by taken_back not_taken blocks coins coin_at seen openings_of
    is_forged
keeper-finish =
    keeper (Joins finish) challenged refl
    (whole-by (Joins finish ∷ challenged) 1 (shows 4 (planted 1) ∷ shows 5 (taken 1 4) ∷ []) refl clear-one)
    (attacked-honest 40)

exits-begin : exits (log_of guarding_begins) ≡ standing [] ∷ []
unfolding log_of shows now blocks coins block_at coin_at responses exits exit_at is_withdrawn
exits-begin = refl

exits-made : exits (log_of (Joins before_one ∷ guarding_begins)) ≡ standing (made ∷ []) ∷ []
unfolding log_of shows now blocks coins block_at coin_at responses exits exit_at is_withdrawn
exits-made = refl

exits-challenged : exits (log_of challenged) ≡ standing (made ∷ []) ∷ []
unfolding log_of shows now blocks coins block_at coin_at responses exits exit_at is_withdrawn
exits-challenged = refl

only-made : (event : Event) (events : List Event) → IsKeeper digest tag event events 1 1 1
    → (ch : Challenge) → Has (made ∷ []) ch → ch.by ≡ 21 → IsKeeper digest tag event events 1 1 ch.block
only-made event events kept ch (inl is) mine = kept-at event events made ch is refl kept
only-made event events kept ch (inr none) mine = absurd none

only-guarded : OnlyGuarded digest tag guarding guarding_begins 21
unfolding OnlyGuarded
only-guarded = (
  record {
    no_start = refl;
    for_keepers =
        kept-all (Joins finish) challenged (made ∷ []) exits-challenged
        (only-made (Joins finish) challenged keeper-finish);
  },
  (
    record {
      no_start = refl;
      for_keepers =
          kept-all (Joins (Tick 907200)) (Joins before_one ∷ guarding_begins) (made ∷ []) exits-made
          (only-made (Joins (Tick 907200)) (Joins before_one ∷ guarding_begins) keeper-tick);
    },
    (
      record {
        no_start = refl;
        for_keepers = kept-all (Joins before_one) guarding_begins [] exits-begin (λ ch none mine. absurd none);
      },
      tt,
    ),
  ),
)

pub guarding_is_tight : GuardingIsTight
unfolding log_of shows wins_in balance_of pays takes share_of now blocks coins block_at coin_at responses exits exit_at
    is_withdrawn
guarding_is_tight = record {
  legal = guarded-legal;
  only = only-guarded;
  none_left = refl;
  had = refl;
  wins = refl;
  has = refl;
}

looked : is_looked_after challenged 1 1 1 ≡ true
unfolding log_of shows is_looked_after has_look holds wallet_owner accepted bound_by taken_back not_taken guarded_by
    now blocks coins coin_at responses exits exit_at is_withdrawn
looked = refl

pub is_guarded_so : IsGuarded
unfolding log_of shows seen openings_of is_forged wallet_owner bound_by now blocks coins block_at coin_at responses
    exits exit_at is_withdrawn
is_guarded_so = record {
  legal = challenged-legal;
  kept = keeper-finish.kept;
  looked = looked;
  nothing = record {
    whole = whole-by challenged 1 (shows 4 (planted 1) ∷ shows 5 (taken 1 4) ∷ []) refl clear-one;
    honest = attacked-honest 40;
  };
  exit = standing (made ∷ []);
  challenge = made;
  stands = refl;
  has = has-contains (made ∷ []) made (inl refl);
  at_tip = refl;
  keeper = keeper-finish;
}
