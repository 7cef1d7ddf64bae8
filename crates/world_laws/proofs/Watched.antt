-- What each event keeps of the exits of a held coin.
use Rattle.world_laws.proofs.Basics.{◌≡◌, ◌≢◌, ℕ, ◌+◌, ◌<◌, ◌≤◌, ◌==◌, true, false, if◌then◌else◌, List, [], ◌∷◌, ◌++◌, map, Some, refl, ◌∙◌, subst, arith, rules, is_some, is_none, cases_lt, true≢false, common_steps, all-from, all-answered}
use Rattle.world_laws.proofs.CoinWords.{Owner, RawOpening, SignedTx, RootCall, Challenge, Exit, challenge_at, with_challenge, with_answer, with_answer_at, CHALLENGE_WINDOW, RESPONSE_WINDOW, Tests, Rules, ShowsTx, all-append, transfer_of, Has, all-has}
use Rattle.world_laws.proofs.WorldWords.{Event, log_of, wallet_owner, bound_by, signed_away_by, seen, forges_one, is_mine, IsWatched}
use Rattle.world_laws.proofs.HeldCoins.{IsOpened, HasOneLeaf, IsShownAt, shown_at-grow, IsParted, SignsBy, Holding, line_bound, unspent, HeldAt, shown_same, end_shown}

-- ---- challenges

pub is_none-push : (block : ℕ) (chs : List Challenge) (new : Challenge) → is_none (challenge_at block chs) ≡ false
    → is_none (challenge_at block (chs ++ new ∷ [])) ≡ false
is_none-push block [] new was = absurd (true≢false was)
is_none-push block (first ∷ rest) new was =
    (elim (first.block == block) as (λ b. is_none (if b then Some first else challenge_at block rest) ≡ false
    → is_none (if b then Some first else challenge_at block (rest ++ new ∷ [])) ≡ false) [
      | true ↦ λ is. is
      | false ↦ λ is. is_none-push block rest new is
    ]) was

pub is_none-answered : (block other : ℕ) (chs : List Challenge)
    → is_none (challenge_at block (map (with_answer_at other) chs)) ≡ is_none (challenge_at block chs)
is_none-answered block other [] = refl
is_none-answered block other (first ∷ rest) = grind (arith, common_steps, is_none-answered block other rest)

-- ---- an accepted spend

pub record IsSpend (tests : Tests) (rules : Rules) (log : List RootCall) (c : ℕ) (o : RawOpening) (parent : ℕ)
    (owner : Owner) : Type 0 where
  pub tx : SignedTx
  pub tx_is : transfer_of rules c o ≡ Some tx
  pub opened : IsOpened tests log c o
  pub parent_is : tx.body.parent ≡ parent
  pub above : parent < o.block
  pub signed : tests.is_signed tx owner ≡ true

pub is_spend : (tests : Tests) (rules : Rules) (log : List RootCall) (c : ℕ) (o : RawOpening) (tx : SignedTx)
    (parent : ℕ) (owner : Owner) → ShowsTx tests rules log c o tx → tx.body.parent ≡ parent → parent < o.block
    → tests.is_signed tx owner ≡ true → IsSpend tests rules log c o parent owner
is_spend tests rules log c o tx parent owner shown child above signed = grind (arith, common_steps)

-- ---- an event on a held coin

-- what is known at an event on a coin that is held before it, whose openings are accepted ones with the event's
pub record AtEvent (tests : Tests) (rules : Rules) (events : List Event) (w c e : ℕ) (more : List RawOpening)
    : Type 0 where
  pub hold : Holding events w c e
  pub held : HeldAt tests rules events w c e hold.me
  pub one_before : HasOneLeaf tests (log_of events) c (seen events c)
  pub one : HasOneLeaf tests (log_of events) c more
  pub has : (o : RawOpening) → Has (seen events c) o → Has more o
  pub parts : IsParted tests (log_of events) more c (bound_by events w) (signed_away_by events w)

module _ (tests : Tests) (rules : Rules) (signs : SignsBy tests) (events : List Event) (w c e : ℕ)
    (more : List RawOpening) (at : AtEvent tests rules events w c e more) where
  pub seen_more : (n : ℕ) (owner : Owner)
      → IsShownAt tests rules (log_of events) (seen events c) c at.held.made n owner
      → IsShownAt tests rules (log_of events) more c at.held.made n owner
  seen_more n owner s = shown_at-grow tests rules (log_of events) c (seen events c) more at.held.made at.has n owner s

  pub tip_before : IsShownAt tests rules (log_of events) (seen events c) c at.held.made e at.hold.me
  tip_before =
      end_shown tests rules (log_of events) (seen events c) c at.held.made at.one_before e at.hold.me
      at.held.openings at.held.known

  -- whoever owns the block e is the holder
  pub owner_is : (n : ℕ) (owner : Owner) → IsShownAt tests rules (log_of events) more c at.held.made n owner → n ≡ e
      → owner ≡ at.hold.me
  owner_is n owner shown is = grind (arith, common_steps, shown_same, seen_more, tip_before)

  -- no opening of the event's call spends the tip
  pub tip_unspent : (openings : List RawOpening)
      → forges_one rules.tag (wallet_owner events w) (bound_by events w) c openings ≡ false → (o : RawOpening)
      → Has openings o → Has more o → (parent : ℕ) (owner : Owner)
      → IsSpend tests rules (log_of events) c o parent owner → parent ≡ e → owner ≡ at.hold.me → ⊥
  tip_unspent openings none o has seen_it parent owner spend at_tip mine =
      let off : forges_one rules.tag (Some at.hold.me) (bound_by events w) c openings ≡ false =
      subst (λ x. forges_one rules.tag x (bound_by events w) c openings ≡ false) at.hold.me_is none in
      let b = line_bound rules c at.hold.me (bound_by events w) openings off o spend.tx has spend.tx_is
      (signs spend.tx at.hold.me (subst (λ x. tests.is_signed spend.tx x ≡ true) mine spend.signed)) in
      unspent tests rules (log_of events) more c e (bound_by events w) (signed_away_by events w) at.one
      at.hold.not_away at.parts o spend.tx seen_it spend.opened (subst (λ n. n < o.block) at_tip spend.above)
      spend.tx_is (spend.parent_is ∙ at_tip) b

-- ---- what one accepted call keeps

module _ (c : ℕ) (me : Owner) (e time : ℕ) where
  pub new-watched : (x : Exit) → x.parent ≢ e → (is_mine me x ≡ true → x.block ≡ e) → x.start ≡ time
      → x.challenges ≡ [] → IsWatched me e time x
  new-watched x apart own begins none = grind (arith, common_steps, unspent)

  pub challenged-watched : (x : Exit) (new : Challenge) → is_some (challenge_at new.block x.challenges) ≡ false
      → new.answered ≡ false → new.at ≡ time → IsWatched me e time x → IsWatched me e time (with_challenge new x)
  challenged-watched x new none unanswered now_is w = grind (arith, common_steps, unspent, all-append, is_none-push)

  pub answered-watched : (x : Exit) (challenged : ℕ) → challenged ≢ e → IsWatched me e time x
      → IsWatched me e time (with_answer challenged x)
  answered-watched x challenged apart w =
      grind (arith, common_steps, unspent, all-answered, is_none-answered, true≢false)

  -- a tick past what is still
  pub ticked-watched : (after : ℕ) (x : Exit) → IsWatched me e time x
      → (is_mine me x ≡ false → time < x.start + CHALLENGE_WINDOW → x.start + CHALLENGE_WINDOW ≤ after
      → is_none (challenge_at e x.challenges) ≡ false)
      → (is_mine me x ≡ true → x.block ≡ e → (ch : Challenge) → Has x.challenges ch → ch.answered ≡ false
      → time < ch.at + RESPONSE_WINDOW → ch.at + RESPONSE_WINDOW ≤ after → ⊥)
      → IsWatched me e after x
  ticked-watched after x w others mine = grind (arith, common_steps, unspent, cases_lt, all-from, all-has)
