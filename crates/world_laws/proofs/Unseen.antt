-- What an unseen tick is: it meets the end of a window of the held coin after which nobody looked.
use Rattle.world_laws.proofs.Basics.{◌≡◌, ℕ, ◌+◌, ◌==◌, ◌&&◌, not, true, false, if◌then◌else◌, List, Option, Some, None, refl, list_any, option_map_or, eqb-true, and_parts, not-true, false≢true, any-some}
use Rattle.world_laws.proofs.CoinWords.{Owner, Tick, now, Challenge, Exit, exits, CHALLENGE_WINDOW, Has}
use Rattle.world_laws.proofs.WorldWords.{Event, Joins, log_of, wallet_owner, holds, is_met, meets_challenge, is_mine, exit_has_look, challenge_has_look, passes_unseen, goes_unseen}

-- a tick to this time ends a window after which nobody looked
pub data EndsUnseen (events : List Event) (w c e time : ℕ) : Type 0 where
  OfExit : (x : Exit) → Has (exits (log_of events)) x → x.coin ≡ c
      → is_met (now (log_of events)) time (x.start + CHALLENGE_WINDOW) ≡ true
      → exit_has_look events w c e x.block ≡ false → EndsUnseen events w c e time
  OfChallenge : (x : Exit) → Has (exits (log_of events)) x → x.coin ≡ c → x.block ≡ e → (ch : Challenge)
      → Has x.challenges ch → meets_challenge (now (log_of events)) time ch ≡ true
      → challenge_has_look events w c e ch.block ≡ false → EndsUnseen events w c e time

-- the event is such a tick, while the coin is held
pub record IsUnseen (events : List Event) (w c e : ℕ) (event : Event) : Type 0 where
  pub time : ℕ
  pub event_is : event ≡ Joins (Tick time)
  pub held : holds events w c e ≡ true
  pub ends : EndsUnseen events w c e time

module _ (events : List Event) (w c e : ℕ) where
  ends-unseen : (me : Owner) (time : ℕ) (x : Exit) → Has (exits (log_of events)) x → x.coin ≡ c
      → passes_unseen me events w c e time x ≡ true → EndsUnseen events w c e time
  ends-unseen me time x there c_is passes =
      (elim (is_mine me x) as (λ b. (if b then (x.block == e) && list_any
      (λ ch. meets_challenge (now (log_of events)) time ch && not (challenge_has_look events w c e ch.block))
      x.challenges
      else is_met (now (log_of events)) time (x.start + CHALLENGE_WINDOW)
      && not (exit_has_look events w c e x.block)) ≡ true → EndsUnseen events w c e time) [
        | true ↦ λ own.
            let parts = and_parts (x.block == e) (list_any
            (λ ch. meets_challenge (now (log_of events)) time ch && not (challenge_has_look events w c e ch.block))
            x.challenges) own in
            let r = any-some
            (λ (ch : Challenge).
            meets_challenge (now (log_of events)) time ch && not (challenge_has_look events w c e ch.block))
            x.challenges parts.1 in
            let both = and_parts (meets_challenge (now (log_of events)) time r.0)
            (not (challenge_has_look events w c e r.0.block)) r.2 in
            OfChallenge x there c_is (eqb-true x.block e parts.0) r.0 r.1 both.0 (not-true _ both.1)
        | false ↦ λ other.
            let both = and_parts (is_met (now (log_of events)) time (x.start + CHALLENGE_WINDOW))
            (not (exit_has_look events w c e x.block)) other in
            OfExit x there c_is both.0 (not-true _ both.1)
      ]) passes

  pub is_unseen : (event : Event) → goes_unseen events w c e event ≡ true → IsUnseen events w c e event
  is_unseen (Joins (Tick time)) unseen =
      let parts = and_parts (holds events w c e) (option_map_or
      (λ me. list_any (λ exit. (exit.coin == c) && passes_unseen me events w c e time exit) (exits (log_of events)))
      (wallet_owner events w) false) unseen in
      record {
        time = time;
        event_is = refl;
        held = parts.0;
        ends = by_owner (wallet_owner events w) parts.1;
      }
    where
      by_owner : (o : Option Owner) → option_map_or
          (λ me. list_any (λ exit. (exit.coin == c) && passes_unseen me events w c e time exit)
          (exits (log_of events))) o false ≡ true → EndsUnseen events w c e time
      by_owner None wrong = absurd (false≢true wrong)
      by_owner (Some me) some =
          let r = any-some
          (λ (exit : Exit). (exit.coin == c) && passes_unseen me events w c e time exit) (exits (log_of events)) some in
          let both = and_parts (r.0.coin == c) (passes_unseen me events w c e time r.0) r.2 in
          ends-unseen me time r.0 r.1 (eqb-true r.0.coin c both.0) both.1
  is_unseen event unseen = absurd (false≢true unseen)
