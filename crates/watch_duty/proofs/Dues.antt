-- Which calls are due for an exit.
use Rattle.watch_duty.proofs.Words.{◌≡◌, ◌⊎◌, ℕ, ◌+◌, ◌<◌, ◌==◌, Bool, true, false, if◌then◌else◌, List, [], Option, Some, None, inl, inr, refl, arith, nat_lt, unwrap_or, flat_map, option_map, option_map_or, option_or, and_parts, eqb-true, ltb-true, leb-false, not-true, common_steps, Link, Links, RootCall, After, Between, Before, Respond, ChallengeView, ExitView, is_challenged, tip_of, now, CHALLENGE_WINDOW, RESPONSE_WINDOW, link_after, tip_shown, within, old_owner, second_spend, planted_parent, answer, answers, due_for}
use Rattle.watch_duty.proofs.Members.{Has, has-flat_map}

-- a call of a rule or of the rules after it
has-rule : (rule rest : Option (List RootCall)) (call : RootCall) → Has (unwrap_or (option_or rule rest) []) call
    → Has (unwrap_or rule []) call ⊎ Has (unwrap_or rest []) call
has-rule None rest call h = inr h
has-rule (Some calls) rest call h = inl h

module _ (log : List RootCall) (account : ℕ) (links : Links) where
  -- the call is due for the exit
  pub data IsDue (exit : ExitView) (call : RootCall) : Type 0 where
    DueAfter : (link : Link) → link_after links exit.block ≡ Some link → now log < exit.start + CHALLENGE_WINDOW
        → After account links.coin exit.block link.opening ≡ call → IsDue exit call
    DueBetween : (link : Link) → tip_of links < exit.block → link_after links exit.parent ≡ Some link
        → now log < exit.start + CHALLENGE_WINDOW → Between account links.coin exit.block link.opening ≡ call
        → IsDue exit call
    DueBefore : tip_of links < exit.parent → is_challenged (tip_of links) exit.challenges ≡ false
        → now log < exit.start + CHALLENGE_WINDOW → Before account links.coin exit.block (tip_shown links) ≡ call
        → IsDue exit call
    DueRespond : (challenge : ChallengeView) (link : Link) → exit.block ≡ tip_of links → Has exit.challenges challenge
        → challenge.answered ≡ false → link_after links challenge.block ≡ Some link
        → now log < challenge.at + RESPONSE_WINDOW
        → Respond account links.coin exit.block challenge.block link.opening ≡ call → IsDue exit call

  within-has : (time window : ℕ) (one call : RootCall) → Has (within log time window one) call
      → (now log < time + window) × (one ≡ call)
  within-has time window one call h = grind (arith, common_steps, leb-false) steps 20000

  mapped : (found : Option Link) (time window : ℕ) (make : Link → RootCall) (call : RootCall)
      → Has (unwrap_or (option_map (λ link. within log time window (make link)) found) []) call
      → (link : Link) × (found ≡ Some link) × (now log < time + window) × (make link ≡ call)
  mapped found time window make call h = grind (arith, common_steps, within-has) steps 20000

  module _ (exit : ExitView) (call : RootCall) where
    old_owner-due : Has (unwrap_or (old_owner log account links exit) []) call → IsDue exit call
    old_owner-due h =
        let r = mapped (link_after links exit.block) exit.start CHALLENGE_WINDOW
        (λ link. After account links.coin exit.block link.opening) call h in
        DueAfter r.0 r.1 r.2 r.3

    second_spend-due : Has (unwrap_or (second_spend log account links exit) []) call → IsDue exit call
    second_spend-due h =
        (elim (nat_lt (tip_of links) exit.block) as (λ b. nat_lt (tip_of links) exit.block ≡ b
        → Has (unwrap_or (if b then option_map
        (λ link. within log exit.start CHALLENGE_WINDOW (Between account links.coin exit.block link.opening))
        (link_after links exit.parent) else None) []) call → IsDue exit call) [
          | true ↦ λ later there.
              let r = mapped (link_after links exit.parent) exit.start CHALLENGE_WINDOW
              (λ link. Between account links.coin exit.block link.opening) call there in
              DueBetween r.0 (ltb-true (tip_of links) exit.block later) r.1 r.2 r.3
          | false ↦ λ other none. absurd none
        ]) refl h

    planted_parent-due : Has (unwrap_or (planted_parent log account links exit) []) call → IsDue exit call
    planted_parent-due h = grind (arith, common_steps, and_parts, within-has, ltb-true, not-true) steps 20000

    answer-due : (challenge : ChallengeView) → exit.block ≡ tip_of links → Has exit.challenges challenge
        → (found : Option Link) → link_after links challenge.block ≡ found → (answered : Bool)
        → challenge.answered ≡ answered
        → Has (if answered then [] else option_map_or
        (λ link. within log challenge.at RESPONSE_WINDOW
        (Respond account links.coin exit.block challenge.block link.opening)) found []) call → IsDue exit call
    answer-due challenge at has found link_is true answered h = absurd h
    answer-due challenge at has None link_is false answered h = absurd h
    answer-due challenge at has (Some link) link_is false answered h =
        let r = within-has challenge.at RESPONSE_WINDOW
        (Respond account links.coin exit.block challenge.block link.opening) call h in
        DueRespond challenge link at has answered link_is r.0 r.1

    answers-due : Has (unwrap_or (answers log account links exit) []) call → IsDue exit call
    answers-due h =
        (elim (exit.block == tip_of links) as (λ b. (exit.block == tip_of links) ≡ b
        → Has (unwrap_or (if b then Some (flat_map (answer log account links exit) exit.challenges) else None) []) call
        → IsDue exit call) [
          | true ↦ λ at there.
              let r = has-flat_map (answer log account links exit) exit.challenges call there in
              answer-due r.0 (eqb-true exit.block (tip_of links) at) r.1 (link_after links r.0.block) refl
              r.0.answered refl r.2
          | false ↦ λ other none. absurd none
        ]) refl h

    pub due_for-due : Has (due_for log account links exit) call → IsDue exit call
    due_for-due h =
        let first = old_owner log account links exit in
        let second = second_spend log account links exit in
        let third = planted_parent log account links exit in
        let fourth = answers log account links exit in
        elim (has-rule first (option_or second (option_or third fourth)) call h) [
          | inl one ↦ old_owner-due one
          | inr rest ↦ elim (has-rule second (option_or third fourth) call rest) [
            | inl two ↦ second_spend-due two
            | inr more ↦ elim (has-rule third fourth call more) [
              | inl three ↦ planted_parent-due three
              | inr four ↦ answers-due four
            ]
          ]
        ]
