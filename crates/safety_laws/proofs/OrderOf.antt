-- Each of the calls that are advised leaves the later ones what they are.
use Rattle.safety_laws.proofs.Basics.{◌≡◌, ℕ, ◌+◌, ◌<◌, ◌==◌, ◌&&◌, ◌||◌, not, Bool, true, false, if◌then◌else◌, List, [], ◌∷◌, ◌++◌, map, filter, Option, Some, None, inl, inr, refl, sym, ap, ◌∙◌, subst, arith, is_some, nat_lt, unwrap_or, option_map, option_map_or, option_or, flat_map, cases_eq, ne_eqb, eqb-true, eq-eqb, leb-true, and_parts, and_from, not_from_false, true≢false, common_steps}
use Rattle.safety_laws.proofs.CoinWords.{RawOpening, Link, RootCall, After, Between, Before, Respond, Finish, ChallengeView, ExitView, CHALLENGE_WINDOW, EXIT_PERIOD, is_challenged, last_spend, tip_of, is_over, now, Challenge, Exit, is_exit, exits, exit_at, challenge_view, exit_view, exits_of, exits-distinct, is_at, challenged-once, link_after, tip_shown, within, old_owner, second_spend, planted_parent, answer, answers, due_for, due_of, Has, has-cases, has-filter, has-map, has-flat_map, only-found, IsDue, due_for-due, Kept, standing, tip, before_by, again_for, shown_again, start_of, own_start, exit_in, instead, is_to_finish, has_challenged, is_own, finishes, due, timed, calls_of}
use Rattle.coin_safety.proofs.Again.{IsAgain, again_for-again, again-in}
use Rattle.coin_safety.proofs.Starting.{own-in}
use Rattle.safety_laws.proofs.StillTaken.{is_answer, Apart}
use Rattle.safety_laws.proofs.OnExits.{answered-challenged, MovesAt, MovesWithin, is_start, other-exit, of-other, apart-at, before-start}
use Rattle.safety_laws.proofs.Pairs.{Pairs, pairs-append, pairs-filter, pairs-once, pairs-same, pairs-map, pairs-flat}

module _ (log : List RootCall) (account : ℕ) (kept : Kept) where
  abbrev C : ℕ
  C = kept.links.coin

  -- ---- each call is on its exit

  due-moves : (v : ExitView) (call : RootCall) → IsDue log account kept.links v call
      → MovesWithin account v.block call
  due-moves v call h2 = grind (arith, common_steps)

  instead-moves : (block : ℕ) (call : RootCall) → MovesWithin account block call
      → MovesWithin account block (instead log C call)
  instead-moves block (Before by c f shown) m = grind (arith, common_steps)
  instead-moves block call m = m

  entered-moves : (v : ExitView) (call : RootCall) → Has (due_for log account kept.links v) call
      → MovesWithin account v.block (instead log C call)
  entered-moves v call h = instead-moves v.block call (due-moves v call (due_for-due log account kept.links v call h))

  -- ---- the exits

  blocks-apart : Pairs (λ (v u : ExitView). v.block ≡ u.block → ⊥) (standing log kept)
  unfolding exits_of
  blocks-apart =
      pairs-map (λ (x y : Exit). is_exit x.coin x.block y ≡ true → ⊥) (λ (v u : ExitView). v.block ≡ u.block → ⊥)
      exit_view (filter (λ (x : Exit). x.coin == C) (exits log))
      (λ x y h k never same. never (and_from (y.coin == x.coin) (y.block == x.block)
      (eq-eqb y.coin x.coin (eqb-true y.coin C (has-filter (λ (z : Exit). z.coin == C) (exits log) y k).1
      ∙ sym (eqb-true x.coin C (has-filter (λ (z : Exit). z.coin == C) (exits log) x h).1)))
      (eq-eqb y.block x.block (sym same))))
      (pairs-filter (λ (x y : Exit). is_exit x.coin x.block y ≡ true → ⊥) (λ (x : Exit). x.coin == C) (exits log)
      (pairs-once (λ (x y : Exit). is_exit x.coin x.block y)
      (λ x. and_from (x.coin == x.coin) (x.block == x.block) (eq-eqb x.coin x.coin refl) (eq-eqb x.block x.block refl))
      (exits log) (λ x. exits-distinct log x.coin x.block)))

  challenges-apart : (v : ExitView) → Has (standing log kept) v
      → Pairs (λ (a b : ChallengeView). a.block ≡ b.block → ⊥) v.challenges
  unfolding exits_of exit_at
  challenges-apart v h =
      let r = has-map exit_view (filter (λ (x : Exit). x.coin == C) (exits log)) v h in
      let k = has-filter (λ (x : Exit). x.coin == C) (exits log) r.0 r.1 in
      subst (λ (u : ExitView). Pairs (λ (a b : ChallengeView). a.block ≡ b.block → ⊥) u.challenges) r.2
      (pairs-map (λ (a b : Challenge). is_at a.block b ≡ true → ⊥) (λ (a b : ChallengeView). a.block ≡ b.block → ⊥)
      challenge_view r.0.challenges
      (λ a b ha hb never same. never (eq-eqb b.block a.block (sym same)))
      (pairs-once (λ (a b : Challenge). is_at a.block b) (λ a. eq-eqb a.block a.block refl) r.0.challenges
      (λ a. challenged-once log C r.0.block r.0
      (only-found (is_exit C r.0.block) (exits log) r.0 (exits-distinct log C r.0.block) k.0
      (and_from (r.0.coin == C) (r.0.block == r.0.block) k.1 (eq-eqb r.0.block r.0.block refl))) a.block)))

  -- ---- the calls of one exit

  abbrev Leaves : RootCall → RootCall → Type 0
  Leaves a b = Apart (instead log C a) (instead log C b)

  within-pairs : (time window : ℕ) (call : RootCall) → Pairs Leaves (within log time window call)
  within-pairs time window call = grind (arith, common_steps)

  link-pairs : (o : Option Link) (time window : ℕ) (make : Link → RootCall)
      → Pairs Leaves (option_map_or (λ (link : Link). within log time window (make link)) o [])
  link-pairs None time window make = tt
  link-pairs (Some link) time window make = within-pairs time window (make link)

  answer-pairs : (v : ExitView) (ch : ChallengeView) → Pairs Leaves (answer log account kept.links v ch)
  answer-pairs v ch = grind (arith, common_steps, link-pairs)

  within-is : (time window : ℕ) (one call : RootCall) → Has (within log time window one) call → one ≡ call
  within-is time window one call = grind (arith, common_steps)

  -- an answer is of its challenge
  answer-is : (v : ExitView) (ch : ChallengeView) (call : RootCall) → Has (answer log account kept.links v ch) call
      → (spend : RawOpening) × (Respond account C v.block ch.block spend ≡ call)
  answer-is v ch call = grind (arith, common_steps, within-is)

  answers-pairs : (v : ExitView) → Has (standing log kept) v
      → Pairs Leaves (flat_map (answer log account kept.links v) v.challenges)
  answers-pairs v there =
      pairs-flat (λ (a b : ChallengeView). a.block ≡ b.block → ⊥) Leaves (answer log account kept.links v) v.challenges
      (λ ch h. answer-pairs v ch)
      (λ x y hx hy apart a b ha hb.
      let p = answer-is v x a ha in
      let q = answer-is v y b hb in
      subst (λ (z : RootCall). Leaves z b) p.1 (subst (λ (z : RootCall). Leaves
      (Respond account C v.block x.block p.0) z) q.1
      (inr (not_from_false (x.block == y.block) (ne_eqb x.block y.block apart)))))
      (challenges-apart v there)

  first : (o rest : Option (List RootCall)) → Pairs Leaves (unwrap_or o []) → Pairs Leaves (unwrap_or rest [])
      → Pairs Leaves (unwrap_or (option_or o rest) [])
  first None rest one others = others
  first (Some calls) rest one others = one

  mapped-pairs : (o : Option Link) (time window : ℕ) (make : Link → RootCall)
      → Pairs Leaves (unwrap_or (option_map (λ (link : Link). within log time window (make link)) o) [])
  mapped-pairs None time window make = tt
  mapped-pairs (Some link) time window make = within-pairs time window (make link)

  due-pairs : (v : ExitView) → Has (standing log kept) v → Pairs Leaves (due_for log account kept.links v)
  due-pairs v there =
      first (old_owner log account kept.links v)
      (option_or (second_spend log account kept.links v)
      (option_or (planted_parent log account kept.links v) (answers log account kept.links v)))
      (mapped-pairs (link_after kept.links v.block) v.start CHALLENGE_WINDOW
      (λ link. After account C v.block link.opening))
      (first (second_spend log account kept.links v)
      (option_or (planted_parent log account kept.links v) (answers log account kept.links v))
      (elim (nat_lt (tip_of kept.links) v.block) as (λ (b : Bool). Pairs Leaves (unwrap_or (if b then option_map
      (λ (link : Link). within log v.start CHALLENGE_WINDOW (Between account C v.block link.opening))
      (link_after kept.links v.parent) else None) [])) [
        | true ↦ mapped-pairs (link_after kept.links v.parent) v.start CHALLENGE_WINDOW
            (λ link. Between account C v.block link.opening)
        | false ↦ tt
      ])
      (first (planted_parent log account kept.links v) (answers log account kept.links v)
      (elim (nat_lt (tip_of kept.links) v.parent && not (is_challenged (tip_of kept.links) v.challenges)) as
      (λ (b : Bool). Pairs Leaves (unwrap_or (if b then Some (within log v.start CHALLENGE_WINDOW
      (Before account C v.block (tip_shown kept.links))) else None) [])) [
        | true ↦ within-pairs v.start CHALLENGE_WINDOW (Before account C v.block (tip_shown kept.links))
        | false ↦ tt
      ])
      (elim (v.block == tip_of kept.links) as (λ (b : Bool). Pairs Leaves (unwrap_or (if b then Some
      (flat_map (answer log account kept.links v) v.challenges) else None) [])) [
        | true ↦ answers-pairs v there
        | false ↦ tt
      ])))

  -- ---- all of them

  dues-pairs : Pairs Leaves (due log account kept)
  dues-pairs =
      elim (is_some kept.sent) as (λ (b : Bool). Pairs Leaves (if b then [] else
      due_of log account (record { links = kept.links }))) [
        | true ↦ tt
        | false ↦ pairs-flat (λ (v u : ExitView). v.block ≡ u.block → ⊥) Leaves (due_for log account kept.links)
            (standing log kept) (λ v h. due-pairs v h)
            (λ v u hv hu apart a b ha hb. apart-at account v.block u.block (instead log C a) (instead log C b)
            (entered-moves v a ha).moves (entered-moves u b hb).moves (entered-moves u b hb).unstarted apart)
            blocks-apart
      ]

  -- ---- what is shown again

  again-moves : (v : ExitView) (call : RootCall) → IsAgain log account kept v call
      → MovesWithin account v.block (instead log C call)
  again-moves v call a =
      instead-moves v.block call (subst (MovesWithin account v.block) a.same
      (record { moves = record { move = refl; at = refl; by = refl }; unstarted = refl; unfinished = refl }))

  again-pairs : Pairs Leaves (shown_again log account kept)
  again-pairs =
      pairs-flat (λ (v u : ExitView). v.block ≡ u.block → ⊥) Leaves (again_for log account kept) (standing log kept)
      (λ v h. one-again v)
      (λ v u hv hu apart a b ha hb. apart-at account v.block u.block (instead log C a) (instead log C b)
      (again-moves v a (again_for-again log account kept v a ha)).moves
      (again-moves u b (again_for-again log account kept u b hb)).moves
      (again-moves u b (again_for-again log account kept u b hb)).unstarted apart) blocks-apart
    where
      by-spend : (v : ExitView) (o : Option RawOpening)
          → Pairs Leaves (option_map_or (before_by log account C v) o [])
      by-spend v None = tt
      by-spend v (Some spend) = grind (arith, common_steps, within-pairs)

      one-again : (v : ExitView) → Pairs Leaves (again_for log account kept v)
      one-again v = grind (arith, common_steps)

  pub due-in : (call : RootCall) → Has (due log account kept) call
      → (v : ExitView) × Has (standing log kept) v × Has (due_for log account kept.links v) call
  due-in call = grind (arith, common_steps, has-flat_map)

  pub finish-in : (call : RootCall) → Has (finishes log account kept) call
      → (v : ExitView) × Has (standing log kept) v × (is_to_finish log account kept v ≡ true)
      × (Finish account C v.block ≡ call)
  finish-in call h = grind (arith, common_steps, has-map, has-filter)

  finish-pairs : Pairs Apart (finishes log account kept)
  finish-pairs =
      pairs-map (λ (v u : ExitView). v.block ≡ u.block → ⊥) Apart (λ (v : ExitView). Finish account C v.block)
      (filter (is_to_finish log account kept) (standing log kept))
      (λ v u hv hu apart. inl (other-exit C v.block C u.block apart))
      (pairs-filter (λ (v u : ExitView). v.block ≡ u.block → ⊥) (is_to_finish log account kept) (standing log kept)
      blocks-apart)

  -- what is due for an exit that is to be finished is an answer
  ended-answer : (v : ExitView) (call : RootCall) → IsDue log account kept.links v call
      → is_over log v.start EXIT_PERIOD ≡ true → is_answer (instead log C call) ≡ true
  ended-answer v call h2 over = grind (arith, common_steps, leb-true, is_answer)

  -- what is timed, of its exit: for one that is to be finished it is an answer
  timed-in : (call : RootCall) → Has (timed log account kept) call
      → (v : ExitView) × Has (standing log kept) v × MovesWithin account v.block (instead log C call)
      × (is_over log v.start EXIT_PERIOD ≡ true → is_answer (instead log C call) ≡ true)
  timed-in call h =
      elim (has-cases (due log account kept) (shown_again log account kept) call h) [
        | inl own ↦ grind (arith, common_steps, due-in, due_for-due, entered-moves, ended-answer)
        | inr again ↦
            let r = again-in log account kept call again in (
              r.0,
              r.1,
              again-moves r.0 call r.2,
              λ over. absurd (omega (arith, r.2.early, leb-true (r.0.start + EXIT_PERIOD) (now log) over)),
            )
      ]

  across : (a b : RootCall) → Has (map (instead log C) (timed log account kept)) a
      → Has (finishes log account kept) b → Apart a b
  across a b ha hb =
      let m = has-map (instead log C) (timed log account kept) a ha in
      let d = timed-in m.0 m.1 in
      let f = finish-in b hb in
      subst (λ (z : RootCall). Apart z b) m.2 (subst (Apart (instead log C m.0)) f.3
      (elim (cases_eq d.0.block f.0.block) [
        | inr apart ↦ apart-at account d.0.block f.0.block (instead log C m.0) (Finish account C f.0.block)
            d.2.moves (record { move = refl; at = refl; by = tt }) refl apart
        | inl same ↦
            let one = pairs-same (λ (v : ExitView). v.block) (standing log kept) blocks-apart d.0 f.0 d.1 f.1 same in
            inr (d.3
            (ap (λ (v : ExitView). is_over log v.start EXIT_PERIOD) one
            ∙ (and_parts (is_over log f.0.start EXIT_PERIOD)
            (has_challenged account f.0 || is_own kept f.0) f.2).0))
      ]))

  -- ---- the own start

  abbrev Start : RootCall
  Start = start_of account (tip kept) kept.links

  -- it is at the tip, where no exit stands
  record IsOwn (call : RootCall) : Type 0 where
    moves : MovesAt account (tip kept) call
    starts : is_start call ≡ true
    free : (v : ExitView) → Has (standing log kept) v → v.block ≡ tip kept → ⊥

  start-is : (at_link : (link : Link) → last_spend kept.links ≡ Some link → link.opening.block ≡ tip kept)
      → MovesAt account (tip kept) Start × (is_start Start ≡ true)
  start-is at_link = grind (arith, common_steps, is_start)

  missed : (vs : List ExitView) (block : ℕ) → exit_in vs block ≡ None → (v : ExitView) → Has vs v → v.block ≡ block
      → ⊥
  missed [] block none v h at = h
  missed (u ∷ us) block none v h at =
      (elim (u.block == block) as (λ (b : Bool). (u.block == block) ≡ b
      → (if b then Some u else exit_in us block) ≡ None → ⊥) [
        | true ↦ λ own wrong. absurd (cc wrong)
        | false ↦ λ other rest. elim h [
          | inl same ↦ true≢false (sym (eq-eqb u.block block (ap (λ (w : ExitView). w.block) same ∙ at)) ∙ other)
          | inr deeper ↦ missed us block rest v deeper at
        ]
      ]) refl none

  own-is : (at_link : (link : Link) → last_spend kept.links ≡ Some link → link.opening.block ≡ tip kept)
      (call : RootCall) → Has (own_start log account kept) call → IsOwn call
  own-is at_link call h =
      let own = own-in log account kept call h in
      let is = start-is at_link in
      record {
        moves = subst (MovesAt account (tip kept)) own.1 is.0;
        starts = ap is_start (sym own.1) ∙ is.1;
        free = missed (standing log kept) (tip kept) own.0.unstarted;
      }

  own-pairs : Pairs Apart (own_start log account kept)
  own-pairs = grind (arith, common_steps)

  -- ---- where blocks are after their parents, and the links end at the tip

  module _ (after_parent : (v : ExitView) → Has (standing log kept) v → tip kept < v.parent → v.parent < v.block)
      (ended : (b : ℕ) → tip kept < b → link_after kept.links b ≡ None)
      (at_link : (link : Link) → last_spend kept.links ≡ Some link → link.opening.block ≡ tip kept) where
    -- nothing is due for an exit where something is shown again
    not-both : (v : ExitView) (a b : RootCall) → Has (standing log kept) v → IsDue log account kept.links v a
        → IsAgain log account kept v b → ⊥
    not-both v a b there h4 again = grind (arith, common_steps, true≢false, answered-challenged)

    across-again : (a b : RootCall) → Has (due log account kept) a → Has (shown_again log account kept) b → Leaves a b
    across-again a b ha hb =
        let d = due-in a ha in
        let r = again-in log account kept b hb in
        elim (cases_eq d.0.block r.0.block) [
          | inr apart ↦ apart-at account d.0.block r.0.block (instead log C a) (instead log C b)
              (entered-moves d.0 a d.2).moves (again-moves r.0 b r.2).moves (again-moves r.0 b r.2).unstarted apart
          | inl same ↦
              let one = pairs-same (λ (v : ExitView). v.block) (standing log kept) blocks-apart d.0 r.0 d.1 r.1 same in
              absurd (not-both r.0 a b r.1 (subst (λ (v : ExitView). IsDue log account kept.links v a) one
              (due_for-due log account kept.links d.0 a d.2)) r.2)
        ]

    timed-pairs : Pairs Leaves (timed log account kept)
    timed-pairs =
        pairs-append Leaves (due log account kept) (shown_again log account kept) dues-pairs again-pairs across-again

    pub calls-pairs : Pairs Apart (calls_of log account kept)
    calls-pairs =
        let calls : List RootCall = map (instead log C) (timed log account kept) in
        pairs-append Apart (calls ++ own_start log account kept) (finishes log account kept)
        (pairs-append Apart calls (own_start log account kept)
        (pairs-map Leaves Apart (instead log C) (timed log account kept) (λ x y hx hy leaves. leaves) timed-pairs)
        own-pairs
        (λ a b ha hb.
        let m = has-map (instead log C) (timed log account kept) a ha in
        let d = timed-in m.0 m.1 in
        let o = own-is at_link b hb in
        subst (λ (z : RootCall). Apart z b) m.2 (before-start account d.0.block (tip kept) (instead log C m.0) b
        d.2.moves d.2.unfinished o.moves o.starts (o.free d.0 d.1))))
        finish-pairs
        (λ a b ha hb. elim (has-cases calls (own_start log account kept) a ha) [
          | inl first ↦ across a b first hb
          | inr start ↦ grind (arith, common_steps, own-is, finish-in, of-other)
        ])

    pub calls-move : (call : RootCall) → Has (calls_of log account kept) call
        → (block : ℕ) × MovesAt account block call
    calls-move call h =
        elim (has-cases (map (instead log C) (timed log account kept) ++ own_start log account kept)
        (finishes log account kept) call h) [
          | inl front ↦ elim (has-cases (map (instead log C) (timed log account kept)) (own_start log account kept) call
              front) [
                | inl first ↦ grind (arith, common_steps, has-map, first, timed-in)
                | inr start ↦ (tip kept, (own-is at_link call start).moves)
              ]
          | inr last ↦
              let f = finish-in call last in
              (f.0.block, subst (MovesAt account f.0.block) f.3 (record { move = refl; at = refl; by = tt }))
        ]
