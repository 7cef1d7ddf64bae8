-- Each word tells what it says.
use Rattle.coin_safety.proofs.Words.{◌≡◌, ℕ, ◌+◌, ◌-◌, ◌<◌, ◌≤◌, ◌==◌, ◌&&◌, ◌||◌, not, Bool, true, false, if◌then◌else◌, List, [], ◌∷◌, ◌++◌, map, Option, Some, None, inl, inr, refl, sym, ap, ◌∙◌, subst, arith, is_some, nat_lt, nat_le, unwrap_or, Contains, list_any, option_map, option_or, and_parts, and_from, eqb-true, eq-eqb, ltb-true, ltb-false, leb-true, leb-false, true≢false, not-true, RootCall, Finish, ExitView, RESPONSE_WINDOW, EXIT_PERIOD, now, Exit, exit_at, has_no_open_challenge, some_same, due_for, Has, has-contains, contains-has, has-left, has-right, Kept, Sent, Payment, later, least, standing, tip, holder, exit_in, may_leave, is_planted, start_of, own_start, finishes, instead, due, shown_again, timed, calls_of, missing, is_strange, away, sent_word, left_leaf, left_word, next_line, starter, paid_by, payment, paid_word, first_end, come, late_word, stale_word, end_of_call, due_by, at_once, act_by, act_word, leaving_word, safe_word, IsHere, ends, AreAhead, NothingIsDue, IsToLeave, IsActBy, IsFresh, IsPaidOut, IsFirst, IsAway, Tells, WordsTell}
use Rattle.coin_safety.specs.declared.word.Word.{Word}
use Rattle.coin_safety.specs.declared.word.Word.TheVariants.{Act, Sent as IsSent, Leaving, Paid, Gone, Late, Frozen, Stale}
use Rattle.coin_safety.proofs.Advised.{due-unsent}
use Rattle.coin_safety.proofs.Found.{any-found, none-any, found-has, missed, front-none, back-none, each-none, least-none, least-has, least-le}
use Rattle.coin_safety.proofs.Viewed.{paid-withdrawn}

-- ---- rules in order

-- what holds of the word of the first rule that speaks
first-rule : (one rest : Option Word) (last : Word) (P : Word → Type 0) → ((w : Word) → one ≡ Some w → P w)
    → (one ≡ None → P (unwrap_or rest last)) → P (unwrap_or (option_or one rest) last)
first-rule None rest last P speaks silent = silent refl
first-rule (Some w) rest last P speaks silent = speaks w refl

-- a mapped value
mapped : {X : Type 0} (f : X → Word) (o : Option X) (w : Word) → option_map f o ≡ Some w
    → (x : X) × (o ≡ Some x) × (f x ≡ w)
mapped f None w is = absurd (cc is)
mapped f (Some x) w is = (x, refl, some_same (f x) w is)

unmapped : {X : Type 0} (f : X → Word) (o : Option X) → option_map f o ≡ None → o ≡ None
unmapped f None is = refl
unmapped f (Some x) is = absurd (cc is)

-- neither of two
or-none : {X : Type 0} (one other : Option X) → option_or one other ≡ None → (one ≡ None) × (other ≡ None)
or-none None other is = (refl, is)
or-none (Some x) other is = absurd (cc is)

-- an end that has come, and one that hasn't
come-is : (clock : ℕ) (end : Option ℕ) (time : ℕ) → come clock end ≡ Some time → (end ≡ Some time) × (time ≤ clock)
come-is clock None time is = absurd (cc is)
come-is clock (Some t) time is =
    (elim (nat_le t clock) as (λ b. nat_le t clock ≡ b → (if b then Some t else None) ≡ Some time
    → (Some t ≡ Some time) × (time ≤ clock)) [
      | true ↦ λ le same. (same, omega (arith, leb-true t clock le, some_same t time same))
      | false ↦ λ gt wrong. absurd (cc wrong)
    ]) refl is

module _ (log : List RootCall) (account clock : ℕ) (kept : Kept) where
  abbrev c : ℕ
  c = kept.links.coin

  -- where no end has come, each is ahead
  ahead : (time : ℕ) → come time (first_end log kept) ≡ None → AreAhead log time kept
  ahead time none end is =
      let h : Has (ends log kept) end = contains-has (ends log kept) end is in
      (elim (first_end log kept) as (λ o. first_end log kept ≡ o → come time o ≡ None → time < end) [
        | None ↦ λ empty _. absurd (subst (λ l. Has l end) (least-none (ends log kept) empty) h)
        | Some first ↦ λ some not_come. (elim (nat_le first time) as (λ b. nat_le first time ≡ b
            → (if b then Some first else None) ≡ None → time < end) [
              | true ↦ λ le wrong. absurd (cc wrong)
              | false ↦ λ gt _. omega (arith, leb-false first time gt, least-le (ends log kept) first end some h)
            ]) refl not_come
      ]) refl none

  away-tells : (leaf : ℕ) → IsAway log account clock kept leaf → Tells log account clock kept (away log kept leaf)
  away-tells leaf is =
      (elim (list_any (is_strange kept) (standing log kept)) as (λ b.
      list_any (is_strange kept) (standing log kept) ≡ b
      → Tells log account clock kept (if b then Frozen else IsSent leaf)) [
        | true ↦ λ strange.
            let found = any-found (is_strange kept) (standing log kept) strange in (
              (leaf, is),
              (
                found.0,
                has-contains (standing log kept) found.0 found.1,
                λ e. true≢false (sym (eq-eqb found.0.parent (tip kept) e) ∙ not-true _ found.2),
              ),
            )
        | false ↦ λ none. (
          is,
          λ exit there.
              eqb-true exit.parent (tip kept)
              (not-false (exit.parent == tip kept) (none-any (is_strange kept) (standing log kept) exit none
              (contains-has (standing log kept) exit there))),
        )
      ]) refl
    where
      not-false : (b : Bool) → not b ≡ false → b ≡ true
      not-false true e = refl
      not-false false e = absurd (true≢false e)

  sent-tells : (w : Word) → sent_word log kept ≡ Some w → Tells log account clock kept w
  sent-tells w is =
      let sent = mapped (λ (sent : Sent). away log kept sent.leaf) kept.sent w is in
      subst (Tells log account clock kept) sent.2 (away-tells sent.0.leaf
      (inl (ap (option_map (λ (it : Sent). it.leaf)) sent.1)))

  left-tells : IsFresh log clock kept → NothingIsDue log account kept → (w : Word) → left_word log kept ≡ Some w
      → Tells log account clock kept w
  left-tells at none w is =
      let left = mapped (away log kept) (left_leaf log kept) w is in
      subst (Tells log account clock kept) left.2 (away-tells left.0 (inr (at, none, left.1)))

  -- ---- paid out

  deeper : (call : RootCall) (rest : List RootCall) (p : Payment) → IsPaidOut rest c p.account p.line
      → IsPaidOut (call ∷ rest) c p.account p.line
  deeper call rest p was = record {
    newer = call ∷ was.newer;
    older = was.older;
    by = was.by;
    exit = was.exit;
    stands = ap (λ l. call ∷ l) was.stands;
    unpaid = was.unpaid;
    unchallenged = was.unchallenged;
    whose = was.whose;
    place = was.place;
  }

  paid-now : (by coin m : ℕ) (rest : List RootCall) (p : Payment) → payment rest c ≡ None
      → (if coin == c then paid_by rest (exit_at rest coin m) else None) ≡ Some p
      → IsPaidOut (Finish by coin m ∷ rest) c p.account p.line
  paid-now by coin m rest p none same =
      (elim (coin == c) as (λ b. (coin == c) ≡ b
      → (if b then paid_by rest (exit_at rest coin m) else None) ≡ Some p
      → IsPaidOut (Finish by coin m ∷ rest) c p.account p.line) [
        | false ↦ λ other wrong. absurd (cc wrong)
        | true ↦ λ own it.
            let e : coin ≡ c = eqb-true coin c own in
            let exit : Option Exit = exit_at rest c m in
            let q : Payment = record { account = starter exit; line = next_line rest } in
            (elim (has_no_open_challenge exit) as (λ b. has_no_open_challenge exit ≡ b
            → (if b then Some q else None) ≡ Some p
            → IsPaidOut (Finish by coin m ∷ rest) c p.account p.line) [
              | false ↦ λ challenged wrong. absurd (cc wrong)
              | true ↦ λ unchallenged paid.
                  let is_p : q ≡ p = some_same q p paid in
                  record {
                    newer = [];
                    older = rest;
                    by = by;
                    exit = m;
                    stands = ap (λ k. Finish by k m ∷ rest) e;
                    unpaid = sym (paid-withdrawn rest c) ∙ ap is_some none;
                    unchallenged = unchallenged;
                    whose = ap (λ (x : Payment). x.account) is_p;
                    place = ap (λ (x : Payment). x.line) (sym is_p);
                  }
            ]) refl (subst (λ k. paid_by rest (exit_at rest k m) ≡ Some p) e it)
      ]) refl same

  paid-out : (older : List RootCall) (paid : Payment) → payment older c ≡ Some paid
      → IsPaidOut older c paid.account paid.line
  unfolding payment
  paid-out [] paid is = absurd (cc is)
  paid-out (Finish by coin m ∷ older) paid is =
      (elim (payment older c) as (λ o. payment older c ≡ o
      → option_or o (if coin == c then paid_by older (exit_at older coin m) else None) ≡ Some paid
      → IsPaidOut (Finish by coin m ∷ older) c paid.account paid.line) [
        | Some first ↦ λ some same.
            let e = some_same first paid same in
            deeper (Finish by coin m) older paid (paid-out older paid (some ∙ ap (λ (p : Payment). Some p) e))
        | None ↦ λ none same. paid-now by coin m older paid none same
      ]) refl is
  paid-out (call ∷ older) paid is = deeper call older paid (paid-out older paid is)

  -- ---- the rules

  paid-tells : kept.sent ≡ None → (w : Word) → paid_word log kept ≡ Some w → Tells log account clock kept w
  paid-tells unsent w is =
      let paid = mapped (λ (p : Payment). if p.account == holder kept then Paid else Gone p.account p.line)
      (payment log c) w is in
      let p : Payment = paid.0 in
      let out : IsPaidOut log c p.account p.line = paid-out log p paid.1 in
      subst (Tells log account clock kept) paid.2
      ((elim (p.account == holder kept) as (λ b. (p.account == holder kept) ≡ b
      → Tells log account clock kept (if b then Paid else Gone p.account p.line)) [
        | true ↦ λ own. (
          unsent,
          (
            p.line,
            subst (λ a. IsPaidOut log c a p.line)
                (eqb-true p.account (holder kept) own) out,
          ),
        )
        | false ↦ λ other. (unsent, λ e. true≢false (sym (eq-eqb p.account (holder kept) e) ∙ other), out)
      ]) refl)

  here : kept.sent ≡ None → paid_word log kept ≡ None → IsHere log kept
  here unsent unpaid = (
    unsent,
    sym (paid-withdrawn log c)
        ∙ ap is_some (unmapped (λ (p : Payment). if p.account == holder kept then Paid else Gone p.account p.line)
        (payment log c) unpaid),
  )

  first-of : (numbers : List ℕ) (first : ℕ) → least numbers ≡ Some first → IsFirst numbers first
  first-of numbers first is = record {
    among = has-contains numbers first (least-has numbers first is);
    no_less = λ n there. least-le numbers first n is (contains-has numbers n there);
  }

  late-tells : IsHere log kept → (w : Word) → late_word log kept ≡ Some w → Tells log account clock kept w
  late-tells at w is =
      let late = mapped Late (come (now log) (first_end log kept)) w is in
      let end = come-is (now log) (first_end log kept) late.0 late.1 in
      subst (Tells log account clock kept) late.2 (at, first-of (ends log kept) late.0 end.0, end.1)

  stale-tells : IsHere log kept → AreAhead log (now log) kept → (w : Word) → stale_word log clock kept ≡ Some w
      → Tells log account clock kept w
  stale-tells at in_time w is =
      (elim (nat_lt (now log + RESPONSE_WINDOW) clock) as (λ b. nat_lt (now log + RESPONSE_WINDOW) clock ≡ b
      → (if b then Some Stale else option_map (λ end. Stale) (come clock (first_end log kept))) ≡ Some w
      → Tells log account clock kept w) [
        | true ↦ λ old same. subst (Tells log account clock kept) (some_same Stale w same)
            (at, in_time, inl (ltb-true (now log + RESPONSE_WINDOW) clock old))
        | false ↦ λ young same.
            let passed = mapped (λ (end : ℕ). Stale) (come clock (first_end log kept)) w same in
            let end = come-is clock (first_end log kept) passed.0 passed.1 in
            subst (Tells log account clock kept) passed.2 (
              at,
              in_time,
              inr (
                passed.0,
                has-contains (ends log kept) passed.0 (least-has (ends log kept) passed.0 end.0),
                end.1,
              ),
            )
      ]) refl is

  fresh : IsHere log kept → AreAhead log (now log) kept → stale_word log clock kept ≡ None → IsFresh log clock kept
  fresh at in_time is =
      (elim (nat_lt (now log + RESPONSE_WINDOW) clock) as (λ b. nat_lt (now log + RESPONSE_WINDOW) clock ≡ b
      → (if b then Some Stale else option_map (λ end. Stale) (come clock (first_end log kept))) ≡ None
      → IsFresh log clock kept) [
        | true ↦ λ old wrong. absurd (cc wrong)
        | false ↦ λ young none. record {
          here = at;
          in_time = in_time;
          by_clock = ahead clock (unmapped (λ (end : ℕ). Stale) (come clock (first_end log kept)) none);
          young = ltb-false (now log + RESPONSE_WINDOW) clock young;
        }
      ]) refl is

  abbrev due_ends : List ℕ
  due_ends = map (end_of_call (standing log kept)) (timed log account kept)

  nothing-due : kept.sent ≡ None → least due_ends ≡ None → NothingIsDue log account kept
  nothing-due unsent is =
      let none : due_ends ≡ [] = least-none due_ends is in
      let untimed : timed log account kept ≡ [] =
      unmapped-none (end_of_call (standing log kept)) (timed log account kept) none in
      record {
        due = λ exit there. each-none (due_for log account kept.links) (standing log kept) exit
            (sym (due-unsent log account kept unsent)
            ∙ front-none (due log account kept) (shown_again log account kept) untimed)
            (contains-has (standing log kept) exit there);
        again = back-none (due log account kept) (shown_again log account kept) untimed;
      }
    where
      unmapped-none : {X Y : Type 0} (f : X → Y) (xs : List X) → map f xs ≡ [] → xs ≡ []
      unmapped-none f [] e = refl
      unmapped-none f (x ∷ xs) e = absurd (cc e)

  -- ---- a hidden block

  abbrev start : RootCall
  start = start_of account (tip kept) kept.links

  own-advised : may_leave log account kept ≡ true → kept.hidden ≡ true → Contains (calls_of log account kept) start
  own-advised may hidden =
      let before : List RootCall = map (instead log c) (timed log account kept) in
      let either : (is_planted log kept || kept.hidden) ≡ true =
      elim (is_planted log kept) as (λ b. (b || kept.hidden) ≡ true) [ true ↦ refl | false ↦ hidden ] in
      let own : Has (own_start log account kept) start =
      subst (λ (b : Bool). Has (if b then start ∷ [] else []) start)
      (sym (and_from (may_leave log account kept) (is_planted log kept || kept.hidden) may either)) (inl refl) in
      has-contains (calls_of log account kept) start
      (has-left (before ++ own_start log account kept) (finishes log account kept) start
      (has-right before (own_start log account kept) start own))

  to-leave : NothingIsDue log account kept → (by : ℕ) → at_once log account kept ≡ Some by
      → IsToLeave log account kept by
  to-leave none by is =
      (elim (may_leave log account kept && kept.hidden) as (λ b. (may_leave log account kept && kept.hidden) ≡ b
      → (if b then Some (now log) else None) ≡ Some by → IsToLeave log account kept by) [
        | false ↦ λ other wrong. absurd (cc wrong)
        | true ↦ λ both same.
            let parts = and_parts (may_leave log account kept) kept.hidden both in
            record {
              none = none;
              hidden = parts.1;
              may = parts.0;
              advised = own-advised parts.0 parts.1;
              at_once = sym (some_same (now log) by same);
            }
      ]) refl is

  stays : at_once log account kept ≡ None → kept.hidden ≡ true → may_leave log account kept ≡ false
  stays none hidden =
      (elim (may_leave log account kept) as (λ b. (if b && kept.hidden then Some (now log) else None) ≡ None
      → b ≡ false) [
        | false ↦ λ _. refl
        | true ↦ λ it. absurd (cc (sym (ap (λ h. if h then Some (now log) else None) hidden) ∙ it))
      ]) none

  -- ---- the rest

  acts-by : kept.sent ≡ None → (by : ℕ) → act_by log account kept ≡ Some by → IsActBy log account kept by
  acts-by unsent by is =
      (elim (least due_ends) as (λ o. least due_ends ≡ o
      → option_or (option_map (λ end. end - 1) o) (at_once log account kept) ≡ Some by
      → IsActBy log account kept by) [
        | Some end ↦ λ some same. inl (end, first-of due_ends end some, sym (some_same (end - 1) by same))
        | None ↦ λ none rest. inr (to-leave (nothing-due unsent none) by rest)
      ]) refl is

  act-tells : IsFresh log clock kept → (w : Word) → act_word log account kept ≡ Some w
      → Tells log account clock kept w
  act-tells at w is =
      let act = mapped (λ (by : ℕ). Act by (missing log account (calls_of log account kept)))
      (act_by log account kept) w is in
      subst (Tells log account clock kept) act.2 (at, acts-by at.here.0 act.0 act.1, refl)

  last-tells : IsFresh log clock kept → NothingIsDue log account kept → at_once log account kept ≡ None
      → left_leaf log kept ≡ None
      → Tells log account clock kept (unwrap_or (leaving_word log kept) (safe_word log))
  last-tells at none shown unleft =
      (elim (exit_in (standing log kept) (tip kept)) as (λ o. exit_in (standing log kept) (tip kept) ≡ o
      → Tells log account clock kept
      (unwrap_or (option_map (λ exit. Leaving (later exit.start EXIT_PERIOD)) o) (safe_word log))) [
        | None ↦ λ no_own. (
          at,
          none,
          λ exit there e. true≢false
              (sym (eq-eqb exit.block (tip kept) e)
              ∙ missed (λ (it : ExitView). it.block == tip kept) (standing log kept) exit no_own
              (contains-has (standing log kept) exit there)),
          refl,
          unleft,
          stays shown,
        )
        | Some exit ↦ λ own.
            let found = found-has (λ (it : ExitView). it.block == tip kept) (standing log kept) exit own in (
              at,
              none,
              (
                exit,
                has-contains (standing log kept) exit found.0,
                eqb-true exit.block (tip kept) found.1,
                refl,
              ),
              unleft,
            )
      ]) refl

unmapped-end : (o : Option ℕ) → option_map (λ end. end - 1) o ≡ None → o ≡ None
unmapped-end None is = refl
unmapped-end (Some end) is = absurd (cc is)

pub words_tell : WordsTell
words_tell log account clock kept =
    let last : Word = safe_word log in
    let leaving : Option Word = leaving_word log kept in
    let moving : Option Word = option_or (left_word log kept) leaving in
    let acting : Option Word = option_or (act_word log account kept) moving in
    let aging : Option Word = option_or (stale_word log clock kept) acting in
    let ending : Option Word = option_or (late_word log kept) aging in
    let paying : Option Word = option_or (paid_word log kept) ending in
    let P : Word → Type 0 = Tells log account clock kept in
    first-rule (sent_word log kept) paying last P (sent-tells log account clock kept) (λ no_sent.
    let unsent = unmapped (λ (sent : Sent). away log kept sent.leaf) kept.sent no_sent in
    first-rule (paid_word log kept) ending last P (paid-tells log account clock kept unsent) (λ no_paid.
    let at = here log account clock kept unsent no_paid in
    first-rule (late_word log kept) aging last P (late-tells log account clock kept at) (λ no_late.
    let in_time = ahead log account clock kept (now log)
    (unmapped Late (come (now log) (first_end log kept)) no_late) in
    first-rule (stale_word log clock kept) acting last P (stale-tells log account clock kept at in_time) (λ no_stale.
    let good = fresh log account clock kept at in_time no_stale in
    first-rule (act_word log account kept) moving last P (act-tells log account clock kept good) (λ no_act.
    let by = or-none (due_by log account kept) (at_once log account kept)
    (unmapped (λ (by : ℕ). Act by (missing log account (calls_of log account kept))) (act_by log account kept) no_act)
    in
    let none = nothing-due log account clock kept unsent (unmapped-end (least (due_ends log account clock kept)) by.0)
    in
    first-rule (left_word log kept) leaving last P (left-tells log account clock kept good none) (λ no_left.
    last-tells log account clock kept good none by.1 (unmapped (away log kept) (left_leaf log kept) no_left)))))))
