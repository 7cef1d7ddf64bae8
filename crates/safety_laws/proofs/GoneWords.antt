-- What the words Paid and Gone say of legal events.
use Rattle.safety_laws.proofs.Basics.{◌≡◌, ◌≢◌, ℕ, ◌==◌, ◌&&◌, not, true, false, List, [], ◌∷◌, ◌++◌, Some, refl, sym, ap, ◌∙◌, subst, arith, rules, eq-eqb, ne_eqb, and_from, and_right, or_left, or_right, not_from_true, not_from_false, common_steps}
use Rattle.safety_laws.proofs.CoinWords.{Owner, RootCall, Finish, Exit, exit_at, has_no_open_challenge, is_withdrawn, Tests, Rules, answer_to, accepted_calls_show, Paid, Gone, holder, next_line, starter, IsPaidOut, Tells, words_tell}
use Rattle.safety_laws.proofs.WorldWords.{Event, Joins, log_of, wallet_owner, holds, call_harms, is_harmed, IsLegal, WasPaidTo, IsOut, LegalGoneMeansGone, LegalPaidMeansPaid, suffix-legal}
use Rattle.plasma_tx.specs.declared.answer.Answer.TheVariants.{Paid as IsPaid}
use Rattle.plasma_tx.proofs.Ends.{paid_exactly}

-- ---- the event that entered a call of the log

record IsEntered (events : List Event) (call : RootCall) (older : List RootCall) : Type 0 where
  later : List Event
  earlier : List Event
  events_are : events ≡ later ++ Joins call ∷ earlier
  log_is : log_of earlier ≡ older

pushed : (event : Event) (events : List Event) (call : RootCall) (older : List RootCall)
    → IsEntered events call older → IsEntered (event ∷ events) call older
pushed event events call older is = record {
  later = event ∷ is.later;
  earlier = is.earlier;
  events_are = ap (λ l. event ∷ l) is.events_are;
  log_is = is.log_is;
}

none-entered : (newer : List RootCall) (call : RootCall) (older : List RootCall) → [] ≡ newer ++ call ∷ older → ⊥
none-entered [] call older is = cc
none-entered (one ∷ newer) call older is = cc

tail-same : {A : Type 0} (x y : A) (xs ys : List A) → x ∷ xs ≡ y ∷ ys → xs ≡ ys
tail-same x y xs ys is = cc

head-same : {A : Type 0} (x y : A) (xs ys : List A) → x ∷ xs ≡ y ∷ ys → x ≡ y
head-same x y xs ys is = cc

entered : (events : List Event) (newer : List RootCall) (call : RootCall) (older : List RootCall)
    → log_of events ≡ newer ++ call ∷ older → IsEntered events call older
unfolding log_of
entered [] newer call older is = absurd (none-entered newer call older is)
entered (Joins new ∷ events) [] call older is = record {
  later = [];
  earlier = events;
  events_are = ap (λ c. Joins c ∷ events) (head-same new call (log_of events) older is);
  log_is = tail-same new call (log_of events) older is;
}
entered (Joins new ∷ events) (one ∷ newer) call older is =
    pushed (Joins new) events call older
    (entered events newer call older (tail-same new one (log_of events) (newer ++ call ∷ older) is))
entered (event ∷ events) newer call older is = pushed event events call older (entered events newer call older is)

-- ---- a coin that is out

withdrawn-on : (call : RootCall) (log : List RootCall) (c : ℕ) → is_withdrawn log c ≡ true
    → is_withdrawn (call ∷ log) c ≡ true
unfolding is_withdrawn
withdrawn-on call log c is = grind (arith, common_steps, or_right)

withdrawn-by : (newer older : List RootCall) (by c block : ℕ)
    → has_no_open_challenge (exit_at older c block) ≡ true
    → is_withdrawn (newer ++ Finish by c block ∷ older) c ≡ true
unfolding is_withdrawn
withdrawn-by [] older by c block none =
    or_left ((c == c) && has_no_open_challenge (exit_at older c block)) (is_withdrawn older c)
    (and_from (c == c) (has_no_open_challenge (exit_at older c block)) (eq-eqb c c refl) none)
withdrawn-by (call ∷ newer) older by c block none =
    withdrawn-on call (newer ++ Finish by c block ∷ older) c (withdrawn-by newer older by c block none)

out-unheld : (events : List Event) (w c e : ℕ) → is_withdrawn (log_of events) c ≡ true → holds events w c e ≡ false
unfolding holds
out-unheld events w c e out = grind (arith, common_steps, and_right, not_from_true)

-- ---- it was paid

record IsTold (tests : Tests) (rules : Rules) (events : List Event) (c account line : ℕ) : Type 0 where
  paid : WasPaidTo tests rules events c account line
  out : IsOut events c
  harm : (w e : ℕ) (me : Owner) → wallet_owner paid.earlier w ≡ Some me → me.account ≢ account
      → holds paid.earlier w c e ≡ true
      → is_harmed tests rules paid.earlier w c e (Joins (Finish paid.by c paid.block)) ≡ true

-- to pay another's exit harms the holder
pays-harm : (tests : Tests) (rules : Rules) (events : List Event) (by c block account : ℕ) (exit : Exit)
    → exit_at (log_of events) c block ≡ Some exit → exit.account ≡ account
    → answer_to tests rules (log_of events) (Finish by c block) ≡ IsPaid
    → (w e : ℕ) (me : Owner) → wallet_owner events w ≡ Some me → me.account ≢ account
    → holds events w c e ≡ true → is_harmed tests rules events w c e (Joins (Finish by c block)) ≡ true
unfolding call_harms
pays-harm tests rules events by c block account exit stands whose paid w e me me_is apart held =
    grind (arith, common_steps, and_from, eq-eqb, ne_eqb)

told-paid : (tests : Tests) (rules : Rules) (events : List Event) (c account line : ℕ) → IsLegal tests rules events
    → IsPaidOut (log_of events) c account line → IsTold tests rules events c account line
unfolding IsLegal
told-paid tests rules events c account line legal out =
    let call : RootCall = Finish out.by c out.exit in
    let at = entered events out.newer call out.older out.stands in
    let here = suffix-legal tests rules at.later (Joins call ∷ at.earlier)
    (subst (IsLegal tests rules) at.events_are legal) in
    let log : List RootCall = log_of at.earlier in
    let s = accepted_calls_show tests rules log call here.0.accepted in
    let whose : s.exit.account ≡ account =
    ap starter (sym s.stands ∙ ap (λ l. exit_at l c out.exit) at.log_is) ∙ out.whose in
    let settled : has_no_open_challenge (Some s.exit) ≡ true =
    ap has_no_open_challenge (sym s.stands ∙ ap (λ l. exit_at l c out.exit) at.log_is) ∙ out.unchallenged in
    let paid : answer_to tests rules log call ≡ IsPaid = (paid_exactly tests rules log out.by c out.exit).1 (
      s,
      and_from (has_no_open_challenge (Some s.exit)) (not (is_withdrawn log c)) settled
          (not_from_false (is_withdrawn log c) (ap (λ l. is_withdrawn l c) at.log_is ∙ out.unpaid)),
    ) in
    let withdrawn : is_withdrawn (log_of events) c ≡ true =
    ap (λ l. is_withdrawn l c) out.stands ∙ withdrawn-by out.newer out.older out.by c out.exit out.unchallenged in
    record {
      paid = record {
        later = at.later;
        earlier = at.earlier;
        by = out.by;
        block = out.exit;
        exit = s.exit;
        events_are = at.events_are;
        line_is = out.place ∙ ap next_line (sym at.log_is);
        stands = s.stands;
        whose = whose;
        paid = paid;
      };
      out = record { withdrawn = withdrawn; unheld = λ w e. out-unheld events w c e withdrawn };
      harm = pays-harm tests rules at.earlier out.by c out.exit account s.exit s.stands whose paid;
    }

pub gone_means_gone : LegalGoneMeansGone
gone_means_gone tests rules events by clock account line kept legal word =
    let t : Tells (log_of events) by clock kept (Gone account line) =
    subst (Tells (log_of events) by clock kept) word (words_tell (log_of events) by clock kept) in
    let r = told-paid tests rules events kept.links.coin account line legal t.2 in
    record { paid = r.paid; out = r.out; another = t.1; harm = r.harm }

pub paid_means_paid : LegalPaidMeansPaid
paid_means_paid tests rules events by clock kept legal word =
    let t : Tells (log_of events) by clock kept Paid =
    subst (Tells (log_of events) by clock kept) word (words_tell (log_of events) by clock kept) in
    let r = told-paid tests rules events kept.links.coin (holder kept) t.1.0 legal t.1.1 in
    ((t.1.0, r.paid), r.out)
