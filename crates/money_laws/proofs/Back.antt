-- Bonds come back.
use Rattle.money_laws.proofs.Basics.{◌≡◌, ℕ, ◌≤◌, ◌==◌, not, true, false, List, [], ◌∷◌, Some, inl, inr, refl, sym, ◌∙◌, subst, arith, rules, list_all, eqb-true, eq-eqb, and_parts, not_from_false, true≢false, false≢true, common_steps}
use Rattle.money_laws.proofs.CoinWords.{CHALLENGE_BOND, RawOpening, RootCall, After, Between, Finish, Cancelled, Paid, is_end, Challenge, Exit, exits, exit_at, has_no_open_challenge, is_withdrawn, Tests, Rules, tests_by, rules_of, Cause, decided, answer_to, is_paid, open_challenges, challenge_bonds, share_of, paid_exactly, Has, has-contains, contains-has}
use Rattle.money_laws.proofs.WorldWords.{Joins, log_of, collides, some_same, found-has, passes-has, has-kept, none-before, forged-parts, legal-before, due_calls_are_taken, LegalBondsComeBack, BondsComeBack, cancels, LegalCancelsNeedNoMoney, CancelsNeedNoMoney, legal-to}
use Rattle.plasma_tx.specs.declared.answer.Answer.{Answer}
use Rattle.world_laws.specs.Headline.{lacks_bond}
use Rattle.money_laws.proofs.Ends.{ends_pay_bonds}
use Rattle.money_laws.proofs.Tips.{tips_stay_open}

-- a challenge's bond is among those of its account
own-bond : (challenges : List Challenge) (challenge : Challenge) → Has challenges challenge
    → CHALLENGE_BOND ≤ share_of challenge.by (challenge_bonds challenges)
unfolding share_of
own-bond [] challenge there = absurd there
own-bond (first ∷ rest) challenge (inl is) = grind (arith, common_steps, eq-eqb)
own-bond (first ∷ rest) challenge (inr there) = omega (arith, own-bond rest challenge there)

-- what isn't Paid doesn't pay
unpaid-from : (answer : Answer) → (answer ≡ Paid → ⊥) → is_paid answer ≡ false
unpaid-from Paid never = absurd (never refl)
unpaid-from answer never = refl

-- nor does a call that cancels
cancel-unpaid : (causes : List Cause) → is_paid (decided causes Cancelled) ≡ false
cancel-unpaid [] = refl
cancel-unpaid (cause ∷ causes) = grind (arith, common_steps, cancel-unpaid causes)

after-unpaid : (tests : Tests) (rules : Rules) (log : List RootCall) (account c f : ℕ) (spend : RawOpening)
    → is_paid (answer_to tests rules log (After account c f spend)) ≡ false
unfolding answer_to
after-unpaid tests rules log account c f spend = grind (arith, common_steps, cancel-unpaid)

between-unpaid : (tests : Tests) (rules : Rules) (log : List RootCall) (account c f : ℕ) (spend : RawOpening)
    → is_paid (answer_to tests rules log (Between account c f spend)) ≡ false
unfolding answer_to
between-unpaid tests rules log account c f spend = grind (arith, common_steps, cancel-unpaid)

-- an exit with an open challenge isn't paid
end-unpaid : (tests : Tests) (rules : Rules) (log : List RootCall) (call : RootCall) (c block : ℕ) (exit : Exit)
    (challenge : Challenge) → exit_at log c block ≡ Some exit → is_end c block call ≡ true
    → Has exit.challenges challenge → challenge.answered ≡ false → is_paid (answer_to tests rules log call) ≡ false
end-unpaid tests rules log (After by k f spend) c block exit challenge found is there is_open =
    after-unpaid tests rules log by k f spend
end-unpaid tests rules log (Between by k f spend) c block exit challenge found is there is_open =
    between-unpaid tests rules log by k f spend
end-unpaid tests rules log (Finish by k f) c block exit challenge found is there is_open =
    unpaid-from (answer_to tests rules log (Finish by k f)) (λ paid.
    let parts = and_parts (k == c) (f == block) is in
    let p = (paid_exactly tests rules log by k f).0 paid in
    let here : exit_at log k f ≡ Some exit = subst (λ n. exit_at log n f ≡ Some exit) (sym (eqb-true k c parts.0))
    (subst (λ m. exit_at log c m ≡ Some exit) (sym (eqb-true f block parts.1)) found) in
    let same : p.0.exit ≡ exit = some_same p.0.exit exit (sym p.0.stands ∙ here) in
    let none = (and_parts (has_no_open_challenge (Some p.0.exit)) (not (is_withdrawn log k)) p.1).0 in
    true≢false (sym (passes-has (λ (ch : Challenge). ch.answered) exit.challenges challenge
    (subst (λ (x : Exit). list_all (λ (ch : Challenge). ch.answered) x.challenges ≡ true) same none) there)
    ∙ is_open))
end-unpaid tests rules log call c block exit challenge found is there is_open = absurd (false≢true is)

pub bonds_come_back : LegalBondsComeBack
unfolding collides
bonds_come_back dig rules events call w c e block exit challenge digest legal keeper found is has at_tip =
    let log : List RootCall = log_of events in
    let place = found-has log c block exit found in
    let is_open = tips_stay_open dig rules events w c e digest
    (legal-before (tests_by dig) rules (Joins call) events legal) keeper.kept
    (none-before dig (Joins call) events c keeper.whole)
    (forged-parts rules.tag (Joins call) events w c keeper.honest).1 exit challenge
    (has-contains (exits log) exit place.0) place.1 has at_tip in
    let there = contains-has exit.challenges challenge has in
    let kept = has-kept (λ (ch : Challenge). not ch.answered) exit.challenges challenge there
    (not_from_false challenge.answered is_open) in
    let bond = own-bond (open_challenges exit) challenge kept in
    let pays = ends_pay_bonds log call c block challenge.by exit found is in
    record {
      is_open = has-contains (open_challenges exit) challenge kept;
      back = omega (arith, bond, pays);
      unpaid = end-unpaid (tests_by dig) rules log call c block exit challenge found is there is_open;
    }

pub run_bonds_come_back : BondsComeBack
run_bonds_come_back dig lines run world later events call w c e block exit challenge is split =
    bonds_come_back dig (rules_of world.chain) events call w c e block exit challenge is.digest
    (legal-to dig lines run world later (Joins call ∷ events) is split)

needs-none : (log : List RootCall) (call : RootCall) → cancels call ≡ true → lacks_bond log call ≡ false
needs-none log call is = grind (arith, common_steps, false≢true)

pub cancels_need_no_money : LegalCancelsNeedNoMoney
cancels_need_no_money dig rules events n call digest legal offered is whole =
    due_calls_are_taken dig rules events n call digest legal offered whole (needs-none (log_of events) call is)

pub run_cancels_need_no_money : CancelsNeedNoMoney
run_cancels_need_no_money dig lines run world later events n call is split =
    cancels_need_no_money dig (rules_of world.chain) events n call is.digest
    (legal-to dig lines run world later events is split)
