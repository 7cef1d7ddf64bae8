-- What changes an exit, and how an exit leaves the standing ones.
use Rattle.std.proofs.Common.{◌≡◌, ℕ, ◌==◌, ◌&&◌, Bool, true, if◌then◌else◌, List, ◌∷◌, Option, Some, None, option_map, refl, sym, ap, ◌∙◌, find, arith}
use Rattle.plasma_tx.proofs.Words.{cases_Bool, common_steps, RootCall, StartDeposit, StartSpend, After, Between, Before, Respond, Finish, Challenge, Exit, is_exit, deposit_exit, spend_exit, with_challenge, with_exit_changed, exits, exit_at, is_last, OthersLeaveExits, ExitsLeaveBy}
use Rattle.plasma_tx.proofs.Names.{find-without, find-started, find-changed}
use Rattle.plasma_tx.proofs.Stands.{same-challenged}

-- the exit of that name where one was challenged
find-challenged : (c e k m : ℕ) (new : Challenge) (exits : List Exit)
    → find (is_exit c e) (with_exit_changed k m (with_challenge new) exits)
    ≡ (if (k == c) && (m == e) then option_map (with_challenge new) (find (is_exit c e) exits) else
    find (is_exit c e) exits)
find-challenged c e k m new exits = grind (arith, common_steps, find-changed, same-challenged) steps 20000

pub others_leave_exits : OthersLeaveExits
unfolding exits exit_at
others_leave_exits log (StartDeposit account k m) c e other =
    find-started c e (deposit_exit log account k m) (exits log)
    ∙ ap (λ (b : Bool). if b then Some (deposit_exit log account k m) else find (is_exit c e) (exits log)) other
others_leave_exits log (StartSpend account k parent exit) c e other =
    find-started c e (spend_exit log account k parent exit) (exits log)
    ∙ ap (λ (b : Bool). if b then Some (spend_exit log account k parent exit) else find (is_exit c e) (exits log)) other
others_leave_exits log (After account k m spend) c e other =
    find-without c e k m (exits log) ∙ ap (λ (b : Bool). if b then None else find (is_exit c e) (exits log)) other
others_leave_exits log (Between account k m spend) c e other =
    find-without c e k m (exits log) ∙ ap (λ (b : Bool). if b then None else find (is_exit c e) (exits log)) other
others_leave_exits log (Finish account k m) c e other =
    find-without c e k m (exits log) ∙ ap (λ (b : Bool). if b then None else find (is_exit c e) (exits log)) other
others_leave_exits log (Before account k m shown) c e other = grind (arith, common_steps, find-challenged) steps 20000
others_leave_exits log (Respond account k m challenged spend) c e other =
    grind (arith, common_steps, find-changed) steps 20000
others_leave_exits log call c e other = refl

-- a start, or a change, of an exit leaves it standing
started_stands : (t : Bool) (new exit : Exit) (found : Option Exit) → found ≡ Some exit
    → (if t then Some new else found) ≡ None → ⊥
started_stands t new exit found was is = grind (arith, common_steps) steps 20000

changed_stands : (t : Bool) (change : Exit → Exit) (exit : Exit) (found : Option Exit) → found ≡ Some exit
    → (if t then option_map change found else found) ≡ None → ⊥
changed_stands t change exit found was is = grind (arith, common_steps) steps 20000

-- where a standing exit leaves by a call, the call takes exits out
is_taken : (log : List RootCall) (call : RootCall) (c e : ℕ) (exit : Exit) → find (is_exit c e) (exits log) ≡ Some exit
    → find (is_exit c e) (exits (call ∷ log)) ≡ None → is_last call ≡ true
unfolding exits
is_taken log (StartDeposit account k m) c e exit was is =
    let new : Exit = deposit_exit log account k m in
    absurd
    (started_stands ((k == c) && (m == e)) new exit (find (is_exit c e) (exits log)) was
    (sym (find-started c e new (exits log)) ∙ is))
is_taken log (StartSpend account k parent opening) c e exit was is =
    let new : Exit = spend_exit log account k parent opening in
    absurd
    (started_stands ((k == c) && (opening.block == e)) new exit (find (is_exit c e) (exits log)) was
    (sym (find-started c e new (exits log)) ∙ is))
is_taken log (Before account k m shown) c e exit was is =
    grind (arith, common_steps, changed_stands, find-challenged) steps 20000
is_taken log (Respond account k m challenged spend) c e exit was is =
    grind (arith, common_steps, changed_stands, find-changed) steps 20000
is_taken log (After account k m spend) c e exit was is = refl
is_taken log (Between account k m spend) c e exit was is = refl
is_taken log (Finish account k m) c e exit was is = refl
is_taken log call c e exit was is = absurd (cc)

none_some : (o p : Option Exit) (exit : Exit) → o ≡ None → p ≡ Some exit → o ≡ p → ⊥
none_some o p exit none some same = cc

pub exits_leave_by : ExitsLeaveBy
unfolding exit_at
exits_leave_by log call c e exit was is =
    grind (arith, common_steps, cases_Bool, none_some, others_leave_exits, is_taken) steps 20000
