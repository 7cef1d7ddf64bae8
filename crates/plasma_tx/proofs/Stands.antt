-- The list of standing exits is what the last calls say.
use Rattle.plasma_tx.proofs.Words.{◌≡◌, ℕ, ◌==◌, ◌&&◌, Bool, if◌then◌else◌, List, [], ◌∷◌, Option, Some, None, refl, ap, ◌∙◌, find, arith, option_map, common_steps, RootCall, StartDeposit, StartSpend, After, Between, Finish, Before, Respond, Challenge, Exit, is_exit, deposit_exit, spend_exit, with_challenge, new_challenge, exits, exit_at, last_start, without_challenges, ExitsStand}
use Rattle.plasma_tx.proofs.Names.{find-without, find-started, find-changed}

-- a challenge changes nothing but the challenges
pub same-challenged : (challenge : Challenge) (exit : Exit) → without_challenges (with_challenge challenge exit)
    ≡ without_challenges exit
same-challenged challenge exit = grind (arith, common_steps) steps 20000

started : (t : Bool) (new : Exit) (found before : Option Exit) → without_challenges new ≡ new
    → option_map without_challenges found ≡ before
    → option_map without_challenges (if t then Some new else found)
    ≡ (if t then (if t then Some new else None) else before)
started t new found before bare was = grind (arith, common_steps) steps 20000

ended : (t : Bool) (found before : Option Exit) → option_map without_challenges found ≡ before
    → option_map without_challenges (if t then None else found) ≡ (if t then None else before)
ended t found before was = grind (arith, common_steps) steps 20000

changed : (t : Bool) (change : Exit → Exit) (found before : Option Exit)
    → ((x : Exit) → without_challenges (change x) ≡ without_challenges x) → option_map without_challenges found ≡ before
    → option_map without_challenges (if t then option_map change found else found) ≡ before
changed t change found before same was = grind (arith, common_steps) steps 20000

stand : (log : List RootCall) (c e : ℕ) → option_map without_challenges (find (is_exit c e) (exits log))
    ≡ last_start log c e
unfolding exits last_start
stand [] c e = refl
stand (StartDeposit account k m ∷ log) c e =
    let new : Exit = deposit_exit log account k m in
    ap (option_map without_challenges) (find-started c e new (exits log))
    ∙ started ((k == c) && (m == e)) new (find (is_exit c e) (exits log)) (last_start log c e) refl (stand log c e)
stand (StartSpend account k parent exit ∷ log) c e =
    let new : Exit = spend_exit log account k parent exit in
    ap (option_map without_challenges) (find-started c e new (exits log))
    ∙ started ((k == c) && (exit.block == e)) new (find (is_exit c e) (exits log)) (last_start log c e) refl
    (stand log c e)
stand (Before account k m shown ∷ log) c e =
    let change = with_challenge (new_challenge log account k m shown) in
    ap (option_map without_challenges)
    (find-changed c e k m change
    (λ x. ap (λ (y : Exit). y.coin) (same-challenged (new_challenge log account k m shown) x))
    (λ x. ap (λ (y : Exit). y.block) (same-challenged (new_challenge log account k m shown) x)) (exits log))
    ∙ changed ((k == c) && (m == e)) change (find (is_exit c e) (exits log)) (last_start log c e)
    (same-challenged (new_challenge log account k m shown)) (stand log c e)
stand (Respond account k m challenged spend ∷ log) c e =
    grind (arith, common_steps, stand log c e, find-changed, changed) steps 20000
stand (After account k m spend ∷ log) c e =
    grind (arith, common_steps, stand log c e, find-without, ended) steps 20000
stand (Between account k m spend ∷ log) c e =
    grind (arith, common_steps, stand log c e, find-without, ended) steps 20000
stand (Finish account k m ∷ log) c e =
    grind (arith, common_steps, stand log c e, find-without, ended) steps 20000
stand (call ∷ log) c e = stand log c e

pub exits_stand : ExitsStand
unfolding exit_at
exits_stand log c e = stand log c e
