-- What holds of each thing of a list, and of each standing exit after one more call.
use Rattle.plasma_tx.proofs.Words.{◌≡◌, ℕ, not, Bool, true, false, if◌then◌else◌, List, [], ◌∷◌, ◌++◌, map, Some, refl, subst, find, filter, arith, is_some, AllByRecursion, common_steps, RootCall, StartDeposit, StartSpend, After, Between, Before, Respond, Finish, Challenge, Exit, is_exit, with_exit_changed, challenge_at, block_of, deposit_exit, spend_exit, with_challenge, with_answer, new_challenge, exits}

pub some_same : {A : Type 0} (x y : A) → Some x ≡ Some y → x ≡ y
some_same x y e = cc

module _ {X : Type 0} (P : X → Type 0) where
  pub all-append : (xs : List X) (x : X) → AllByRecursion P xs → P x → AllByRecursion P (xs ++ x ∷ [])
  all-append [] x h p = (p, tt)
  all-append (y ∷ ys) x h p = (h.0, all-append ys x h.1 p)

  pub all-filter : (p : X → Bool) (xs : List X) → AllByRecursion P xs → AllByRecursion P (filter p xs)
  all-filter p [] h = tt
  all-filter p (x ∷ xs) h = grind (arith, common_steps, all-filter p xs h.1) steps 20000

  pub all-map : (change : X → X) → ((x : X) → P x → P (change x)) → (xs : List X) → AllByRecursion P xs
      → AllByRecursion P (map change xs)
  all-map change keeps [] h = tt
  all-map change keeps (x ∷ xs) h = (keeps x h.0, all-map change keeps xs h.1)

  pub all-weaker : (Q : X → Type 0) → ((x : X) → P x → Q x) → (xs : List X) → AllByRecursion P xs
      → AllByRecursion Q xs
  all-weaker Q weaker [] h = tt
  all-weaker Q weaker (x ∷ xs) h = (weaker x h.0, all-weaker Q weaker xs h.1)

  -- what is found passes the test, and has what each has
  pub all-found : (p : X → Bool) (xs : List X) (t : X) → AllByRecursion P xs → find p xs ≡ Some t
      → P t × (p t ≡ true)
  all-found p [] t h is = absurd (cc is)
  all-found p (x ∷ xs) t h is =
      (elim (p x) as (λ b. p x ≡ b → (if b then Some x else find p xs) ≡ Some t → P t × (p t ≡ true)) [
        | true ↦ λ passes same. subst (λ y. P y × (p y ≡ true)) (some_same x t same) (h.0, passes)
        | false ↦ λ other later. all-found p xs t h.1 later
      ]) refl is

-- ---- exits after one more call

-- what a start makes has it
abbrev pub StartHas : (Exit → Type 0) → List RootCall → RootCall → Type 0
StartHas P log (StartDeposit account c block) = P (deposit_exit log account c block)
StartHas P log (StartSpend account c parent exit) = P (spend_exit log account c parent exit)
StartHas P log call = Unit {0}

-- one more challenge, or an answer, keeps it
abbrev pub ChangeKeeps : (Exit → Type 0) → List RootCall → RootCall → Type 0
ChangeKeeps P log (Before account c e shown) = (x : Exit) → is_some (challenge_at (block_of shown) x.challenges) ≡ false
    → P x → P (record x { challenges = x.challenges ++ new_challenge log account c e shown ∷ [] })
ChangeKeeps P log (Respond account c e challenged spend) = (x : Exit) → P x → P (with_answer challenged x)
ChangeKeeps P log call = Unit {0}

module _ (P : Exit → Type 0) where
  all-changed : (c e : ℕ) (change : Exit → Exit) → ((x : Exit) → P x → P (change x)) → (xs : List Exit)
      → AllByRecursion P xs → AllByRecursion P (with_exit_changed c e change xs)
  all-changed c e change keeps xs h = grind (arith, common_steps, all-map) steps 20000

  challenge-keeps : (new : Challenge)
      → ((x : Exit) → is_some (challenge_at new.block x.challenges) ≡ false → P x
      → P (record x { challenges = x.challenges ++ new ∷ [] })) → (x : Exit) → P x → P (with_challenge new x)
  challenge-keeps new keeps x p = grind (arith, common_steps) steps 20000

  -- each standing exit after the call
  pub each-exit : (log : List RootCall) (call : RootCall) → StartHas P log call → ChangeKeeps P log call
      → AllByRecursion P (exits log) → AllByRecursion P (exits (call ∷ log))
  unfolding exits
  each-exit log (StartDeposit account c block) has keeps h =
      grind (arith, common_steps, all-append, all-filter) steps 20000
  each-exit log (StartSpend account c parent exit) has keeps h =
      grind (arith, common_steps, all-append, all-filter) steps 20000
  each-exit log (After account c e spend) has keeps h = all-filter P (λ x. not (is_exit c e x)) (exits log) h
  each-exit log (Between account c e spend) has keeps h = all-filter P (λ x. not (is_exit c e x)) (exits log) h
  each-exit log (Finish account c e) has keeps h = all-filter P (λ x. not (is_exit c e x)) (exits log) h
  each-exit log (Before account c e shown) has keeps h =
      grind (arith, common_steps, all-changed, challenge-keeps) steps 20000
  each-exit log (Respond account c e challenged spend) has keeps h =
      all-changed c e (with_answer challenged) keeps (exits log) h
  each-exit log call has keeps h = h
