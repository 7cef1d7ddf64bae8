-- The ends of windows, as loops find the first of them.
use Rattle.coin_safety.proofs.Words.{◌≡◌, ◌<◌, ℕ, ◌+◌, min, cond, not, true, false, if◌then◌else◌, List, [], ◌∷◌, ◌++◌, length, map, filter, take, get_or, Option, Some, refl, sym, ap, ◌∙◌, flat_map, option_map_or, option_to_list, ne_eqb, append_assoc, map_more, map-append, filter_more, ChallengeView, ExitView, CHALLENGE_WINDOW, RESPONSE_WINDOW, is_challenged, later, least, answer_ends, ends_of}
use Rattle.coin_safety.proofs.Numbers.{least-join, least-push, least-next, least-same}
use Rattle.coin_safety.proofs.Lists.{flat-more}

-- ---- answers

abbrev until : ChallengeView → ℕ
until challenge = later challenge.at RESPONSE_WINDOW

more-ends : (xs : List ChallengeView) (i : ℕ) (d : ChallengeView) → i < length xs
    → answer_ends (take (i + 1) xs)
    ≡ answer_ends (take i xs) ++ (if (get_or xs i d).answered then [] else until (get_or xs i d) ∷ [])
more-ends xs i d within =
    let x : ChallengeView = get_or xs i d in
    let open_of : List ChallengeView → List ChallengeView = filter (λ challenge. not challenge.answered) in
    ap (map until) (filter_more (λ challenge. not challenge.answered) xs i d within)
    ∙ map-append until (open_of (take i xs)) (cond (not x.answered) (x ∷ []) [])
    ∙ ap (λ l. answer_ends (take i xs) ++ l)
    (elim x.answered as (λ b. map until (cond (not b) (x ∷ []) []) ≡ (if b then [] else until x ∷ [])) [
      | true ↦ refl
      | false ↦ refl
    ])

-- a challenge that is open
pub unanswered-more : (o first : Option ℕ) (xs : List ChallengeView) (i : ℕ) (d : ChallengeView) (end less : ℕ)
    → i < length xs → (get_or xs i d).answered ≡ false → end ≡ until (get_or xs i d)
    → less ≡ option_map_or (min end) first end → first ≡ least (option_to_list o ++ answer_ends (take i xs))
    → Some less ≡ least (option_to_list o ++ answer_ends (take (i + 1) xs))
unanswered-more o first xs i d end less within unanswered end_is less_is was =
    let so_far : List ℕ = answer_ends (take i xs) in
    let x : ChallengeView = get_or xs i d in
    ap (λ (n : ℕ). Some n) less_is
    ∙ ap (λ (f : Option ℕ). Some (option_map_or (min end) f end)) was
    ∙ sym (least-push (option_to_list o ++ so_far) end)
    ∙ ap least (append_assoc (option_to_list o) so_far (end ∷ []))
    ∙ ap (λ n. least (option_to_list o ++ (so_far ++ n ∷ []))) end_is
    ∙ ap (λ b. least (option_to_list o ++ (so_far ++ (if b then [] else until x ∷ [])))) (sym unanswered)
    ∙ ap (λ l. least (option_to_list o ++ l)) (sym (more-ends xs i d within))

-- and one that is answered
pub answered-more : (o first : Option ℕ) (xs : List ChallengeView) (i : ℕ) (d : ChallengeView) → i < length xs
    → (get_or xs i d).answered ≡ true → first ≡ least (option_to_list o ++ answer_ends (take i xs))
    → first ≡ least (option_to_list o ++ answer_ends (take (i + 1) xs))
answered-more o first xs i d within answered was =
    let so_far : List ℕ = answer_ends (take i xs) in
    let x : ChallengeView = get_or xs i d in
    was
    ∙ ap (λ l. least (option_to_list o ++ l)) (sym (append_nil so_far))
    ∙ ap (λ b. least (option_to_list o ++ (so_far ++ (if b then [] else until x ∷ [])))) (sym answered)
    ∙ ap (λ l. least (option_to_list o ++ l)) (sym (more-ends xs i d within))
  where
    append_nil : (l : List ℕ) → l ++ [] ≡ l
    append_nil [] = refl
    append_nil (y ∷ ys) = ap (λ l. y ∷ l) (append_nil ys)

-- ---- an exit

ends-challenged : (at : ℕ) (exit : ExitView) → (exit.block ≡ at → ⊥) → is_challenged at exit.challenges ≡ true
    → ends_of at exit ≡ []
ends-challenged at exit other challenged =
    ap (λ b. if b then answer_ends exit.challenges
    else if is_challenged at exit.challenges then [] else later exit.start CHALLENGE_WINDOW ∷ [])
    (ne_eqb exit.block at other)
    ∙ ap (λ b. if b then [] else later exit.start CHALLENGE_WINDOW ∷ []) challenged

ends-unchallenged : (at : ℕ) (exit : ExitView) → (exit.block ≡ at → ⊥) → is_challenged at exit.challenges ≡ false
    → ends_of at exit ≡ later exit.start CHALLENGE_WINDOW ∷ []
ends-unchallenged at exit other none =
    ap (λ b. if b then answer_ends exit.challenges
    else if is_challenged at exit.challenges then [] else later exit.start CHALLENGE_WINDOW ∷ [])
    (ne_eqb exit.block at other)
    ∙ ap (λ b. if b then [] else later exit.start CHALLENGE_WINDOW ∷ []) none

pub challenged-first : (o : Option ℕ) (at : ℕ) (exit : ExitView) → (exit.block ≡ at → ⊥)
    → is_challenged at exit.challenges ≡ true → o ≡ least (option_to_list o ++ ends_of at exit)
challenged-first o at exit other challenged =
    least-same o ∙ ap (λ l. least (option_to_list o ++ l)) (sym (ends-challenged at exit other challenged))

pub unchallenged-first : (o : Option ℕ) (at : ℕ) (exit : ExitView) (end less : ℕ) → (exit.block ≡ at → ⊥)
    → is_challenged at exit.challenges ≡ false → end ≡ later exit.start CHALLENGE_WINDOW
    → less ≡ option_map_or (min end) o end → Some less ≡ least (option_to_list o ++ ends_of at exit)
unchallenged-first o at exit end less other none end_is less_is =
    ap (λ (n : ℕ). Some n) less_is
    ∙ ap (λ (n : ℕ). Some (option_map_or (min n) o n)) end_is
    ∙ least-next o (later exit.start CHALLENGE_WINDOW)
    ∙ ap (λ l. least (option_to_list o ++ l)) (sym (ends-unchallenged at exit other none))

-- ---- lists

-- the first of what each element gives
pub first-more : {X : Type 0} (f : X → List ℕ) (xs : List X) (i : ℕ) (x : X) (first next : Option ℕ) → i < length xs
    → x ≡ get_or xs i x → first ≡ least (flat_map f (take i xs)) → next ≡ least (option_to_list first ++ f x)
    → next ≡ least (flat_map f (take (i + 1) xs))
first-more f xs i x first next within at was is =
    is
    ∙ ap (λ (o : Option ℕ). least (option_to_list o ++ f x)) was
    ∙ least-join (flat_map f (take i xs)) (f x)
    ∙ ap (λ y. least (flat_map f (take i xs) ++ f y)) at
    ∙ ap least (flat-more f xs i x within)

-- the least of what each element gives
pub lesser-more : {X : Type 0} (f : X → ℕ) (xs : List X) (i : ℕ) (x : X) (first : Option ℕ) (n less : ℕ)
    → i < length xs → x ≡ get_or xs i x → first ≡ least (map f (take i xs)) → n ≡ f x
    → less ≡ option_map_or (min n) first n → Some less ≡ least (map f (take (i + 1) xs))
lesser-more f xs i x first n less within at was n_is less_is =
    ap (λ (k : ℕ). Some k) less_is
    ∙ ap (λ (k : ℕ). Some (option_map_or (min k) first k)) n_is
    ∙ ap (λ (o : Option ℕ). Some (option_map_or (min (f x)) o (f x))) was
    ∙ sym (least-push (map f (take i xs)) (f x))
    ∙ ap (λ y. least (map f (take i xs) ++ f y ∷ [])) at
    ∙ ap least (sym (map_more f xs i x within))
