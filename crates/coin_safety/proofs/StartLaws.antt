-- The start of an exit at the last of a coin's links.
use Rattle.coin_safety.proofs.Words.{◌≡◌, ◌∙◌, ℕ, ◌-◌, List, [], ◌∷◌, ◌++◌, length, take, slice_get, Some, refl, sym, ap, arith, RootCall, Shown, RawOpening, Link, Links, last_spend, guard_of, tip_shown, start_by, start_of}
use Rattle.std.proofs.lemmas.Grind.{common_steps}

get-last : {X : Type 0} (xs : List X) (x : X) → slice_get (xs ++ x ∷ []) (length xs) ≡ Some x
get-last [] x = refl
get-last (y ∷ ys) x = get-last ys x

take-before : {X : Type 0} (xs : List X) (x : X) → take (length xs) (xs ++ x ∷ []) ≡ xs
take-before [] x = refl
take-before (y ∷ ys) x = ap (λ rest. y ∷ rest) (take-before ys x)

-- it is shown by the link, and its parent by the links before
pub start-at-last : (account at : ℕ) (links : Links) (before : List Link) (link : Link) (shown : Shown)
    (opening : RawOpening) → links.spends ≡ before ++ link ∷ []
    → shown ≡ tip_shown (guard_of 0 links.deposit before).links → opening ≡ link.opening
    → RootCall.StartSpend account links.coin shown opening ≡ start_of account at links
start-at-last account at links before link shown opening is shows opens =
    let all : List Link = before ++ link ∷ [] in
    let long : length all - 1 ≡ length before = Prim.grind (arith, common_steps) in
    let found : last_spend links ≡ Some link =
    ap (λ spends. slice_get spends (length spends - 1)) is ∙ (ap (slice_get all) long ∙ get-last before link) in
    let rest : take (length links.spends - 1) links.spends ≡ before =
    ap (λ spends. take (length spends - 1) spends) is
    ∙ (ap (λ n. take n all) long ∙ take-before before link) in
    let last : RootCall.StartSpend account links.coin (tip_shown (guard_of 0 links.deposit before).links) link.opening
    ≡ start_of account at links =
    sym (ap (start_by account at links) found
    ∙ ap (λ spends. RootCall.StartSpend account links.coin (tip_shown (record links { spends = spends }))
    link.opening) rest) in
    rw (shows, opens) last
