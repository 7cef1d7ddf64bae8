-- The start of an exit at the last of a coin's links.
use Rattle.wallet_node.proofs.Words.{◌≡◌, ℕ, ◌-◌, List, [], ◌∷◌, ◌++◌, length, take, slice_get, Some, refl, ap, arith, common_steps, RootCall, Link, tip_shown, start_of, links_behind}
use Rattle.plasma_tx.specs.declared.call.Shown.{Shown}
use Rattle.plasma_tx.specs.declared.opening.RawOpening.{RawOpening}

get-last : {X : Type 0} (xs : List X) (x : X) → slice_get (xs ++ x ∷ []) (length xs) ≡ Some x
get-last [] x = refl
get-last (y ∷ ys) x = get-last ys x

take-before : {X : Type 0} (xs : List X) (x : X) → take (length xs) (xs ++ x ∷ []) ≡ xs
take-before [] x = refl
take-before (y ∷ ys) x = ap (λ rest. y ∷ rest) (take-before ys x)

-- it is shown by the link, and its parent by the links before
pub start-at-last : (account coin tip deposit : ℕ) (spends before : List Link) (link : Link) (shown : Shown)
    (opening : RawOpening) → spends ≡ before ++ link ∷ [] → shown ≡ tip_shown (links_behind 0 deposit before)
    → opening ≡ link.opening
    → RootCall.StartSpend account coin shown opening ≡ start_of account tip (links_behind coin deposit spends)
start-at-last account coin tip deposit spends before link shown opening is shows opens =
    let all : List Link = before ++ link ∷ [] in
    let long : length all - 1 ≡ length before = Prim.grind (arith, common_steps) in
    grind (arith, common_steps, get-last, take-before) steps 20000
