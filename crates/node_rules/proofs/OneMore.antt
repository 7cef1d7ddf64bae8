-- Records with one more.
use Rattle.node_rules.proofs.Words.{◌≡◌, List, [], ◌∷◌, ◌++◌, Option, Some, None, refl, sym, subst, arith, IfSome, reverse, All, filter_map, cons_option, reverse-append, All-nil, All-cons, All-head, All-tail, All-push, filter_map-append, common_steps}

-- what holds of a record, wherever there is one
pub if_some-each : {X : Type 0} (found : Option X) (P : X → Type 0) → ((x : X) → found ≡ Some x → P x)
    → IfSome found P
if_some-each None P each = tt
if_some-each (Some x) P each = each x refl

reverse-one : {X : Type 0} (found : Option X) (xs : List X)
    → reverse (cons_option found []) ++ xs ≡ cons_option found xs
reverse-one None xs = refl
reverse-one (Some x) xs = refl

-- what is read of things with one more, the newest first: what is read of that one, before the rest
pub reverse-grow : {X Y : Type 0} (read : X → Option Y) (xs : List X) (x : X)
    → reverse (filter_map read (xs ++ x ∷ [])) ≡ cons_option (read x) (reverse (filter_map read xs))
reverse-grow read xs x = grind (arith, common_steps, filter_map-append, reverse-append, reverse-one) steps 20000

-- what holds of each holds of each the other way round
pub All-reverse : {X : Type 0} (P : X → Type 0) (xs : List X) → All P xs → All P (reverse xs)
All-reverse P [] all = All-nil P
All-reverse P (x ∷ xs) all =
    subst (All P) (sym (reverse-append (x ∷ []) xs))
    (All-push P (reverse xs) x (All-reverse P xs (All-tail P x xs all)) (All-head P x xs all))

-- and of what is read of each
pub All-filter_map : {X Y : Type 0} (read : X → Option Y) (P : X → Type 0) (Q : Y → Type 0)
    → ((x : X) (y : Y) → P x → read x ≡ Some y → Q y) → (xs : List X) → All P xs → All Q (filter_map read xs)
All-filter_map read P Q each [] all = All-nil Q
All-filter_map {X} {Y} read P Q each (x ∷ xs) all =
    let rest = All-filter_map read P Q each xs (All-tail P x xs all) in
    (elim (read x) as (λ o. read x ≡ o → All Q (cons_option o (filter_map read xs))) [
      | None ↦ λ none. rest
      | Some y ↦ λ some. All-cons Q y (filter_map read xs) (each x y (All-head P x xs all) some) rest
    ]) refl
