-- What a note makes of the guards.
use Rattle.watcher_node.proofs.Words.{◌≡◌, ◌<◌, ◌+◌, ◌||◌, ℕ, Bool, List, [], ◌∷◌, length, take, get_or, map, filter, reverse, Option, None, Some, refl, sym, ap, arith, cases_Bool, list_any, filter_map, cons_option, option_map, common_steps, Bundle, Note, is_of, with_guard, note_in, guards_of, change_of, is_watched_at, with_watched, changed, changed_by, watched_in, kept_coin_of}
use Rattle.std.proofs.lemmas.List.{map-append, take_more}
use Rattle.node_rules.proofs.OneMore.{reverse-grow}

filter-map : {X Y : Type 0} (f : X → Y) (p : Y → Bool) (xs : List X)
    → filter p (map f xs) ≡ map f (filter (λ x. p (f x)) xs)
filter-map f p [] = refl
filter-map {X} {Y} f p (x ∷ xs) = grind (arith, common_steps, filter-map f p xs, cases_Bool) steps 20000

pub any-map : (tag : List ℕ) (coin tip : ℕ) (guards : List Bundle)
    → list_any (is_watched_at coin tip) (map (kept_coin_of tag) guards) ≡ list_any (is_of coin tip) guards
any-map tag coin tip [] = refl
any-map tag coin tip (kept ∷ guards) = ap (λ (b : Bool). is_of coin tip kept || b) (any-map tag coin tip guards)

with-map : (tag : List ℕ) (kept : Bundle) (guards : List Bundle)
    → with_watched (kept_coin_of tag kept) (map (kept_coin_of tag) guards)
    ≡ map (kept_coin_of tag) (with_guard kept guards)
with-map tag kept guards = grind (arith, common_steps, any-map, filter-map, map-append) steps 20000

pub watched_in-more : (tag : List ℕ) (note : Note) (notes : List Note)
    → watched_in tag (note ∷ notes) ≡ changed (change_of tag note) (watched_in tag notes)
unfolding guards_of
watched_in-more tag note notes = grind (arith, common_steps, with-map, filter-map) steps 20000

pub watched_in-none : (tag : List ℕ) → watched_in tag [] ≡ []
unfolding guards_of
watched_in-none tag = refl

pub watched-start : (dig : List ℕ → List ℕ) (tag : List ℕ)
    → [] ≡ watched_in tag (reverse (filter_map (note_in dig tag) []))
watched-start dig tag = sym (watched_in-none tag)

read-more : (tag : List ℕ) (note : Option Note) (notes : List Note)
    → watched_in tag (cons_option note notes) ≡ changed_by (option_map (change_of tag) note) (watched_in tag notes)
read-more tag None notes = refl
read-more tag (Some note) notes = watched_in-more tag note notes

pub watched-take : (dig : List ℕ → List ℕ) (tag : List ℕ) (bodies : List (List ℕ)) (i : ℕ) (body : List ℕ)
    → i < length bodies → body ≡ get_or bodies i body
    → watched_in tag (reverse (filter_map (note_in dig tag) (take (i + 1) bodies)))
    ≡ changed_by (option_map (change_of tag) (note_in dig tag body))
    (watched_in tag (reverse (filter_map (note_in dig tag) (take i bodies))))
watched-take dig tag bodies i body less is = grind (arith, common_steps, take_more, reverse-grow, read-more) steps 20000
