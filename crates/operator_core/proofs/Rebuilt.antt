-- What records leave, a record at a time.
use Rattle.operator_core.proofs.Words.{◌≡◌, ℕ, ◌+◌, ◌<◌, List, [], ◌∷◌, ◌++◌, length, get_or, take, arith, reverse-append, take_more, filter_map-append, common_steps, Note, note_in, Forest, forest_of, after_note, notes_among, put_of, with_put, changed}
use Rattle.std.specs.Option.{option_map}

pub with_put-is : (note : Note) (forest : Forest) → with_put (put_of note) forest ≡ after_note note forest
with_put-is note forest = grind (arith, common_steps) steps 20000

pub forest-push : (tag : List ℕ) (bodies : List (List ℕ)) (body : List ℕ)
    → forest_of (notes_among tag (bodies ++ body ∷ []))
    ≡ changed (option_map put_of (note_in tag body)) (forest_of (notes_among tag bodies))
unfolding forest_of
forest-push tag bodies body = grind (arith, common_steps, filter_map-append, reverse-append, with_put-is) steps 20000

-- one more record
pub forest-more : (tag : List ℕ) (records : List (List ℕ)) (i : ℕ) (there : List ℕ) → i < length records
    → there ≡ get_or records i there
    → forest_of (notes_among tag (take (i + 1) records))
    ≡ changed (option_map put_of (note_in tag there)) (forest_of (notes_among tag (take i records)))
forest-more tag records i there lt is = grind (arith, common_steps, take_more, forest-push) steps 20000
