-- What a wallet keeps in memory of its notes.
use Rattle.wallet_node.proofs.Words.{◌≡◌, ◌<◌, ◌+◌, ℕ, true, List, [], ◌∷◌, ◌++◌, length, take, get_or, Option, None, Some, refl, arith, reverse, filter_map, cons_option, option_map, map-append, take_more, common_steps, Owner, are_of, Note, Accepts, LeavesWith, Reclaims, note_in, notes_of, accepted_of, state_notes, owner_of, who_is, wallet_kinds, state-accepts, state-leaves, state-reclaims, accepted-accepts, accepted-leaves, accepted-reclaims, note-adds, change_of, changed, changed_by, memory_of, memory_in}
use Rattle.node_rules.proofs.OneMore.{reverse-grow}

-- one more note
pub memory-more : (me : Owner) (tag : List ℕ) (note : Note) (notes : List Note)
    → memory_of me tag (note ∷ notes) ≡ changed (change_of tag note) (memory_of me tag notes)
memory-more me tag note notes =
    grind (
      arith,
      common_steps,
      state-accepts,
      accepted-accepts,
      map-append,
      state-leaves,
      accepted-leaves,
      state-reclaims,
      accepted-reclaims,
    ) steps 20000

-- or none, where a record spells none
memory-by : (me : Owner) (tag : List ℕ) (note : Option Note) (notes : List Note)
    → memory_of me tag (cons_option note notes) ≡ changed_by (option_map (change_of tag) note) (memory_of me tag notes)
memory-by me tag None notes = refl
memory-by me tag (Some note) notes = memory-more me tag note notes

pub memory-none : (me : Owner) (tag : List ℕ)
    → memory_of me tag [] ≡ record {
      noted = record { me = me; accepted = []; leaving = []; reclaimed = [] };
      kept = [];
    }
unfolding state_notes accepted_of
memory-none me tag = refl

-- one more record
pub memory-take : (dig : List ℕ → List ℕ) (me : Owner) (tag : List ℕ) (records : List (List ℕ)) (i : ℕ)
    (body : List ℕ) → i < length records → body ≡ get_or records i body
    → memory_of me tag (reverse (filter_map (note_in dig tag) (take (i + 1) records)))
    ≡ changed_by (option_map (change_of tag) (note_in dig tag body))
    (memory_of me tag (reverse (filter_map (note_in dig tag) (take i records))))
memory-take dig me tag records i body less is =
    grind (arith, common_steps, take_more, reverse-grow, memory-by) steps 20000

-- the owner stays
noted-me : (me : Owner) (notes : List Note) → (state_notes me notes).me ≡ me
unfolding state_notes
noted-me me [] = refl
noted-me me (Accepts kept ∷ notes) = noted-me me notes
noted-me me (LeavesWith coin tip ∷ notes) = noted-me me notes
noted-me me (Reclaims coin tip q ∷ notes) = noted-me me notes

pub memory-me : (dig : List ℕ → List ℕ) (records : List (List ℕ))
    → (memory_in dig records).noted.me ≡ owner_of (who_is records)
memory-me dig records = noted-me (owner_of (who_is records)) (notes_of dig records)

-- a note behind records that are a wallet's
pub memory-grow : (dig : List ℕ → List ℕ) (records : List (List ℕ)) (body : List ℕ) (note : Note)
    → are_of (wallet_kinds dig) records ≡ true → note_in dig (who_is records).tag body ≡ Some note
    → memory_in dig (records ++ body ∷ []) ≡ changed (change_of (who_is records).tag note) (memory_in dig records)
memory-grow dig records body note role is = grind (arith, common_steps, note-adds, memory-more) steps 20000
