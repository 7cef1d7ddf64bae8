-- What a wallet keeps in memory with one more note.
use Rattle.wallet_node.proofs.Words.{◌≡◌, ℕ, true, List, [], ◌∷◌, ◌++◌, Option, Some, None, refl, sym, ◌∙◌, ap, subst, arith, option_map, and_from, common_steps, Secret, leaf_count, public_key_of, leaves_of, are_of, may_follow, LeafRecord, WalletIdentity, Note, secret_of, note_in, who_is, wallet_kinds, leaves_in, is_bound_note, note-adds, note-follows, MemoryState, change_of, changed, is_bound_change, IsKept}
use Rattle.wallet_node.specs.declared.change.Change.{Change}
use Rattle.wallet_node.proofs.InMemory.{memory-grow}

-- the note that spells a change
note-from : (tag : List ℕ) (found : Option Note) (change : Change) → Some change ≡ option_map (change_of tag) found
    → (note : Note) × (found ≡ Some note) × (change ≡ change_of tag note)
note-from tag None change is = absurd (cc is)
note-from tag (Some note) change is = (note, refl, cc is)

bound-same : (tag : List ℕ) (leaves : List LeafRecord) (note : Note)
    → is_bound_change leaves (change_of tag note) ≡ is_bound_note leaves note
bound-same tag leaves note = grind (arith, common_steps) steps 20000

-- a record that spells a change may follow
pub change-follows : (dig : List ℕ → List ℕ) (records : List (List ℕ)) (body : List ℕ) (change : Change)
    → are_of (wallet_kinds dig) records ≡ true
    → Some change ≡ option_map (change_of (who_is records).tag) (note_in dig (who_is records).tag body)
    → may_follow (wallet_kinds dig) records body ≡ true
change-follows dig records body change role spells = grind (arith, common_steps, note-from, note-follows) steps 20000

-- and what is kept with it
pub kept-more : (dig : List ℕ → List ℕ) (records leaves : List (List ℕ)) (body : List ℕ) (more : List (List ℕ))
    (who : WalletIdentity) (secret : Secret) (public : List ℕ) (memory after : MemoryState) (bodies : List LeafRecord)
    (change : Change) → are_of (wallet_kinds dig) records ≡ true → more ≡ records ++ body ∷ []
    → Some change ≡ option_map (change_of (who_is records).tag) (note_in dig (who_is records).tag body)
    → is_bound_change (leaves_in leaves) change ≡ true → after ≡ changed change memory
    → IsKept dig (record { notes = records; leaves = leaves }) who secret public memory bodies
    → IsKept dig (record { notes = more; leaves = leaves }) who secret public after bodies
kept-more dig records leaves body more who secret public memory after bodies change role more_is spells may taken kept =
    let tag = (who_is records).tag in
    let found = note-from tag (note_in dig tag body) change spells in
    let note = found.0 in
    let adds = note-adds dig records role body note found.1 in
    let bound : is_bound_note (leaves_in leaves) note ≡ true =
    sym (bound-same tag (leaves_in leaves) note) ∙ ap (is_bound_change (leaves_in leaves)) (sym found.2) ∙ may in
    subst (λ (r : List (List ℕ)). IsKept dig (record { notes = r; leaves = leaves }) who secret public after bodies)
    (sym more_is) (record {
      is_who = kept.is_who ∙ sym adds.0;
      is_secret = subst (λ (w : WalletIdentity). secret ≡ secret_of w) (sym adds.0) kept.is_secret;
      is_public = subst (λ (w : WalletIdentity). public ≡ public_key_of (secret_of w)) (sym adds.0) kept.is_public;
      count = subst (λ (w : WalletIdentity). leaves_of public ≡ leaf_count w.types) (sym adds.0) kept.count;
      is_memory = grind (arith, common_steps, memory-grow) steps 20000;
      are_bodies = kept.are_bodies;
      pass = kept.pass;
      bound = grind (arith, common_steps, and_from) steps 20000;
    })
