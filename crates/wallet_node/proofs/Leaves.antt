-- What a wallet's leaves do, in the words of its commands.
use Rattle.wallet_node.proofs.Words.{◌≡◌, ℕ, Bool, true, false, List, [], ◌∷◌, ◌++◌, length, Option, None, Some, if◌then◌else◌, Err, inl, refl, sym, ◌∙◌, ap, subst, arith, IfSome, All, All-push, common_steps, Secret, Body, body_text, body_at_start, binding_record, is_marked, messages_of, MayBind, marker_effect, bind_stop, migrate_stop, LeafRecord, WalletIdentity, is_body, leaves_in, notes_of, are_bound_notes, WalletRecords, migrate_effect, leaves-grow, bound-grow, stop_in, MemoryState, IsKept, body_of, bind_refusal, migrate_refusal}
use Rattle.leaf_journal.specs.declared.refusal.BindRefusal.{BindRefusal}
use Rattle.leaf_journal.specs.declared.refusal.MigrateRefusal.{MigrateRefusal}
use Rattle.node_rules.proofs.Bodies.{text-long, text-is_body}

pub migrate-stops : (why : MigrateRefusal) → migrate_stop (Err why) ≡ stop_in (migrate_refusal why)
migrate-stops why = grind (arith, common_steps) steps 20000

pub migrate-same : (wallet : WalletRecords)
    → (marker_effect wallet.leaves).note ≡ (migrate_effect wallet).leaf
unfolding migrate_effect
migrate-same wallet = grind (arith, common_steps) steps 20000

pub bind-stops : (why : BindRefusal) → bind_stop (Err why) ≡ stop_in (bind_refusal why)
bind-stops why = grind (arith, common_steps) steps 20000

-- a message that a body's bytes are
pub body-binds : (leaves : List (List ℕ)) (body : Body) → length body.tag ≡ 32 → length body.to.key ≡ 56
    → IfSome body.last (λ last. is_marked leaves ≡ true) → MayBind leaves (body_text body)
body-binds leaves body tag_long key_long form = at body.last refl form
  where
    at : (last : Option ℕ) → body.last ≡ last → IfSome last (λ n. is_marked leaves ≡ true)
        → MayBind leaves (body_text (record body { last = last }))
    at None is marked = inl (text-long body.tag body.coin body.parent body.to tag_long key_long None)
    at (Some last) is marked = grind (arith, common_steps, text-long) steps 20000

-- what is kept with one more leaf bound
pub kept-bound : (dig : List ℕ → List ℕ) (notes leaves : List (List ℕ)) (message : List ℕ) (more : List (List ℕ))
    (who : WalletIdentity) (secret : Secret) (public : List ℕ) (memory : MemoryState) (bodies after : List LeafRecord)
    → MayBind leaves message → is_body message ≡ true → more ≡ leaves ++ binding_record leaves message ∷ []
    → messages_of more ≡ messages_of leaves ++ message ∷ []
    → after ≡ bodies ++ record { body = body_at_start message } ∷ []
    → IsKept dig (record { notes = notes; leaves = leaves }) who secret public memory bodies
    → IsKept dig (record { notes = notes; leaves = more }) who secret public memory after
kept-bound dig notes leaves message more who secret public memory bodies after may is more_is messages after_is kept =
    let grown : leaves_in more ≡ leaves_in leaves ++ record { body = body_at_start message } ∷ [] =
    ap leaves_in more_is ∙ leaves-grow leaves message may in
    record {
      is_who = kept.is_who;
      is_secret = kept.is_secret;
      is_public = kept.is_public;
      count = kept.count;
      is_memory = kept.is_memory;
      are_bodies =
          after_is ∙ ap (λ (l : List LeafRecord). l ++ record { body = body_at_start message } ∷ []) kept.are_bodies
          ∙ sym grown;
      pass =
          subst (All (λ one. is_body one ≡ true)) (sym messages)
          (All-push (λ one. is_body one ≡ true) (messages_of leaves) message kept.pass is);
      bound =
          ap (λ (l : List LeafRecord). are_bound_notes l (notes_of dig notes)) grown
          ∙ bound-grow (leaves_in leaves) (record { body = body_at_start message } ∷ []) (notes_of dig notes)
          kept.bound;
    }

-- a body's bytes are a message
pub body-is : (body : Body) → length body.tag ≡ 32 → length body.to.key ≡ 56 → is_body (body_text body) ≡ true
body-is body tag_long key_long =
    text-is_body body.tag body.coin body.parent body.to tag_long key_long body.last

-- what is read of a message
pub read-is : (message : List ℕ) (body : Body) → Some body ≡ body_of message → body ≡ body_at_start message
read-is message body is = at (is_body message) is
  where
    at : (b : Bool) → Some body ≡ (if b then Some (body_at_start message) else None) → body ≡ body_at_start message
    at true found = cc found
    at false found = absurd (cc found)

pub read-some : (message : List ℕ) → is_body message ≡ true → None ≡ body_of message → ⊥
read-some message is none = (let wrong : None ≡ Some (body_at_start message) = rw is at none in absurd (cc wrong))

-- what is kept stays with what is the same
pub kept-same : (dig : List ℕ → List ℕ) (notes leaves more : List (List ℕ)) (who : WalletIdentity) (secret : Secret)
    (public key : List ℕ) (memory : MemoryState) (bodies after : List LeafRecord)
    → more ≡ leaves → key ≡ public → after ≡ bodies
    → IsKept dig (record { notes = notes; leaves = leaves }) who secret public memory bodies
    → IsKept dig (record { notes = notes; leaves = more }) who secret key memory after
kept-same dig notes leaves more who secret public key memory bodies after more_is key_is after_is kept =
    grind (arith, common_steps) steps 20000
