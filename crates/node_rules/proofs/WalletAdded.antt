-- Which record each command of a wallet adds, and in which state.
use Rattle.node_rules.proofs.Words.{◌≡◌, ◌≢◌, ◌==◌, map, ℕ, ◌<◌, ◌&&◌, Bool, true, false, List, [], ◌∷◌, length, Option, Some, None, Ok, Err, refl, arith, Result, option_map_or, or_parts, eq-eqb, false≢true, and_parts, and_from, leb-false, common_steps, first_cause, leaf_count, binding_record, is_marked, marker, messages_of, MayBind, Owner, Link, Links, RootCall, tip_of, body_text, some_same, Bundle, HistoryRefusal, tip_from, tip-is, LeafRecord, Notes, CoinState, Nothing, Sending, Leaving, Held, spends_tip, Reclaimed, kept_of, Accepts, LeavesWith, Reclaims, note_text, leaves_in, may_reclaim, sent_body}
use Rattle.node_rules.specs.declared.refusal.WalletRefusal.{WalletRefusal}
use Rattle.node_rules.specs.Wallet.{WalletRecords, WalletEffect, unless, who, accept_causes, accept_taken, accept_by, send_causes, send_from, leave_from, last_of, reclaim_shown, reclaim_last, reclaim_from, reclaim_by, migrate_effect}
use Rattle.node_rules.proofs.Bodies.{text-long}

-- ---- causes

-- where no cause holds
first-none : {E : Type 0} (cause : Bool × E) (causes : List (Bool × E)) → first_cause (cause ∷ causes) ≡ None
    → (cause.0 ≡ false) × (first_cause causes ≡ None)
first-none {E} cause causes is = grind (arith, common_steps) steps 20000

-- a command that isn't refused does what it does else
unless-note : {A : Type 0} (failed : Option WalletRefusal) (effect : WalletEffect (Result A WalletRefusal))
    (body : List ℕ) → (unless failed effect).note ≡ Some body → (failed ≡ None) × (effect.note ≡ Some body)
unless-note None effect body is = (refl, is)
unless-note (Some why) effect body is = absurd (cc is)

unless-leaf : {A : Type 0} (failed : Option WalletRefusal) (effect : WalletEffect (Result A WalletRefusal))
    (leaf : List ℕ) → (unless failed effect).leaf ≡ Some leaf → (failed ≡ None) × (effect.leaf ≡ Some leaf)
unless-leaf None effect leaf is = (refl, is)
unless-leaf (Some why) effect leaf is = absurd (cc is)

-- one that adds no leaf adds none where it is refused, and so no note
no_leaf : {A : Type 0} (failed : Option WalletRefusal) (effect : WalletEffect (Result A WalletRefusal))
    → effect.leaf ≡ None → (unless failed effect).leaf ≡ None
no_leaf None effect is = is
no_leaf (Some why) effect is = refl

no_note : {A : Type 0} (failed : Option WalletRefusal) (effect : WalletEffect (Result A WalletRefusal))
    → effect.note ≡ None → (unless failed effect).note ≡ None
no_note None effect is = is
no_note (Some why) effect is = refl

-- ---- accept

spends-none : (spends : List Link) → map (λ link. link.opening) spends ≡ [] → spends ≡ []
spends-none [] is = refl
spends-none (link ∷ links) is = absurd (cc is)

-- links that don't end at the deposit have openings
opened : (links : Links) → (tip_of links == links.deposit) ≡ false → (kept_of links).openings ≢ []
opened links apart none = grind (arith, common_steps, tip-is, tip_from, spends-none, false≢true, eq-eqb) steps 20000

taken-note : (notes : Notes) (links : Links) (body : List ℕ) → (accept_taken notes links).note ≡ Some body
    → ((kept_of links).openings ≢ []) × (note_text (Accepts (kept_of links)) ≡ body)
taken-note notes links body is = grind (arith, common_steps, opened, or_parts, some_same) steps 20000

pub accept-note : (log : List RootCall) (notes : Notes) (handed : Result Links HistoryRefusal) (body : List ℕ)
    → (accept_by log notes handed).note ≡ Some body
    → (links : Links) × (handed ≡ Ok links) × ((kept_of links).openings ≢ [])
    × (note_text (Accepts (kept_of links)) ≡ body)
accept-note log notes (Err why) body is = absurd (cc is)
accept-note log notes (Ok links) body is =
    let taken = taken-note notes links body
    (unless-note (first_cause (accept_causes notes.me log links)) (accept_taken notes links) body is).1 in
    (links, refl, taken.0, taken.1)

taken-leaf : (notes : Notes) (links : Links) → (accept_taken notes links).leaf ≡ None
taken-leaf notes links = grind (arith, common_steps) steps 20000

pub accept-leaf : (log : List RootCall) (notes : Notes) (handed : Result Links HistoryRefusal)
    → (accept_by log notes handed).leaf ≡ None
accept-leaf log notes handed = grind (arith, common_steps, no_leaf, taken-leaf) steps 20000

-- ---- send

module _ (wallet : WalletRecords) (log : List RootCall) (coin : ℕ) (to : Owner) where
  -- a leaf is bound where the wallet holds the coin and nothing is refused
  pub send-leaf : (last : Option ℕ) (state : CoinState) (leaf : List ℕ)
      → (send_from wallet log coin to last state).leaf ≡ Some leaf
      → (tip : ℕ) × (state ≡ Held tip) × (first_cause (send_causes wallet log last) ≡ None)
      × (leaf ≡ binding_record wallet.leaves (body_text (sent_body wallet coin tip to last)))
  send-leaf last Nothing leaf is = absurd (cc is)
  send-leaf last (Sending tip q) leaf is = absurd (cc is)
  send-leaf last (Leaving tip) leaf is = absurd (cc is)
  send-leaf last (Held tip) leaf is = grind (arith, common_steps, unless-leaf, some_same) steps 20000

  pub send-note : (last : Option ℕ) (state : CoinState) → (send_from wallet log coin to last state).note ≡ None
  send-note last state = grind (arith, common_steps, no_note) steps 20000

  -- a message that isn't refused may be bound, and there is a leaf for it
  pub send-may : (tip : ℕ) (last : Option ℕ) → length (who wallet).tag ≡ 32 → length to.key ≡ 56
      → first_cause (send_causes wallet log last) ≡ None
      → (length (messages_of wallet.leaves) < leaf_count (who wallet).types)
      × MayBind wallet.leaves (body_text (sent_body wallet coin tip to last))
  send-may tip last tag_long key_long is = grind (arith, common_steps, first-none, leb-false, text-long) steps 20000

-- ---- leave

module _ (dig : List ℕ → List ℕ) (wallet : WalletRecords) (log : List RootCall) (coin : ℕ) where
  pub leave-note : (state : CoinState) (body : List ℕ) → (leave_from dig wallet log coin state).note ≡ Some body
      → (tip : ℕ) × (state ≡ Held tip) × (note_text (LeavesWith coin tip) ≡ body)
  leave-note state body is = grind (arith, common_steps, some_same) steps 20000

  pub leave-leaf : (state : CoinState) → (leave_from dig wallet log coin state).leaf ≡ None
  leave-leaf state = grind (arith, common_steps) steps 20000

-- ---- reclaim

abbrev taken_text : Reclaimed → List ℕ
taken_text taken = note_text (Reclaims taken.coin taken.tip taken.q)

-- the effect adds the note of what was taken back, and answers it
abbrev pub TakesBack : Reclaimed → List ℕ → WalletEffect (Result Reclaimed WalletRefusal) → Type 0
TakesBack taken body effect = (taken_text taken ≡ body) × (effect.answer ≡ Ok taken)

shown-note : (log : List RootCall) (taken : Reclaimed) (shown : Result Unit HistoryRefusal) (body : List ℕ)
    → (reclaim_shown log taken shown).note ≡ Some body → TakesBack taken body (reclaim_shown log taken shown)
shown-note log taken shown body is = grind (arith, common_steps, some_same) steps 20000

last-note : (dig : List ℕ → List ℕ) (log : List RootCall) (bundle : Bundle) (taken : Reclaimed) (found : Option ℕ)
    (body : List ℕ) → (reclaim_last dig log bundle taken found).note ≡ Some body
    → (last : ℕ) × (found ≡ Some last) × TakesBack taken body (reclaim_last dig log bundle taken found)
last-note dig log bundle taken found body is = grind (arith, common_steps, shown-note) steps 20000

-- what was taken back: the transfer of a leaf with a last block, by which the wallet is sending the coin
pub record IsTaken (wallet : WalletRecords) (state : CoinState) (coin : ℕ) (body : List ℕ)
    (answer : Result Reclaimed WalletRefusal) : Type 0 where
  pub tip : ℕ
  pub q : ℕ
  pub last : ℕ
  pub sending : state ≡ Sending tip q
  pub has_last : last_of (leaves_in wallet.leaves) q ≡ Some last
  pub text : note_text (Reclaims coin tip q) ≡ body
  pub answered : answer ≡ Ok (record { coin = coin; tip = tip; q = q })

pub reclaim-note : (dig : List ℕ → List ℕ) (wallet : WalletRecords) (log : List RootCall) (bundle : Bundle)
    (state : CoinState) (body : List ℕ) → (reclaim_from dig wallet log bundle state).note ≡ Some body
    → IsTaken wallet state bundle.coin body (reclaim_from dig wallet log bundle state).answer
reclaim-note dig wallet log bundle state body is = grind (arith, common_steps, last-note) steps 20000

pub reclaim-leaf : (dig : List ℕ → List ℕ) (wallet : WalletRecords) (log : List RootCall)
    (read : Result Bundle HistoryRefusal) → (reclaim_by dig wallet log read).leaf ≡ None
reclaim-leaf dig wallet log read = grind (arith, common_steps, no_leaf) steps 20000

-- a leaf that signs the coin away from the tip and has a last block may be taken back
pub may-reclaim : (coin tip last : ℕ) (free : Bool) (found : Option LeafRecord)
    → (option_map_or (spends_tip coin tip) found false && free) ≡ true
    → option_map_or (λ leaf. leaf.body.last) found None ≡ Some last
    → option_map_or (may_reclaim coin tip) found false ≡ true
may-reclaim coin tip last free found sends has = grind (arith, common_steps, and_from, and_parts) steps 20000

-- ---- migrate

pub migrate-leaf : (wallet : WalletRecords) (leaf : List ℕ) → (migrate_effect wallet).leaf ≡ Some leaf
    → (is_marked wallet.leaves ≡ false) × (leaf ≡ marker)
unfolding migrate_effect
migrate-leaf wallet leaf is = grind (arith, common_steps, some_same) steps 20000

pub migrate-note : (wallet : WalletRecords) → (migrate_effect wallet).note ≡ None
unfolding migrate_effect
migrate-note wallet = grind (arith, common_steps) steps 20000
