-- A wallet's records with one more.
use Rattle.node_rules.proofs.Words.{◌≡◌, ℕ, zero, suc, ◌&&◌, ◌||◌, cond, Bool, true, false, List, [], ◌∷◌, ◌++◌, map, drop, Option, Some, is_ok, Ok, refl, ap, ◌∙◌, arith, Result, reverse, slice_get, filter_map, cons_option, list_all, option_map_or, and_parts, and_from, false≢true, map-append, drop_at, reverse-append, list_all-append, common_steps, are_of, may_follow, notes_follow, binding_record, is_marked, marker, messages_of, leaf_records_of, may_follow_leaf, may_follow_of, MayBind, all_same, one_more, binding-messages, marker-messages, Owner, body_at_start, Bundle, LeafRecord, owner_of, Note, Accepts, LeavesWith, Reclaims, note_in, tag_in, wallet_kinds, who_is, notes_of, accepted_of, coin_tip, state_notes, is_body, leaves_in, is_bound_note, are_bound_notes, WalletRecords, who, noted, leaves_of, are_bound, is_wallet, is_bound_record, AddsNote}
use Rattle.std.specs.Ordering.{nat_cmp}
use Rattle.std.specs.BTreeSet.{insert_key}
use Rattle.node_rules.proofs.OneMore.{reverse-grow}

-- ---- notes

-- records begin with the identity that has their tag
pub tag-same : (identity : List ℕ) (notes : List (List ℕ)) → (who_is (identity ∷ notes)).tag ≡ tag_in identity
unfolding who_is
tag-same identity notes = grind (arith, common_steps) steps 20000

-- it is the same behind each of them
pub who-same : (identity : List ℕ) (notes more : List (List ℕ))
    → who_is ((identity ∷ notes) ++ more) ≡ who_is (identity ∷ notes)
unfolding who_is
who-same identity notes more = refl

-- the notes with one more record: that of the record, where it spells one, before them
pub notes-grow : (dig : List ℕ → List ℕ) (identity : List ℕ) (notes : List (List ℕ)) (body : List ℕ)
    → notes_of dig ((identity ∷ notes) ++ body ∷ [])
    ≡ cons_option (note_in dig (who_is (identity ∷ notes)).tag body) (notes_of dig (identity ∷ notes))
unfolding notes_of
notes-grow dig identity notes body = grind (arith, common_steps, who-same, reverse-grow) steps 20000

-- a record that spells a note may stand behind an identity, and is read as it
module _ (dig : List ℕ → List ℕ) (records : List (List ℕ)) (role : are_of (wallet_kinds dig) records ≡ true)
    (body : List ℕ) (note : Note) (is : note_in dig (who_is records).tag body ≡ Some note) where
  follows-at : (all : List (List ℕ)) → are_of (wallet_kinds dig) all ≡ true
      → note_in dig (who_is all).tag body ≡ Some note → may_follow (wallet_kinds dig) all body ≡ true
  follows-at all wrong spells = grind (arith, common_steps, false≢true, tag-same) steps 20000

  pub note-follows : may_follow (wallet_kinds dig) records body ≡ true
  note-follows = follows-at records role is

  pub note-keeps : are_of (wallet_kinds dig) (records ++ body ∷ []) ≡ true
  note-keeps = notes_follow (wallet_kinds dig) records body role note-follows

  adds-at : (all : List (List ℕ)) → are_of (wallet_kinds dig) all ≡ true
      → note_in dig (who_is all).tag body ≡ Some note → AddsNote dig all note body
  adds-at all wrong spells = grind (arith, common_steps, false≢true, who-same, notes-grow) steps 20000

  pub note-adds : AddsNote dig records note body
  note-adds = adds-at records role is

-- what notes say with one more
pub state-accepts : (me : Owner) (kept : Bundle) (notes : List Note)
    → state_notes me (Accepts kept ∷ notes)
    ≡ record (state_notes me notes) { accepted = (state_notes me notes).accepted ++ coin_tip kept.coin kept.tip ∷ [] }
unfolding state_notes
state-accepts me kept notes = refl

pub state-leaves : (me : Owner) (coin tip : ℕ) (notes : List Note)
    → state_notes me (LeavesWith coin tip ∷ notes)
    ≡ record (state_notes me notes) { leaving = (state_notes me notes).leaving ++ coin_tip coin tip ∷ [] }
unfolding state_notes
state-leaves me coin tip notes = refl

pub state-reclaims : (me : Owner) (coin tip q : ℕ) (notes : List Note)
    → state_notes me (Reclaims coin tip q ∷ notes)
    ≡ record (state_notes me notes) { reclaimed = insert_key nat_cmp (state_notes me notes).reclaimed q }
unfolding state_notes
state-reclaims me coin tip q notes = refl

pub accepted-accepts : (kept : Bundle) (notes : List Note)
    → accepted_of (Accepts kept ∷ notes) ≡ accepted_of notes ++ kept ∷ []
unfolding accepted_of
accepted-accepts kept notes = refl

pub accepted-leaves : (coin tip : ℕ) (notes : List Note)
    → accepted_of (LeavesWith coin tip ∷ notes) ≡ accepted_of notes
unfolding accepted_of
accepted-leaves coin tip notes = refl

pub accepted-reclaims : (coin tip q : ℕ) (notes : List Note)
    → accepted_of (Reclaims coin tip q ∷ notes) ≡ accepted_of notes
unfolding accepted_of
accepted-reclaims coin tip q notes = refl

-- the same of all records
pub noted-grow : (dig : List ℕ → List ℕ) (wallet : WalletRecords) (body : List ℕ) (note : Note)
    → AddsNote dig wallet.notes note body
    → noted dig (record wallet { notes = wallet.notes ++ body ∷ [] })
    ≡ state_notes (owner_of (who wallet)) (note ∷ notes_of dig wallet.notes)
noted-grow dig wallet body note adds = λ i. state_notes (owner_of (adds.0 i)) (adds.1 i)

-- ---- leaves

-- the leaves with one more record that binds a message, and with the marker
pub leaves-grow : (leaves : List (List ℕ)) (message : List ℕ) → MayBind leaves message
    → leaves_in (leaves ++ binding_record leaves message ∷ [])
    ≡ leaves_in leaves ++ record { body = body_at_start message } ∷ []
leaves-grow leaves message may =
    let read : List ℕ → LeafRecord = λ m. record { body = body_at_start m } in
    ap (map read) (binding-messages leaves message may) ∙ map-append read (messages_of leaves) (message ∷ [])

pub leaves-marked : (leaves : List (List ℕ)) → is_marked leaves ≡ false
    → leaves_in (leaves ++ marker ∷ []) ≡ leaves_in leaves
leaves-marked leaves not_marked =
    ap (map (λ message. record { body = body_at_start message })) (marker-messages leaves not_marked)

-- what is in a list is in a longer one
get-more : {X : Type 0} (xs more : List X) (i : ℕ) (x : X) → slice_get xs i ≡ Some x
    → slice_get (xs ++ more) i ≡ Some x
get-more [] more i x is = absurd (cc is)
get-more (y ∷ ys) more zero x is = is
get-more (y ∷ ys) more (suc i) x is = get-more ys more i x is

bound-note : (leaves more : List LeafRecord) (note : Note) → is_bound_note leaves note ≡ true
    → is_bound_note (leaves ++ more) note ≡ true
bound-note leaves more note is = grind (arith, common_steps, false≢true, get-more) steps 20000

-- notes stay bound as leaves grow
pub bound-grow : (leaves more : List LeafRecord) (notes : List Note) → are_bound_notes leaves notes ≡ true
    → are_bound_notes (leaves ++ more) notes ≡ true
bound-grow leaves more [] is = refl
bound-grow leaves more (note ∷ notes) is =
    let parts = and_parts (is_bound_note leaves note) (are_bound_notes leaves notes) is in
    grind (arith, common_steps, bound-grow leaves more notes parts.1, and_from, bound-note) steps 20000

-- ---- notes that take leaves back, by their records

list_all-reverse : {X : Type 0} (p : X → Bool) (xs : List X) → list_all p (reverse xs) ≡ list_all p xs
list_all-reverse p [] = refl
list_all-reverse p (x ∷ xs) =
    grind (arith, common_steps, list_all-reverse p xs, reverse-append, list_all-append) steps 20000

list_all-filter_map : {X Y : Type 0} (read : X → Option Y) (p : Y → Bool) (xs : List X)
    → list_all p (filter_map read xs) ≡ list_all (λ x. option_map_or p (read x) true) xs
list_all-filter_map read p [] = refl
list_all-filter_map {X} {Y} read p (x ∷ xs) = grind (arith, common_steps, list_all-filter_map read p xs) steps 20000

-- the notes of records are bound where each record takes back no leaf, or one that may be
pub bound-each : (dig : List ℕ → List ℕ) (leaves : List LeafRecord) (records : List (List ℕ))
    → are_bound_notes leaves (notes_of dig records)
    ≡ list_all (is_bound_record dig (who_is records).tag leaves) (drop 1 records)
unfolding notes_of
bound-each dig leaves records = grind (arith, common_steps, list_all-reverse, list_all-filter_map) steps 20000

-- ---- the wallet

pub record AreWallet (dig : List ℕ → List ℕ) (wallet : WalletRecords) : Type 0 where
  pub role : are_of (wallet_kinds dig) wallet.notes ≡ true
  pub leaves : leaf_records_of is_body (leaves_of wallet.notes) wallet.leaves ≡ Ok wallet.leaves
  pub bound : are_bound dig wallet ≡ true

read-all : (leaves : ℕ) (records : List (List ℕ)) (read : Result (List (List ℕ)) ℕ)
    → leaf_records_of is_body leaves records ≡ read → is_ok read ≡ true
    → leaf_records_of is_body leaves records ≡ Ok records
read-all leaves records read is wrong = grind (arith, common_steps, all_same) steps 20000

pub wallet-parts : (dig : List ℕ → List ℕ) (wallet : WalletRecords) → is_wallet dig wallet ≡ true
    → AreWallet dig wallet
unfolding is_wallet
wallet-parts dig wallet is = grind (arith, common_steps, and_parts, read-all) steps 20000

pub wallet-from : (dig : List ℕ → List ℕ) (wallet : WalletRecords) → AreWallet dig wallet
    → is_wallet dig wallet ≡ true
unfolding is_wallet
wallet-from dig wallet are = grind (arith, common_steps, and_from) steps 20000

-- one more note of leaves that may be taken back
pub wallet-noted : (dig : List ℕ → List ℕ) (wallet : WalletRecords) (body : List ℕ) (note : Note)
    → is_wallet dig wallet ≡ true → note_in dig (who wallet).tag body ≡ Some note
    → is_bound_note (leaves_in wallet.leaves) note ≡ true
    → is_wallet dig (record wallet { notes = wallet.notes ++ body ∷ [] }) ≡ true
wallet-noted dig wallet body note is reads binds =
    grind (arith, common_steps, wallet-parts, note-adds, wallet-from, note-keeps, and_from) steps 20000

-- one more record of a leaf, which reads as it may
pub wallet-bound : (dig : List ℕ → List ℕ) (wallet : WalletRecords) (body : List ℕ) (more : List LeafRecord)
    → is_wallet dig wallet ≡ true → may_follow_of is_body (leaves_of wallet.notes) wallet.leaves body ≡ true
    → leaves_in (wallet.leaves ++ body ∷ []) ≡ leaves_in wallet.leaves ++ more
    → is_wallet dig (record wallet { leaves = wallet.leaves ++ body ∷ [] }) ≡ true
wallet-bound dig wallet body more is may reads =
    let are = wallet-parts dig wallet is in
    wallet-from dig (record wallet { leaves = wallet.leaves ++ body ∷ [] }) (record {
      role = are.role;
      leaves = one_more is_body (leaves_of wallet.notes) wallet.leaves body are.leaves may;
      bound =
          ap (λ (l : List LeafRecord). are_bound_notes l (notes_of dig wallet.notes)) reads
          ∙ bound-grow (leaves_in wallet.leaves) more (notes_of dig wallet.notes) are.bound;
    })

-- ---- a message of a kind

joined : (marked behind mark front number leaf whole : Bool)
    → cond marked (number && leaf) (mark || (whole && leaf)) ≡ true
    → (marked ≡ true → behind ≡ true) → (marked ≡ false → front ≡ true)
    → cond marked ((behind && number) && leaf) (mark || ((front && whole) && leaf)) ≡ true
joined marked behind mark front number leaf whole is second first = grind (arith, common_steps) steps 20000

-- a record that may follow by the form may follow where its message passes a test
pub kind-follows : (is_message : List ℕ → Bool) (leaves : ℕ) (before : List (List ℕ)) (message : List ℕ)
    → may_follow_leaf leaves before (binding_record before message) ≡ true → is_message message ≡ true
    → may_follow_of is_message leaves before (binding_record before message) ≡ true
kind-follows is_message leaves before message may passes = grind (arith, common_steps, joined, drop_at) steps 20000

-- so may the marker
pub marker-kind : (is_message : List ℕ → Bool) (leaves : ℕ) (before : List (List ℕ)) → is_marked before ≡ false
    → may_follow_of is_message leaves before marker ≡ true
marker-kind is_message leaves before not_marked = rw not_marked refl
