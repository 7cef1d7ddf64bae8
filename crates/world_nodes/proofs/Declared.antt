-- Nodes that are declared.
use Rattle.world_nodes.proofs.Words.{◌≡◌, ◌∷◌, [], ℕ, true, false, List, length, Option, Some, None, Result, Ok, refl, sym, ◌∙◌, ap, subst, arith, ForSome, option_map, option_map_or, unwrap_or, slice_get, OnOk, IfOk, common_steps, Step, asks_length, content, with_call, after_calls, WhereTold, MemState, none_listed, IsSettled, InitRefusal, init_steps, journal_steps, InitsOver, Inits, IsAsked, BeginsPair, public_key_of, Owner, WalletIdentity, identity_text, identity_in, owner_of, secret_of, who_is, new_node, DownNode, WalletDown, UpNode, Up, Down, Member, NodeView, EachKeeps, Spells, role_of, with_opening, with_beginning, begun_alone, begun_beside_leaves, begun_leaves, DiskBegan, DisksBegan, mem_told, mem_plan, mem_faults, NoneListed, Half, kept_half, leaves_of, down_kind, down_halves, up_halves, up_hash, Opens, empty_disk, member_kind, view_of, IsOf, IsWho, IsWhole, IsBegun, AreBegun, notes_told, leaves_told, first_note, IsIdentityOf, IsDeclared, NoFuses}
use Rattle.std.proofs.lemmas.Result.{IfOk-at_ok}
use Rattle.lms_sign.specs.declared.secret.Secret.{Secret}
use Rattle.world_nodes.proofs.Halves.{planned_listed}
use Rattle.world_nodes.proofs.Runs.{KeepsAll, up_has, keeps_view, up_opened, opened_told, opened_keeps, opened_same, whole_opened}

-- a disk that is settled with these records
pub begun_half : (records : List (List ℕ)) (disk : MemState) → IsSettled disk.history records → NoneListed disk
    → IsBegun records (kept_half disk)
begun_half records disk settled none = record {
  records_are = ap (λ (k : Option (List (List ℕ))). unwrap_or k []) settled.read;
  keeps = settled.images;
  listed = none;
}

-- an empty disk lists none
pub empty_listed : NoneListed empty_disk
empty_listed = record { listed = λ n. none_listed empty_disk refl n }

-- disks that keep an identity are declared
pub declared : (identity : List ℕ) (member : Member) (down : DownNode) → down_kind down ≡ member_kind member
    → AreBegun identity down → NoFuses (down_halves down) → IsIdentityOf (member_kind member) identity
    → IsOf member (identity ∷ []) → IsDeclared member down
declared identity member down kind begun unfused role is =
    let first : identity ≡ first_note down =
    sym (ap (λ (rs : List (List ℕ)). unwrap_or (slice_get rs 0) []) begun.notes.records_are) in
    grind (arith, common_steps) steps 20000

pub begun_records : (half : Option Half) → ForSome half (IsBegun []) → option_map_or (λ (h : Half). h.records) half
    [] ≡ []
begun_records None begun = refl
begun_records (Some half) begun = (begun half refl).records_are

pub begun_keeps : (identity : List ℕ) (down : DownNode) → AreBegun identity down → KeepsAll (down_halves down)
begun_keeps identity down begun = record {
  notes = grind (arith, common_steps) steps 20000;
  leaves = λ half is. subst (λ (rs : List (List ℕ)). EachKeeps rs half.disk.history)
      (sym (begun.leaves half is).records_are) (begun.leaves half is).keeps;
}

-- the entry over disks that were begun and opened
pub declared_comes : {H : Type 0} (digest : H → List ℕ → List ℕ) (hash : H) (name : List ℕ) (account : ℕ)
    (member : Member) (down : DownNode) (up : UpNode H) → IsDeclared member down → Opens (digest hash) down up
    → up_hash up ≡ hash
    → ((view_of hash name account member (Up up) []).node
    ≡ new_node (role_of (member_kind member)) name account (first_note down))
    × Spells (view_of hash name account member (Up up) []) × IsWhole hash member (Up up)
declared_comes {H} digest hash name account member down up is opens same =
    let keeps = begun_keeps (first_note down) down is.begun in
    let opened = up_opened (digest hash) down up opens keeps in
    let records = opened_same down up opened in
    let whole : IsWhole hash member (Down down) = record {
      is_site = is.kind;
      none_listed = record {
        notes = is.begun.notes.listed;
        leaves = λ half at. (is.begun.leaves half at).listed;
      };
      identity = subst (IsOf member) (sym is.begun.notes.records_are) is.is_of;
    } in
    let notes : (up_halves up).notes.records ≡ first_note down ∷ [] =
    opened.notes.records ∙ is.begun.notes.records_are in
    let leaves : leaves_of (up_halves up) ≡ [] =
    (λ i. (records i).leaves) ∙ begun_records (down_halves down).leaves is.begun.leaves in
    let after : IsWhole hash member (Up up) = whole_opened hash member down up whole opened same in (
      grind (arith, common_steps) steps 20000,
      keeps_view hash name account (role_of (member_kind member)) true (up_halves up) [] (up_has hash member up after)
          (opened_keeps down up opened),
      after,
    )

-- a wallet's identity is read from its record
pub first_reads : (who : WalletIdentity) → identity_in (identity_text who) ≡ Some who
    → who_is (identity_text who ∷ []) ≡ who
unfolding who_is
first_reads who read = ap (λ o. option_map_or (λ w. w) o Rattle.node_rules.specs.WalletRecords.no_one) read

pub wallet_is : (who : WalletIdentity) (owner : Owner) → identity_in (identity_text who) ≡ Some who
    → owner ≡ owner_of who → IsWho who owner (identity_text who ∷ [])
wallet_is who owner read owns = record { reads = first_reads who read; owns = owns; others = []; first = refl }

-- none is listed after an init that went through
pub init_listed : (steps : List ℕ → List Step) (old new : MemState) (result : Result Unit InitRefusal)
    (done : Unit {0}) → result ≡ Ok done → Inits mem_told mem_plan steps old result new → NoneListed old
    → NoneListed new
init_listed steps old new result done ok inits none =
    let over = subst (λ (r : Result Unit InitRefusal).
    InitsOver mem_told mem_plan steps (content old.history) old r new) ok (inits old.history refl) in
    planned_listed (length (steps (content old.history))) old new over.1.planned.1 none

-- nor after a question for the length
pub unfolded_asked : (old new : MemState) → IsAsked mem_told mem_plan mem_faults old new
    → mem_plan new ≡ option_map (after_calls 1) (mem_plan old)
unfolding after_calls
unfolded_asked old new asked = asked.called.goes_on

pub asked_listed : (old new : MemState) → IsAsked mem_told mem_plan mem_faults old new → NoneListed old → NoneListed new
asked_listed old new asked none = planned_listed 1 old new (unfolded_asked old new asked) none

pub pair_listed : (identity : List ℕ) (notes leaves new_notes new_leaves : MemState) (result : Result Unit
    InitRefusal)
    (done : Unit {0}) → result ≡ Ok done
    → BeginsPair mem_told mem_plan mem_faults mem_told mem_plan mem_faults identity notes leaves result
    new_notes new_leaves
    → NoneListed notes → NoneListed leaves → NoneListed new_notes × NoneListed new_leaves
pair_listed identity notes leaves new_notes new_leaves result done ok begins none none' =
    let both = subst (λ (r : Result Unit InitRefusal). BeginsPair mem_told mem_plan mem_faults mem_told
    mem_plan mem_faults
    identity notes leaves r new_notes new_leaves) ok begins in (
      init_listed (init_steps identity) both.0 new_notes (Ok tt) tt refl both.2.0.inits
          (asked_listed notes both.0 both.1 none),
      init_listed journal_steps leaves new_leaves (Ok tt) tt refl both.2.1.inits none',
    )

-- a disk that was begun with an identity
pub alone_begun : (identity : List ℕ) (old new : MemState) (result : Result Unit InitRefusal) (done : Unit {0})
    → result ≡ Ok done → Inits mem_told mem_plan (init_steps identity) old result new → old ≡ empty_disk
    → OnOk result (WhereTold (mem_told new) (λ now. IsSettled now (identity ∷ [])))
    → IsBegun (identity ∷ []) (kept_half new)
alone_begun identity old new result done ok inits empty begun =
    let settled = IfOk-at_ok (λ _. WhereTold (mem_told new) (λ now. IsSettled now (identity ∷ []))) ok begun in
    begun_half (identity ∷ []) new (settled new.history refl)
    (init_listed (init_steps identity) old new result done ok inits (subst NoneListed (sym empty) empty_listed))

pub both_begun : (identity : List ℕ) (notes leaves new_notes new_leaves : MemState) (key : Secret)
    (result : Result Unit InitRefusal) (done : Unit {0}) → result ≡ Ok done
    → BeginsPair mem_told mem_plan mem_faults mem_told mem_plan mem_faults identity notes leaves result
    new_notes new_leaves
    → notes ≡ empty_disk → leaves ≡ empty_disk
    → OnOk result (WhereTold (mem_told new_notes) (λ now. IsSettled now (identity ∷ [])))
    → OnOk result (WhereTold (mem_told new_leaves) (λ now. IsSettled now []))
    → AreBegun identity (WalletDown new_notes new_leaves key)
both_begun identity notes leaves new_notes new_leaves key result done ok begins empty empty' begun begun' =
    let listed = pair_listed identity notes leaves new_notes new_leaves result done ok begins
    (subst NoneListed (sym empty) empty_listed) (subst NoneListed (sym empty') empty_listed) in
    let settled = IfOk-at_ok (λ _. WhereTold (mem_told new_notes) (λ now. IsSettled now (identity ∷ []))) ok begun in
    let settled' = IfOk-at_ok (λ _. WhereTold (mem_told new_leaves) (λ now. IsSettled now [])) ok begun' in
    let leaf = begun_half [] new_leaves (settled' new_leaves.history refl) listed.1 in
    record {
      notes = begun_half (identity ∷ []) new_notes (settled new_notes.history refl) listed.0;
      leaves = λ half is. (let same : kept_half new_leaves ≡ half = cc is in subst (IsBegun []) same leaf);
    }

-- the owner of a wallet with this key
pub owner_is : (who : WalletIdentity) (key : List ℕ) → key ≡ public_key_of (secret_of who)
    → record { account = who.account; key = key } ≡ owner_of who
unfolding owner_of
owner_is who key is = ap (λ (k : List ℕ). record { account = who.account; key = k }) is

-- what the disks tell that were opened
pub declared_told : {H : Type 0} (digest : H → List ℕ → List ℕ) (hash : H) (member : Member) (down : DownNode)
    (up : UpNode H) → IsDeclared member down → Opens (digest hash) down up
    → ((up_halves up).notes.disk.history ≡ with_opening (notes_told down))
    × (option_map (λ (half : Half). half.disk.history) (up_halves up).leaves
    ≡ option_map with_opening (leaves_told down))
declared_told digest hash member down up is opens =
    let opened = up_opened (digest hash) down up opens (begun_keeps (first_note down) down is.begun) in
    (opened.notes.told, opened_told (down_halves down).leaves (up_halves up).leaves opened.leaves)

-- what a disk tells that was begun
pub alone_told : (steps : List ℕ → List Step) (old new : MemState) (result : Result Unit InitRefusal) (done : Unit {0})
    → result ≡ Ok done → Inits mem_told mem_plan steps old result new
    → new.history ≡ with_beginning steps old.history
alone_told steps old new result done ok inits =
    let over = subst (λ (r : Result Unit InitRefusal).
    InitsOver mem_told mem_plan steps (content old.history) old r new) ok (inits old.history refl) in
    cc over.1.calls

-- and that was asked for its length before
pub asked_told : (old new : MemState) → IsAsked mem_told mem_plan mem_faults old new
    → new.history ≡ with_call asks_length false old.history
asked_told old new asked = cc asked.called.history

pub pair_told : (identity : List ℕ) (notes leaves new_notes new_leaves : MemState) (result : Result Unit InitRefusal)
    (done : Unit {0}) → result ≡ Ok done
    → BeginsPair mem_told mem_plan mem_faults mem_told mem_plan mem_faults identity notes leaves result
    new_notes new_leaves
    → notes ≡ empty_disk → leaves ≡ empty_disk
    → (new_notes.history ≡ begun_beside_leaves identity) × (new_leaves.history ≡ begun_leaves)
pair_told identity notes leaves new_notes new_leaves result done ok begins empty empty' =
    let both = subst (λ (r : Result Unit InitRefusal). BeginsPair mem_told mem_plan mem_faults mem_told
    mem_plan mem_faults identity notes leaves r new_notes new_leaves) ok begins in (
      alone_told (init_steps identity) both.0 new_notes (Ok tt) tt refl both.2.0.inits
          ∙ ap (with_beginning (init_steps identity))
          (asked_told notes both.0 both.1 ∙ ap (λ (d : MemState). with_call asks_length false d.history) empty),
      alone_told journal_steps leaves new_leaves (Ok tt) tt refl both.2.1.inits
          ∙ ap (λ (d : MemState). with_beginning journal_steps d.history) empty',
    )

-- a node that is declared, over disks that were begun and opened
module _ {H E : Type 0} (identity : List ℕ) (down : DownNode) where
  pub declared_alone : (result : Result (NodeView H) E) → notes_told down ≡ begun_alone identity
      → leaves_told down ≡ None
      → IfOk result (λ entry. entry.notes_disk ≡ with_opening (notes_told down))
      → IfOk result (λ entry. entry.leaves_disk ≡ option_map with_opening (leaves_told down))
      → IfOk result (DiskBegan identity)
  declared_alone result notes leaves of_notes of_leaves = grind (arith, common_steps) steps 20000

  pub declared_both : (result : Result (NodeView H) E) → notes_told down ≡ begun_beside_leaves identity
      → leaves_told down ≡ Some begun_leaves
      → IfOk result (λ entry. entry.notes_disk ≡ with_opening (notes_told down))
      → IfOk result (λ entry. entry.leaves_disk ≡ option_map with_opening (leaves_told down))
      → IfOk result (DisksBegan identity)
  declared_both result notes leaves of_notes of_leaves = grind (arith, common_steps) steps 20000
