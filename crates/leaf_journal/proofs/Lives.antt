-- What a journal of leaves keeps through its life.
use Rattle.leaf_journal.proofs.Words.{◌≡◌, ◌≤◌, ℕ, true, false, cond, List, [], ◌∷◌, ◌++◌, length, map, drop, get_or, Some, Ok, refl, arith, lit≤, slice_get, option_and_then_some, slice_get_within, get_or_from_slice_get, get_or_append_left, common_steps, content, with_made, most, spelled, Keeps, are_leaf_records, binding_record, every_message, is_marked, leaf_records, leaf_records_in, marker, messages_of, ALeafHasOneMessage, BoundMessagesStay, LeavesStay, StoppedBinds, StoppedMigrations, life_after}
use Rattle.crash_disk.specs.Outcomes.{image_after}
use Rattle.crash_disk.proofs.Left.{content_may_be_left}
use Rattle.gate_journal.specs.Steps.{append_steps}
use Rattle.gate_journal.specs.Laws.{is_added}
use Rattle.gate_journal.specs.Life.{records_in, Continue}
use Rattle.gate_journal.proofs.Lives.{in_keeps, records_stay, made_journals_stay}
use Rattle.gate_journal.proofs.Crash.{stopped_appends}
use Rattle.leaf_journal.proofs.Messages.{messages-append}
use Rattle.leaf_journal.proofs.Form.{all_same, one_more, follows_short}
use Rattle.leaf_journal.proofs.Binding.{binding_follows, binding-messages, marker_follows, marker-messages, marker-marked}

-- messages of records that go on go on
messages_continue : (earlier later : List (List ℕ)) → Continue earlier later
    → Continue (messages_of earlier) (messages_of later)
messages_continue earlier later on = (
  cond (is_marked earlier) (map (drop 4) on.0) (messages_of on.0),
  grind (arith, common_steps, messages-append) steps 20000,
)

-- an image that keeps records of leaves
pub in_image : (leaves : ℕ) (image : List ℕ) (records : List (List ℕ)) → Keeps records image
    → leaf_records leaves records ≡ Ok records → leaf_records_in leaves image ≡ Ok records
in_image leaves image records keeps are = grind (arith, common_steps) steps 20000

pub are_kind : (leaves : ℕ) (records : List (List ℕ)) → are_leaf_records leaves records ≡ true
    → leaf_records leaves records ≡ Ok records
are_kind leaves records is = grind (arith, common_steps, all_same) steps 20000

in_life : (leaves : ℕ) (image : List ℕ) (records : List (List ℕ))
    → records_in (are_leaf_records leaves) image ≡ Some records → leaf_records_in leaves image ≡ Ok records
in_life leaves image records is = grind (arith, common_steps, in_keeps, in_image, are_kind) steps 20000

pub bound_messages_stay : BoundMessagesStay
bound_messages_stay leaves disk earlier later records may is =
    let stays = records_stay (are_leaf_records leaves) disk earlier later records may is in (
      λ image left. (let kept = stays.0 image left in
          (kept.0, in_life leaves image kept.0 kept.1, messages_continue records kept.0 kept.2)),
      λ others also. messages_continue records others (stays.1 others also),
    )

-- a leaf of the earlier messages has its message among the later ones
same_message : (messages others : List (List ℕ)) (leaf : ℕ) (one other : List ℕ) → Continue messages others
    → slice_get messages leaf ≡ Some one → slice_get others leaf ≡ Some other → one ≡ other
same_message messages others leaf one other on was is =
    let within = slice_get_within messages leaf one was in
    let here : get_or messages leaf [] ≡ one = get_or_from_slice_get messages leaf one [] was in
    let there : get_or others leaf [] ≡ other = get_or_from_slice_get others leaf other [] is in
    grind (arith, common_steps, get_or_append_left) steps 20000

pub a_leaf_has_one_message : ALeafHasOneMessage
a_leaf_has_one_message leaves disk earlier later leaf one other may was is =
    option_and_then_some (λ records. slice_get (messages_of records) leaf) (life_after leaves disk earlier).records
    one was (λ records are was_there.
    option_and_then_some (λ records. slice_get (messages_of records) leaf)
    (life_after leaves disk (later ++ earlier)).records other is (λ others also is_there.
    same_message (messages_of records) (messages_of others) leaf one other
    ((bound_messages_stay leaves disk earlier later records may are).1 others also) was_there is_there))

pub leaves_stay : LeavesStay
leaves_stay leaves disk earlier later may stay =
    let stays = made_journals_stay (are_leaf_records leaves) disk earlier later may stay in
    let now = (life_after leaves disk (later ++ earlier)).history in
    let kept = stays.0 (content now) (content_may_be_left now) in
    let is = in_life leaves (content now) kept.0 kept.1 in
    (stays.0, λ place not. absurd (cc (not, is)))

pub stopped_binds : StoppedBinds
stopped_binds leaves history records message count outcome settled are may leaf pattern =
    let body = binding_record records message in
    let follows = binding_follows records message leaves may leaf in
    let short : length body ≤ most = omega (arith, follows_short leaves records body follows) in
    let image = image_after outcome (with_made count (append_steps (length (spelled records)) body) history) in
    elim (is_added count outcome) as (λ b. Keeps (cond b (records ++ body ∷ []) records) image
    → (kept : List (List ℕ)) × (leaf_records_in leaves image ≡ Ok kept)
    × (messages_of kept ≡ cond b (messages_of records ++ message ∷ []) (messages_of records))) [
      | true ↦ λ keeps. (
        records ++ body ∷ [],
        in_image leaves image (records ++ body ∷ []) keeps
            (one_more every_message leaves records body are follows),
        binding-messages records message may,
      )
      | false ↦ λ keeps. (records, in_image leaves image records keeps are, refl)
    ] (stopped_appends history records body count outcome settled.kept settled.synced short pattern)

pub stopped_migrations : StoppedMigrations
stopped_migrations leaves history records count outcome settled are not_marked pattern =
    let follows = marker_follows leaves records not_marked in
    let image = image_after outcome (with_made count (append_steps (length (spelled records)) marker) history) in
    elim (is_added count outcome) as (λ b. Keeps (cond b (records ++ marker ∷ []) records) image
    → (kept : List (List ℕ)) × (leaf_records_in leaves image ≡ Ok kept) × (messages_of kept ≡ messages_of records)
    × (is_marked kept ≡ b)) [
      | true ↦ λ keeps. (
        records ++ marker ∷ [],
        in_image leaves image (records ++ marker ∷ []) keeps
            (one_more every_message leaves records marker are follows),
        marker-messages records not_marked,
        marker-marked records,
      )
      | false ↦ λ keeps. (records, in_image leaves image records keeps are, refl, not_marked)
    ] (stopped_appends history records marker count outcome settled.kept settled.synced (lit≤ tt) pattern)
