-- What a journal of a two-level signer keeps through its life.
use Rattle.hss_keys.proofs.Words.{◌≡◌, ◌≤◌, ℕ, true, false, cond, List, [], ◌∷◌, ◌++◌, length, Option, Some, None, Ok, refl, ◌∙◌, ap, arith, length-append, slice_get, unwrap_or, same_Some, slice_get_within, slice_get-get_or, get_or_from_slice_get, get_or_append_left, filter_map-append, common_steps, content, with_made, most, spelled, append_steps, Keeps, records_in, Continue, HssSeed, entry_text, entries_of, keys_of, messages_under, are_level_records, level_records, level_records_in, may_follow, HssBoundState, KeepsBound}
use Rattle.crash_disk.specs.Outcomes.{image_after}
use Rattle.crash_disk.proofs.Left.{content_may_be_left}
use Rattle.gate_journal.specs.Laws.{is_added}
use Rattle.gate_journal.proofs.Lives.{in_keeps, records_stay, made_journals_stay}
use Rattle.gate_journal.proofs.Crash.{stopped_appends}
use Rattle.hss_keys.specs.Laws.{NoLeafSignsTwoMessages, BoundsStay, KeptBoundsStay, LevelJournalsStay, StoppedLevelAppends, life_after}
use Rattle.hss_keys.proofs.Spelling.{entries_are_read_back, text-short}
use Rattle.hss_keys.proofs.Counts.{entries-more, follows_from}
use Rattle.hss_keys.proofs.Form.{all_same, one_more}

-- an image that keeps records of the signer
pub in_image : (seed : HssSeed) (image : List ℕ) (records : List (List ℕ)) → Keeps records image
    → level_records seed records ≡ Ok records → level_records_in seed image ≡ Ok records
in_image seed image records keeps are = grind (arith, common_steps) steps 20000

are_kind : (seed : HssSeed) (records : List (List ℕ)) → are_level_records seed records ≡ true
    → level_records seed records ≡ Ok records
are_kind seed records is = grind (arith, common_steps, all_same) steps 20000

in_life : (seed : HssSeed) (image : List ℕ) (records : List (List ℕ))
    → records_in (are_level_records seed) image ≡ Some records → level_records_in seed image ≡ Ok records
in_life seed image records is = grind (arith, common_steps, in_keeps, in_image, are_kind) steps 20000

pub bounds_stay : BoundsStay
bounds_stay seed disk earlier later records may is =
    let stays = records_stay (are_level_records seed) disk earlier later records may is in (
      λ image left. (let kept = stays.0 image left in (kept.0, in_life seed image kept.0 kept.1, kept.2)),
      λ others also. stays.1 others also,
    )

pub level_journals_stay : LevelJournalsStay
level_journals_stay seed disk earlier later may stay =
    let stays = made_journals_stay (are_level_records seed) disk earlier later may stay in
    let now = (life_after seed disk (later ++ earlier)).history in
    let kept = stays.0 (content now) (content_may_be_left now) in
    let is = in_life seed (content now) kept.0 kept.1 in
    (stays.0, λ place not. absurd (cc (not, is)))

-- bottom keys and messages of records that go on go on
keys_continue : (records later : List (List ℕ)) → Continue records later
    → Continue (keys_of (entries_of records)) (keys_of (entries_of later))
keys_continue records later on = (
  keys_of (entries_of on.0),
  grind (arith, common_steps, filter_map-append) steps 20000,
)

messages_continue : (j : ℕ) (records later : List (List ℕ)) → Continue records later
    → Continue (messages_under j (entries_of records)) (messages_under j (entries_of later))
messages_continue j records later on = (
  messages_under j (entries_of on.0),
  grind (arith, common_steps, filter_map-append) steps 20000,
)

-- and so stand at their places
stands : (earlier later : List (List ℕ)) (i : ℕ) (x : List ℕ) → Continue earlier later
    → slice_get earlier i ≡ Some x → slice_get later i ≡ Some x
stands earlier later i x on is =
    let within = slice_get_within earlier i x is in
    ap (λ (l : List (List ℕ)). slice_get l i) on.1
    ∙ slice_get-get_or (earlier ++ on.0) i [] (omega (arith, within, length-append earlier on.0))
    ∙ ap (λ (l : List ℕ). Some l)
    (get_or_append_left earlier on.0 [] i within ∙ get_or_from_slice_get earlier i x [] is)

pub kept_bounds_stay : KeptBoundsStay
kept_bounds_stay records later bound on keeps = (
  stands (keys_of (entries_of records)) (keys_of (entries_of later)) bound.top_leaf bound.bottom
      (keys_continue records later on) keeps.0,
  stands (messages_under bound.top_leaf (entries_of records)) (messages_under bound.top_leaf (entries_of later))
      bound.leaf bound.message (messages_continue bound.top_leaf records later on) keeps.1,
)

-- a node that has a bound has records
has_records : (records : Option (List (List ℕ))) (bound : HssBoundState) → KeepsBound (unwrap_or records []) bound
    → (kept : List (List ℕ)) × (records ≡ Some kept) × KeepsBound kept bound
has_records None bound keeps = absurd (let none = keeps.0 in cc none)
has_records (Some kept) bound keeps = (kept, refl, keeps)

pub no_leaf_signs_two_messages : NoLeafSignsTwoMessages
no_leaf_signs_two_messages seed disk earlier later one other may was is same =
    let first = has_records (life_after seed disk earlier).records one was in
    let second = has_records (life_after seed disk (later ++ earlier)).records other is in
    let on = (bounds_stay seed disk earlier later first.0 may first.1).1 second.0 second.1 in
    let stays = kept_bounds_stay first.0 second.0 one on first.2 in
    grind (arith, common_steps, same_Some) steps 20000

pub stopped_level_appends : StoppedLevelAppends
stopped_level_appends seed history records entry count outcome settled are is follows pattern =
    let body = entry_text entry in
    let read = entries_are_read_back entry is in
    let may : may_follow seed records body ≡ true = follows_from seed records body entry read ∙ follows in
    let short : length body ≤ most = omega (arith, text-short entry body read) in
    let image = image_after outcome (with_made count (append_steps (length (spelled records)) body) history) in
    elim (is_added count outcome) as (λ b. Keeps (cond b (records ++ body ∷ []) records) image
    → (kept : List (List ℕ)) × (level_records_in seed image ≡ Ok kept)
    × (entries_of kept ≡ cond b (entries_of records ++ entry ∷ []) (entries_of records))) [
      | true ↦ λ keeps. (
        records ++ body ∷ [],
        in_image seed image (records ++ body ∷ []) keeps (one_more seed records body are may),
        entries-more records body entry read,
      )
      | false ↦ λ keeps. (records, in_image seed image records keeps are, refl)
    ] (stopped_appends history records body count outcome settled.kept settled.synced short pattern)
