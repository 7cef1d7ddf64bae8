-- What a crash leaves where nothing is written since the sync, or nothing at all.
use Rattle.crash_disk.proofs.Words.{◌≡◌, ℕ, Bool, true, false, List, [], ◌∷◌, length, get_or, refl, sym, ◌∙◌, ap, arith, length-append, nat_tests, same_number_lists, common_steps, append-nil, Step, asks_length, reads, writes, syncs, DeviceCall, content_after, synced_content_after, unsynced_ranges_after, is_touched, New, ContentMayBeLeft, SyncedContentIsLeft, FreshDiskLeavesItself}
use Rattle.crash_disk.proofs.Images.{outcomes}

pub content_may_be_left : ContentMayBeLeft
content_may_be_left history = outcomes New history

abbrev IsAll : List ℕ → List DeviceCall → Type 0
IsAll began calls = unsynced_ranges_after calls ≡ [] → synced_content_after began calls ≡ content_after began calls

all_call : (step : Step) (failed : Bool) (began : List ℕ) (calls : List DeviceCall) → IsAll began calls
    → IsAll began (record { step = step; failed = failed } ∷ calls)
all_call asks_length failed began calls all none = all (sym (append-nil (unsynced_ranges_after calls)) ∙ none)
all_call (reads at count) failed began calls all none = all (sym (append-nil (unsynced_ranges_after calls)) ∙ none)
all_call (writes at bytes) failed began calls all none =
    absurd (omega (arith, ap length none, length-append (unsynced_ranges_after calls) ((at, length bytes) ∷ [])))
all_call syncs true began calls all none = all (sym (append-nil (unsynced_ranges_after calls)) ∙ none)
all_call syncs false began calls all none = refl

-- where nothing is written since the sync, the synced bytes are all
pub synced_is_content : (began : List ℕ) (calls : List DeviceCall) → IsAll began calls
synced_is_content began [] = λ none. refl
synced_is_content began (call ∷ calls) = all_call call.step call.failed began calls (synced_is_content began calls)

-- where no range is touched, the bytes stay
pub untouched_same : (bytes image : List ℕ) → length image ≡ length bytes
    → ((place : ℕ) → is_touched bytes [] place ≡ false → get_or image place 0 ≡ get_or bytes place 0) → image ≡ bytes
untouched_same bytes image len same = grind (arith, common_steps, same_number_lists, nat_tests) steps 20000

pub synced_content_is_left : SyncedContentIsLeft
synced_content_is_left history image none may =
    grind (arith, common_steps, synced_is_content, untouched_same) steps 20000

pub fresh_disk_leaves_itself : FreshDiskLeavesItself
fresh_disk_leaves_itself began image may = synced_content_is_left (record { began = began; calls = [] }) image refl may
