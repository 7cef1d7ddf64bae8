-- What a disk tells of itself, and from that what it holds, what a crash may leave, which calls to come fail, and the
-- room that is left.
use Rattle.std.specs.Prelude.{◌≡◌, ℕ, zero, suc, ◌+◌, ◌-◌, ◌≤◌, ◌==◌, Bool, true, false, ◌&&◌, ◌||◌, not, nat_le, nat_lt, if◌then◌else◌, List, [], ◌∷◌, ◌++◌, length, take, drop, slice_index, Option, Some, None, option_map}
use Rattle.std.specs.List.{list_any}

-- what a device call asks for: the length; bytes, by place and length; a write, by place and bytes; a sync
pub data Step : Type 0 where
  asks_length : Step
  reads : ℕ → ℕ → Step
  writes : ℕ → List ℕ → Step
  syncs : Step

-- a device call, and whether it failed
pub record DeviceCall : Type 0 where
  pub step : Step
  pub failed : Bool

-- the image that a disk began with, and the device calls since, the newest first
pub record History : Type 0 where
  pub began : List ℕ
  pub calls : List DeviceCall

-- the history of a disk that begins with an image
abbrev pub fresh_history : List ℕ → History
fresh_history image = record { began = image; calls = [] }

-- the bytes with these written at a place, over what is there and past the end
abbrev pub with_write : List ℕ → ℕ → List ℕ → List ℕ
with_write old place bytes = take place old ++ bytes ++ drop (place + length bytes) old

-- the bytes after a step
abbrev pub content_after_step : Step → List ℕ → List ℕ
content_after_step (writes place bytes) old = with_write old place bytes
content_after_step step old = old

-- the bytes after device calls: a write that failed counts as written
abbrev pub content_after : List ℕ → List DeviceCall → List ℕ
content_after began [] = began
content_after began (call ∷ calls) = content_after_step call.step (content_after began calls)

abbrev pub is_sync : Step → Bool
is_sync syncs = true
is_sync step = false

-- a sync that succeeded
abbrev pub is_durable : DeviceCall → Bool
is_durable call = is_sync call.step && not call.failed

-- the bytes as of the last sync that succeeded, or those at the beginning
abbrev pub synced_content_after : List ℕ → List DeviceCall → List ℕ
synced_content_after began [] = began
synced_content_after began (call ∷ calls) =
    if is_durable call then content_after began calls else synced_content_after began calls

-- the range of a write, by place and length
abbrev pub range_of : Step → List (ℕ × ℕ)
range_of (writes place bytes) = (place, length bytes) ∷ []
range_of step = []

-- the ranges written since the last sync that succeeded
abbrev pub unsynced_ranges_after : List DeviceCall → List (ℕ × ℕ)
unsynced_ranges_after [] = []
unsynced_ranges_after (call ∷ calls) =
    if is_durable call then [] else unsynced_ranges_after calls ++ range_of call.step

-- the bytes that a disk holds, those as of the last sync that succeeded, and the ranges written since
abbrev pub content : History → List ℕ
content history = content_after history.began history.calls

abbrev pub synced_content : History → List ℕ
synced_content history = synced_content_after history.began history.calls

abbrev pub unsynced_ranges : History → List (ℕ × ℕ)
unsynced_ranges history = unsynced_ranges_after history.calls

-- a place that lies in a range
abbrev pub is_within : ℕ → ℕ × ℕ → Bool
is_within place range = nat_le range.0 place && nat_lt place (range.0 + range.1)

-- a place that a crash may change: in one of the ranges, or past the end of the synced bytes
abbrev pub is_touched : List ℕ → List (ℕ × ℕ) → ℕ → Bool
is_touched bytes ranges place = nat_le (length bytes) place || list_any (is_within place) ranges

-- A crash now may leave this image: its length is any from the synced one to the present one, and each place that isn't
-- touched keeps its synced byte.
pub record MayLeave (history : History) (image : List ℕ) : Type 0 where
  pub no_shorter : length (synced_content history) ≤ length image
  pub no_longer : length image ≤ length (content history)
  pub untouched : (place : ℕ) → is_touched (synced_content history) (unsynced_ranges history) place ≡ false
      → slice_index image place ≡ slice_index (synced_content history) place

-- the clock: each device call is a moment later
abbrev pub moment : History → ℕ
moment history = length history.calls

-- what a disk told before its last device calls
abbrev pub before_last : ℕ → History → History
before_last count history = record history { calls = drop count history.calls }

-- a crash at a moment, or at one since, may leave this image
abbrev pub MayLeaveSince : History → ℕ → List ℕ → Type 0
MayLeaveSince history start image =
    (count : ℕ) × (start + count ≤ moment history) × MayLeave (before_last count history) image

-- each image of a crash at a moment from the first history to the second one has P
abbrev pub LeavesOnly : History → History → (List ℕ → Type 0) → Type 0
LeavesOnly before now P = (image : List ℕ) → MayLeaveSince now (moment before) image → P image

-- the history with one more device call
abbrev pub with_call : Step → Bool → History → History
with_call step failed history =
    record { began = history.began; calls = record { step = step; failed = failed } ∷ history.calls }

-- which device calls to come fail, where a disk foretells it: the listed ones, counted from 0, and, with a fuse, each
-- one after so many
pub record FaultPlan : Type 0 where
  pub listed : ℕ → Bool
  pub fuse : Option ℕ

-- no call may pass any more
abbrev pub is_spent : Option ℕ → Bool
is_spent None = false
is_spent (Some calls) = calls == 0

-- the next call fails
abbrev pub fails_first : FaultPlan → Bool
fails_first plan = is_spent plan.fuse || plan.listed 0

-- the plan after one call
abbrev pub after_one : FaultPlan → FaultPlan
after_one plan = record { listed = λ n. plan.listed (suc n); fuse = option_map (λ calls. calls - 1) plan.fuse }

-- the plan after so many calls
unfoldable pub after_calls : ℕ → FaultPlan → FaultPlan
after_calls zero plan = plan
after_calls (suc count) plan = after_calls count (after_one plan)

-- how many of so many calls pass before one fails
unfoldable pub passing : ℕ → FaultPlan → ℕ
passing zero plan = zero
passing (suc count) plan = if fails_first plan then zero else suc (passing count (after_one plan))

-- the room left: for so many device calls, which write so many bytes in all
pub record Room : Type 0 where
  pub calls : ℕ
  pub bytes : ℕ

-- there is room for one device call that writes so many bytes
pub record HasRoom (room : Room) (count : ℕ) : Type 0 where
  pub calls : 1 ≤ room.calls
  pub bytes : count ≤ room.bytes

-- a device call that writes so many bytes takes no more room than that
pub record Spends (before now : Room) (count : ℕ) : Type 0 where
  pub calls : before.calls ≤ now.calls + 1
  pub bytes : before.bytes ≤ now.bytes + count
