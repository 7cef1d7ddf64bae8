-- What callers see of a two-level signer over a disk, and what its calls do by their definitions.
use Rattle.std.specs.Prelude.{◌≡◌, ℕ, ◌-◌, ◌&&◌, not, Bool, nat_lt, if◌then◌else◌, List, [], ◌∷◌, Option, Some, None, option_map, Result, Ok, Err}
use Rattle.lms_sign.specs.Types.{leaf_count}
use Rattle.node_journal.specs.{Notes.{NotesState}, Effect.{Effect, only, first_cause, unless}, declared.stop.Stop.{Stop}, declared.stop.Stop.TheVariants.{Closed as StopClosed, NoMemory as StopNoMemory, DeviceFault as StopFault}}
use Rattle.hss_keys.specs.{declared.seed.HssSeed.{HssSeed}, declared.entry.Entry.{Entry}, declared.entry.Entry.TheVariants.{Opens, Binds}, declared.refusal.LevelRefusal.{LevelRefusal}}
use Rattle.hss_keys.specs.{declared.refusal.LevelRefusal.TheVariants.{LevelOpen, LevelSpent, KeySpent, Closed, NoMemory, DeviceFault}, Keys.{bottom_key, hss_key_of}}
use Rattle.hss_keys.specs.Entries.{entry_text, entries_of, key_at, message_at, opened_count, used_in}

-- its records in a journal on a disk, as a node's notes are; and what the keys are made from
pub record LevelsState (D : Type 0) : Type 0 where
  pub notes : NotesState D
  pub seed : HssSeed

-- what callers see of a bound: the public key, the top leaf, the bottom key that it signs, the bottom leaf and the
-- message
pub record HssBoundState : Type 0 where
  pub key : List ℕ
  pub top_leaf : ℕ
  pub bottom : List ℕ
  pub leaf : ℕ
  pub message : List ℕ

-- leaf q of bottom key j, bound to a message
abbrev pub bound_of : HssSeed → ℕ → ℕ → List ℕ → HssBoundState
bound_of seed j q message =
    record { key = hss_key_of seed; top_leaf = j; bottom = bottom_key seed j; leaf = q; message = message }

-- the records keep this bound: the bottom key at the top leaf, and the message at the bottom leaf
abbrev pub KeepsBound : List (List ℕ) → HssBoundState → Type 0
KeepsBound records bound =
    (key_at (entries_of records) bound.top_leaf ≡ Some bound.bottom)
    × (message_at (entries_of records) bound.top_leaf bound.leaf ≡ Some bound.message)

-- the last bottom key has a leaf that isn't bound
abbrev pub has_leaf : HssSeed → List Entry → Bool
has_leaf seed entries = nat_lt 0 (opened_count entries) && nat_lt (used_in entries) (leaf_count seed.bottom)

-- how many it has
abbrev pub leaves_left : HssSeed → List Entry → ℕ
leaves_left seed entries = if has_leaf seed entries then leaf_count seed.bottom - used_in entries else 0

-- why an advance is refused, in this order: the last bottom key has a leaf left; every top leaf signed its key
abbrev pub advance_causes : HssSeed → List Entry → List (Bool × LevelRefusal)
advance_causes seed entries =
    (has_leaf seed entries, LevelOpen (used_in entries))
    ∷ (not (nat_lt (opened_count entries) (leaf_count seed.top)), KeySpent (opened_count entries)) ∷ []

-- an advance: the next top leaf signs its bottom key
unfoldable pub advance_effect : HssSeed → List (List ℕ) → Effect (Result ℕ LevelRefusal)
advance_effect seed records =
    let j = opened_count (entries_of records) in
    unless (first_cause (advance_causes seed (entries_of records)))
    (record { answer = Ok j; note = Some (entry_text (Opens j (bottom_key seed j))) })

-- a bind: the next leaf of the last bottom key is bound to a message
unfoldable pub bind_effect : HssSeed → List (List ℕ) → List ℕ → Effect (Result HssBoundState LevelRefusal)
bind_effect seed records message =
    let entries = entries_of records in
    let j = opened_count entries - 1 in
    if has_leaf seed entries
    then record {
      answer = Ok (bound_of seed j (used_in entries) message);
      note = Some (entry_text (Binds j (used_in entries) message));
    }
    else only (Err (LevelSpent (opened_count entries)))

-- a bound again
abbrev pub again_answer : HssSeed → List (List ℕ) → ℕ → ℕ → Option HssBoundState
again_answer seed records j q = option_map (bound_of seed j q) (message_at (entries_of records) j q)

-- what stopped a call that was answered so, if anything did
abbrev pub level_stop : {T : Type 0} → Result T LevelRefusal → Option Stop
level_stop (Err DeviceFault) = Some StopFault
level_stop (Err Closed) = Some StopClosed
level_stop (Err NoMemory) = Some StopNoMemory
level_stop result = None
