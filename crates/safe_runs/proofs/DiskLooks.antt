-- What device calls that look leave of what a disk tells.
use Rattle.std.proofs.Common.{◌≡◌, ℕ, Bool, true, false, List, [], ◌∷◌, ◌++◌, length, take, drop, Option, None, Some, refl, ap, ◌∙◌, arith}
use Rattle.std.specs.Prelude.{option_map}
use Rattle.std.specs.List.{list_all}
use Rattle.std.proofs.lemmas.List.{take_all, take_at}
use Rattle.crash_disk.specs.Disk.{DeviceCall, Step, History, FaultPlan, asks_length, reads, with_call, content}
use Rattle.crash_disk.specs.Calls.{Called, WhereTold}
use Rattle.safe_runs.specs.Runs.{OnlyLooks, is_look, is_look_step, with_looks}

-- calls behind those that were told
abbrev behind : List DeviceCall → Option History → Option History
behind looks told = option_map (with_looks looks) told

behind-none : (told : Option History) → told ≡ behind [] told
behind-none None = refl
behind-none (Some history) = refl

behind-more : (call : DeviceCall) (looks : List DeviceCall) (told : Option History)
    → option_map (with_call call.step call.failed) (behind looks told) ≡ behind (call ∷ looks) told
behind-more call looks None = refl
behind-more call looks (Some history) = refl

module _ {D : Type 0} (told : D → Option History) where
  pub looks-none : (old new : D) → told new ≡ told old → OnlyLooks told old new
  looks-none old new same = ([], refl, same ∙ behind-none (told old))

  module _ (plan : D → Option FaultPlan) where
    one-more : (step : Step) (failed : Bool) (old mid new : D) → is_look_step step ≡ true → OnlyLooks told old mid
        → Called told plan step failed mid new → OnlyLooks told old new
    one-more step failed old mid new looks before called =
        let call : DeviceCall = record { step = step; failed = failed } in (
          call ∷ before.0,
          rw looks before.1,
          called.history ∙ ap (option_map (with_call step failed)) before.2 ∙ behind-more call before.0 (told old),
        )

    pub looks-length : (failed : Bool) (old mid new : D) → OnlyLooks told old mid
        → Called told plan asks_length failed mid new → OnlyLooks told old new
    looks-length failed old mid new before called = one-more asks_length failed old mid new refl before called

    pub looks-read : (place count : ℕ) (failed : Bool) (old mid new : D) → OnlyLooks told old mid
        → Called told plan (reads place count) failed mid new → OnlyLooks told old new
    looks-read place count failed old mid new before called =
        one-more (reads place count) failed old mid new refl before called

    -- what was read behind the length is what the disk held before
    pub image-read : (old room_made asked : D) (room : List ℕ) (count : ℕ) (before : History)
        → told room_made ≡ told old → Called told plan asks_length false room_made asked
        → WhereTold (told asked) (λ history. room ≡ take count (drop 0 (content history)))
        → count ≡ length (content before) → told old ≡ Some before → room ≡ content before
    image-read old room_made asked room count before still called read' held is =
        let told_asked = called.history ∙ ap (option_map (with_call asks_length false)) (still ∙ is) in
        read' (with_call asks_length false before) told_asked ∙ take_all count (content before) (omega (arith, held))

-- a whole buffer that was read into
pub whole_room : (room old : List ℕ) (count : ℕ) → length room ≡ count
    → take count (room ++ drop (length room) old) ≡ room
whole_room room old count is = take_at room (drop (length room) old) count is
