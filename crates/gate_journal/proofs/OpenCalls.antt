-- The device calls of an opening.
use Rattle.gate_journal.proofs.Words.{◌≡◌, ℕ, true, false, List, [], ◌∷◌, ◌++◌, length, replicate, take, drop, Option, Some, None, refl, sym, ◌∙◌, ap, subst, arith, take_all, take_at, length-replicate, option_map, common_steps, asks_length, reads, syncs, History, content, with_call, FaultPlan, WhereTold, Called, IsStill, passed, failed_after, stopped_after, Made, made_from, made_over, made_none, made_stop, made_fault, made_more, Spells, journal_in, open_steps, IsSettled, RefusesOpen, OverContent, IsReadRefusal}
use Rattle.gate_journal.specs.declared.refusal.JournalRefusal.{JournalRefusal}
use Rattle.gate_journal.proofs.Crash.{settled_now}

-- an image of so many bytes, the one that the disk holds
pub some_image : (told : Option History) (len : ℕ) → WhereTold told (λ before. len ≡ length (content before))
    → OverContent told (λ image. length image ≡ len)
some_image None len is = (replicate len 0, (λ before none. cc none), length-replicate len 0)
some_image (Some before) len is =
    (content before, (λ history some. (let same : before ≡ history = cc some in ap content same)), sym (is before refl))

pub any_image : (told : Option History) → OverContent told (λ image. Unit {0})
any_image None = ([], (λ before none. cc none), tt)
any_image (Some before) =
    (content before, (λ history some. (let same : before ≡ history = cc some in ap content same)), tt)

-- what was told is told of something
pub told_of : (f : History → History) (told now : Option History) (history : History) → now ≡ option_map f told
    → now ≡ Some history
    → (before : History) × (told ≡ Some before) × (history ≡ f before)
told_of f None now history is some = absurd (cc (is, some))
told_of f (Some before) now history is some = (before, refl, cc (is, some))

module _ {D : Type 0} (told : D → Option History) (plan : D → Option FaultPlan) (faults : D → ℕ) {first old : D}
    (still : IsStill told plan faults first old) where
  -- the image that the calls went over
  over : (count : ℕ) {course : _} {new : D} → WhereTold (told old) (λ before. count ≡ length (content before))
      → Made told plan (λ any. syncs ∷ asks_length ∷ reads 0 count ∷ []) 3 course old new
      → Made told plan open_steps 3 course first new
  over count {course = course} {new = new} is made =
      grind (arith, common_steps, some_image, made_from, made_over) steps 20000

  -- an image, where nothing is known of it
  count_of : (count : ℕ) × WhereTold (told old) (λ before. count ≡ length (content before))
  count_of = (let some = any_image (told old) in (length some.0, λ before is. ap length (some.1 before is)))

  pub open_none : Made told plan open_steps 3 (stopped_after 0) first old
  open_none = over count_of.0 count_of.1 (made_stop told plan (syncs ∷ asks_length ∷ reads 0 count_of.0 ∷ []) 3 old)

  pub open_unsynced : {new : D} → Called told plan syncs true old new
      → Made told plan open_steps 3 (failed_after 0) first new
  open_unsynced call = over count_of.0 count_of.1 (made_fault told plan (asks_length ∷ reads 0 count_of.0 ∷ []) 2 call)

  module _ {synced : D} (sync : Called told plan syncs false old synced) where
    pub open_unasked : {new : D} → Called told plan asks_length true synced new
        → Made told plan open_steps 3 (failed_after 1) first new
    open_unasked call =
        over count_of.0 count_of.1
        (made_more told plan (asks_length ∷ reads 0 count_of.0 ∷ []) 2 (failed_after 0) sync
        (made_fault told plan (reads 0 count_of.0 ∷ []) 1 call))

    module _ {asked : D} (ask : Called told plan asks_length false synced asked) where
      pub open_begun : Made told plan open_steps 3 (stopped_after 2) first asked
      open_begun =
          over count_of.0 count_of.1
          (made_more told plan (asks_length ∷ reads 0 count_of.0 ∷ []) 2 (stopped_after 1) sync
          (made_more told plan (reads 0 count_of.0 ∷ []) 1 (stopped_after 0) ask
          (made_stop told plan (reads 0 count_of.0 ∷ []) 1 asked)))

      module _ (count : ℕ) (is : WhereTold (told synced) (λ history. count ≡ length (content history))) where
        -- what it held stays over the sync
        held : WhereTold (told old) (λ before. count ≡ length (content before))
        held before some = is (with_call syncs false before)
            (sync.history ∙ ap (option_map (with_call syncs false)) some)

        pub open_unread : {new : D} → Called told plan (reads 0 count) true asked new
            → Made told plan open_steps 3 (failed_after 2) first new
        open_unread call =
            over count held
            (made_more told plan (asks_length ∷ reads 0 count ∷ []) 2 (failed_after 1) sync
            (made_more told plan (reads 0 count ∷ []) 1 (failed_after 0) ask (made_fault told plan [] 0 call)))

        pub open_read : {new : D} → Called told plan (reads 0 count) false asked new
            → Made told plan open_steps 3 passed first new
        open_read {new = new} call =
            over count held
            (made_more told plan (asks_length ∷ reads 0 count ∷ []) 2 passed sync
            (made_more told plan (reads 0 count ∷ []) 1 passed ask
            (made_more told plan [] 0 passed call (made_none told plan new))))

        -- what was read is what the disk held before
        pub read_is_content : (room : List ℕ)
            → WhereTold (told asked) (λ history. room ≡ take count (drop 0 (content history)))
            → WhereTold (told first) (λ before. room ≡ content before)
        read_is_content room reads' before some =
            let one = still.same_calls ∙ some in
            let two = sync.history ∙ ap (option_map (with_call syncs false)) one in
            let three = ask.history ∙ ap (option_map (with_call asks_length false)) two in
            reads' _ three ∙ take_all count (content before) (omega (arith, held before one))

-- a whole buffer that was read into
pub whole_room : (room old : List ℕ) (count : ℕ) → length room ≡ count
    → take count (room ++ drop (length room) old) ≡ room
whole_room room old count is = take_at room (drop (length room) old) count is

-- an opened journal rests
pub opened_settled : {D : Type 0} (told : D → Option History) (plan : D → Option FaultPlan) {old new : D}
    (image : List ℕ) (records : List (List ℕ))
    → Made told plan open_steps 3 passed old new → WhereTold (told old) (λ before. image ≡ content before)
    → Spells image records
    → WhereTold (told new) (λ now. IsSettled now records)
opened_settled told plan {old = old} {new = new} image records made read spells history some =
    let before = told_of _ (told old) (told new) history made.calls some in
    subst (λ (h : History). IsSettled h records) (sym before.2)
    (settled_now _ records (subst (λ (b : List ℕ). Spells b records) (read before.0 before.1) spells) refl)

-- a refusal to read is one to open
module _ {D : Type 0} (told : D → Option History) (plan : D → Option FaultPlan) {old new : D}
    (made : Made told plan open_steps 3 passed old new) (image : List ℕ)
    (read : WhereTold (told old) (λ before. image ≡ content before)) where
  stopped : Made told plan open_steps 3 (stopped_after 3) old new
  stopped = record { calls = made.calls; planned = (omega arith, made.planned.0, made.planned.1) }

  pub refused_read : (why : JournalRefusal) → IsReadRefusal image why → RefusesOpen journal_in told plan old why new
  refused_read why not = grind (arith, common_steps, stopped) steps 20000
