-- The making of a journal.
use Rattle.gate_journal.proofs.Words.{◌≡◌, ◌≢◌, ◌<◌, ◌≤◌, ◌+◌, ℕ, Bool, true, false, cond, not, ltb, eqb, List, [], ◌∷◌, ◌++◌, length, take, drop, Option, Some, None, Ok, Err, is_some, refl, sym, ◌∙◌, ap, subst, arith, cases_Bool, cases_lt, lt-ltb, nat_tests, drop_all, take_all, option_map, result_ok, common_steps, Step, History, content, writes, reads, asks_length, syncs, with_write, with_call, FaultPlan, WhereTold, Called, passed, failed_after, with_made, Made, later, made_over, made_there, made_none, made_fault, made_more, made_after, made_within, synced_content_is_left, begins_open, after_mark, records_from, kept_records, Spells, Keeps, empty, is_made, look_steps, make_steps, IsFresh, IsBlank, Makes, OverContent, LooksAt}
use Rattle.gate_journal.specs.declared.refusal.JournalRefusal.TheVariants.{NoMemory}
use Rattle.gate_journal.proofs.Read.{records_from-end, records_from-none, records_from-empty, is_165}
use Rattle.gate_journal.proofs.Crash.{settled_now}
use Rattle.gate_journal.proofs.OpenCalls.{some_image, any_image}

-- what follows the mark is four bytes shorter
pub length-after_mark : (image bytes : List ℕ) → after_mark image ≡ Some bytes → length image ≡ 4 + length bytes
length-after_mark [] bytes is = absurd (cc (is))
length-after_mark (p ∷ []) bytes is = absurd (cc (is))
length-after_mark (p ∷ g ∷ []) bytes is = absurd (cc (is))
length-after_mark (p ∷ g ∷ j ∷ []) bytes is = absurd (cc (is))
length-after_mark (p ∷ g ∷ j ∷ one ∷ rest) bytes is = grind (arith, common_steps, cases_Bool) steps 20000

-- a gate alone ends a journal where it is closed
gate_alone : (bytes : List ℕ) → length bytes ≡ 1
    → is_some (result_ok (records_from (length bytes + 1) 4 bytes)) ≡ not (begins_open bytes)
gate_alone [] one = absurd (omega (arith, one))
gate_alone (g ∷ b ∷ bytes) one = absurd (omega (arith, one))
gate_alone (g ∷ []) one =
    grind (arith, common_steps, cases_Bool, is_165, records_from-none, records_from-end) steps 20000

pub five : (image bytes : List ℕ) → length image ≡ 5 → after_mark image ≡ Some bytes
    → is_some (kept_records image) ≡ not (begins_open bytes)
five image bytes len is =
    (let one : length bytes ≡ 1 = omega (arith, len, length-after_mark image bytes is) in rw is (gate_alone bytes one))

-- fewer bytes spell no journal
short : (image : List ℕ) → length image < 5 → is_some (kept_records image) ≡ false
short image lt = at (after_mark image) refl
  where
    at : (o : Option (List ℕ)) → after_mark image ≡ o → is_some (kept_records image) ≡ false
    at None is = rw is refl
    at (Some []) is = rw is (rw (records_from-empty 1 4) refl)
    at (Some (b ∷ bytes)) is = absurd (omega (arith, lt, length-after_mark image (b ∷ bytes) is))

pub made_otherwise : (image : List ℕ) (len : ℕ) → len ≡ length image → len ≢ 5 → ltb 5 len ≡ is_made image
made_otherwise image len is not_five = grind (arith, common_steps, cases_lt, lt-ltb, short, nat_tests) steps 20000

pub made_five : (image : List ℕ) → length image ≡ 5 → is_made image ≡ is_some (kept_records image)
made_five image len = (let out : ltb 5 (length image) ≡ false = grind (arith, nat_tests) in rw out refl)

-- five bytes over at most five are all
pub empty_written : (old : List ℕ) → length old ≤ 5 → with_write old 0 empty ≡ empty
empty_written old le = ap (λ (l : List ℕ). empty ++ l) (drop_all 5 old le)

pub not_made : (image : List ℕ) → is_made image ≡ false → length image ≤ 5
not_made image is = grind (arith, common_steps, cases_lt, lt-ltb) steps 20000

-- at most five bytes that are made spell no records
pub short_blank : (image : List ℕ) → length image ≤ 5 → IsBlank image
short_blank image le = record { short = le; none = λ made. at (after_mark image) refl (spells made) }
  where
    spells : is_made image ≡ true → is_some (kept_records image) ≡ true
    spells made = grind (arith, common_steps, nat_tests) steps 20000

    at : (o : Option (List ℕ)) → after_mark image ≡ o → is_some (kept_records image) ≡ true → Keeps [] image
    at None is some = (let none : kept_records image ≡ None = rw is refl in cc (ap is_some none, some))
    at (Some []) is some = grind (arith, common_steps, records_from-empty) steps 20000
    at (Some (g ∷ [])) is some =
        grind (arith, common_steps, cases_Bool, is_165, records_from-none, records_from-end) steps 20000
    at (Some (g ∷ b ∷ bytes)) is some = absurd (omega (arith, le, length-after_mark image (g ∷ b ∷ bytes) is))

-- the calls that look, by the length
look_steps-five : (image : List ℕ) → length image ≡ 5 → look_steps image ≡ asks_length ∷ reads 0 5 ∷ []
look_steps-five image five = grind (arith, common_steps, nat_tests) steps 20000

look_steps-other : (image : List ℕ) → length image ≢ 5 → look_steps image ≡ asks_length ∷ []
look_steps-other image other = grind (arith, common_steps, nat_tests) steps 20000

-- what a disk holds after a look is what it held
look_holds : (image : List ℕ) (history : History)
    → content (with_made (length (look_steps image)) (look_steps image) history) ≡ content history
look_holds image history = grind (arith, common_steps) steps 20000

-- the calls of a making over an image that is made, and over one that isn't
pub make_steps-made : (image : List ℕ) → is_made image ≡ true → make_steps image ≡ look_steps image
make_steps-made image is = ap
    (λ (b : Bool). cond b (look_steps image) (look_steps image ++ writes 0 empty ∷ syncs ∷ [])) is

pub make_steps-new : (image : List ℕ) → is_made image ≡ false
    → make_steps image ≡ look_steps image ++ writes 0 empty ∷ syncs ∷ []
make_steps-new image new = ap
    (λ (b : Bool). cond b (look_steps image) (look_steps image ++ writes 0 empty ∷ syncs ∷ [])) new

module _ {D : Type 0} (told : D → Option History) (plan : D → Option FaultPlan) where
  -- calls over an image, by what they are there
  there : (steps : List ℕ → List Step) (image : List ℕ) (known : List Step) {course : _} {old new : D}
      → steps image ≡ known
      → WhereTold (told old) (λ before. image ≡ content before)
      → Made told plan (λ any. known) (length known) course old new
      → Made told plan steps (length (steps image)) course old new
  there steps image known {course = course} {old = old} {new = new} is same made =
      grind (arith, common_steps, made_over) steps 20000

  -- a look whose first call failed
  pub look_fault : {old new : D} → Called told plan asks_length true old new
      → OverContent (told old)
      (λ image. Unit {0} × LooksAt {T = Unit {0}} {E = Unit {0}} image told plan (Err tt) old new)
  look_fault {old = old} call =
      let some = any_image (told old) in
      let rest = cond (eqb (length some.0) 5) (reads 0 5 ∷ []) [] in (
        some.0,
        some.1,
        (
          tt,
          (
            0,
            made_over told plan look_steps some.0 some.1
                (made_fault told plan rest (length rest) call),
          ),
        ),
      )

  -- a look that was told the length
  module _ {old asked : D} (ask : Called told plan asks_length false old asked) (len : ℕ)
      (is : WhereTold (told old) (λ before. len ≡ length (content before))) where
    -- an image that doesn't have five bytes
    pub look_other : len ≢ 5
        → OverContent (told old)
        (λ image. ((ltb 5 len ≡ is_made image) × (len ≡ length image)) × LooksAt {T = Unit {0}} {E =
        Unit {0}} image told plan (Ok tt) old asked)
    look_other other =
        let some = some_image (told old) len is in
        let image = some.0 in
        let steps = look_steps-other image (λ five. other (sym some.2 ∙ five)) in
        let made = made_more told plan [] 0 passed ask (made_none told plan asked) in (
          image,
          some.1,
          (
            (made_otherwise image len (sym some.2) other, sym some.2),
            there look_steps image (asks_length ∷ []) steps some.1 made,
          ),
        )

    -- a look whose read failed
    pub look_unread : {new : D} → len ≡ 5 → Called told plan (reads 0 5) true asked new
        → OverContent (told old)
        (λ image. Unit {0} × LooksAt {T = Unit {0}} {E = Unit {0}} image told plan (Err tt) old new)
    look_unread five call =
        let some = some_image (told old) len is in
        let image = some.0 in
        let steps = look_steps-five image (some.2 ∙ five) in
        let made = made_more told plan (reads 0 5 ∷ []) 1 (failed_after 0) ask (made_fault told plan [] 0 call) in
        (image, some.1, (tt, (1, there look_steps image (asks_length ∷ reads 0 5 ∷ []) steps some.1 made)))

    -- a look that read five bytes
    pub look_read : {new : D} (room : List ℕ) → len ≡ 5 → Called told plan (reads 0 5) false asked new
        → WhereTold (told asked) (λ history. room ≡ take 5 (drop 0 (content history))) → length room ≡ 5
        → OverContent (told old)
        (λ image. ((is_some (kept_records room) ≡ is_made image) × (len ≡ length image)) × LooksAt {T =
        Unit {0}} {E = Unit {0}} image told plan (Ok tt) old new)
    look_read {new = new} room five call reads' all =
        let same : WhereTold (told old) (λ before. room ≡ content before) = λ before some.
        reads' _ (ask.history ∙ ap (option_map (with_call asks_length false)) some)
        ∙ take_all 5 (content before) (omega (arith, five, is before some)) in
        let steps = look_steps-five room all in
        let made =
        made_more told plan (reads 0 5 ∷ []) 1 passed ask
        (made_more told plan [] 0 passed call (made_none told plan new)) in (
          room,
          same,
          (
            (sym (made_five room all), five ∙ sym all),
            there look_steps room (asks_length ∷ reads 0 5 ∷ []) steps same made,
          ),
        )

  -- a making over an image, which looked at it
  module _ (image : List ℕ) {old looked : D} (same : WhereTold (told old) (λ before. image ≡ content before)) where
    -- a look that failed ends it
    pub make_unlooked : (count : ℕ)
        → Made told plan look_steps (length (look_steps image)) (failed_after count) old looked
        → Made told plan make_steps (length (make_steps image)) (failed_after count) old looked
    make_unlooked count made = at (is_made image) refl
      where
        const : Made told plan (λ any. look_steps image) (length (look_steps image)) (failed_after count) old looked
        const = made_there told plan look_steps image same made

        at : (b : Bool) → is_made image ≡ b
            → Made told plan make_steps (length (make_steps image)) (failed_after count) old looked
        at true is = there make_steps image (look_steps image) (make_steps-made image is) same const
        at false is = there make_steps image _ (make_steps-new image is) same
            (made_within told plan (look_steps image) (writes 0 empty ∷ syncs ∷ []) count const)

    module _ (look : Made told plan look_steps (length (look_steps image)) passed old looked) where
      -- a look that found a journal was all
      pub make_found : is_made image ≡ true → Made told plan make_steps (length (make_steps image)) passed old looked
      make_found is = there make_steps image (look_steps image) (make_steps-made image is) same
          (made_there told plan look_steps image same look)

      module _ (new : is_made image ≡ false) where
        -- the journal behind the look
        behind : {course : _} {now : D} → Made told plan (λ any. writes 0 empty ∷ syncs ∷ []) 2 course looked now
            → Made told plan make_steps (length (make_steps image)) (later (length (look_steps image)) course) old now
        behind {course = course} made =
            there make_steps image _ (make_steps-new image new) same
            (made_after told plan (look_steps image) (writes 0 empty ∷ syncs ∷ []) course
            (made_there told plan look_steps image same look) made)

        pub make_unwritten : {now : D} → Called told plan (writes 0 empty) true looked now
            → Made told plan make_steps (length (make_steps image))
            (failed_after (length (look_steps image) + 0)) old now
        make_unwritten call = behind (made_fault told plan (syncs ∷ []) 1 call)

        module _ {written : D} (write : Called told plan (writes 0 empty) false looked written) where
          pub make_unsynced : {now : D} → Called told plan syncs true written now
              → Made told plan make_steps (length (make_steps image))
              (failed_after (length (look_steps image) + 1)) old now
          make_unsynced call = behind
              (made_more told plan (syncs ∷ []) 1 (failed_after 0) write (made_fault told plan [] 0 call))

          pub make_done : {now : D} → Called told plan syncs false written now
              → Made told plan make_steps (length (make_steps image)) passed old now
          make_done {now = now} call =
              behind (made_more told plan (syncs ∷ []) 1 passed write
              (made_more told plan [] 0 passed call (made_none told plan now)))

          -- the write and the sync leave an empty journal
          pub now_fresh : {now : D} → Called told plan syncs false written now → WhereTold (told now) IsFresh
          now_fresh {now = now} call = at (told old) refl
            where
              le : length image ≤ 5
              le = not_made image new

              at : (t : Option History) → told old ≡ t → WhereTold (told now) IsFresh
              at None is = λ history some.
                  absurd (cc (is, look.calls, write.history, call.history, some))
              at (Some before) is = λ history some.
                  let looked_at = with_made (length (look_steps (content before)))
                  (look_steps (content before)) before in
                  let after = with_call syncs false (with_call (writes 0 empty) false looked_at) in
                  let one : told looked ≡ Some looked_at = grind (arith, common_steps) steps 20000 in
                  let two = write.history ∙ ap (option_map (with_call (writes 0 empty) false)) one in
                  let three : told now ≡ Some after = call.history ∙ ap (option_map (with_call syncs false)) two in
                  let there : after ≡ history = cc (three, some) in
                  let holds : content after ≡ empty =
                  grind (arith, common_steps, empty_written, look_holds, le) steps 20000 in
                  let kept : Spells (content after) [] = grind (arith, common_steps) steps 20000 in
                  let fresh : IsFresh after = record {
                    settled = settled_now after [] kept refl;
                    images = λ image' may. synced_content_is_left after image' refl may ∙ holds;
                  } in
                  subst IsFresh there fresh

-- for want of memory no call was made
pub any_makes : {D : Type 0} (told : D → Option History) (plan : D → Option FaultPlan) {old new : D} → new ≡ old
    → Makes told plan old (Err NoMemory) new
any_makes told plan {old = old} is = (let some = any_image (told old) in (some.0, some.1, is))
