-- What a crash leaves of inits, however they went.
use Rattle.node_journal.proofs.Words.{◌≡◌, ◌≤◌, ◌⊎◌, ℕ, zero, suc, Bool, true, false, cond, List, [], ◌∷◌, ◌++◌, length, MatchBool, refl, sym, ap, subst, inl, inr, arith, append-nil, common_steps, Step, asks_length, reads, writes, syncs, with_call, History, content, MayLeave, Course, passed, failed_after, stopped_after, after_course, content_may_be_left, fresh_disk_leaves_itself, most, append_steps, open_steps, Keeps, empty, is_made, make_steps, IsBlank, AtRest, rest_images, leaves_now, append_rests, course_leaves, stopped_openings, stopped_makings, is_taken, image_made, journal_steps, init_steps, InitsMakeFewCalls, EachImage, InitEvent, asks, prepares, begins, crashes, after_event, MayCome, after_events, MayAllCome, IsUntakenOrBegun, InitsMayBeRepeated, InitsEndBegun, StoppedPreparations, PreparedJournalsAreEmpty}
use Rattle.node_journal.proofs.Courses.{after_both, course_split}
use Rattle.node_journal.proofs.Untaken.{some_made, empty_untaken, blank_untaken, untaken_kept, making_holds}

-- a question for the length leaves what was left before
asked_leaves : (failed : Bool) (history : History) (image : List ℕ)
    → MayLeave (with_call asks_length failed history) image → MayLeave history image
asked_leaves failed history image may = grind (arith, common_steps, append-nil) steps 20000

few_made : (made five : Bool) → length
    (cond made (asks_length ∷ cond five (reads 0 5 ∷ []) [])
    ((asks_length ∷ cond five (reads 0 5 ∷ []) []) ++ writes 0 empty ∷ syncs ∷ [])) ≤ 4
few_made made five = grind (arith, common_steps) steps 20000

few_appended : (identity : List ℕ) (taken : Bool) → length (cond taken [] (append_steps 4 identity)) ≤ 4
few_appended identity taken = grind (arith, common_steps) steps 20000

pub inits_make_few_calls : InitsMakeFewCalls
inits_make_few_calls identity image = grind (arith, common_steps, few_made, few_appended) steps 20000

-- the disk after a making that wasn't stopped, and after the opening behind it
abbrev made : History → History
made history = after_course passed (make_steps (content history)) history

abbrev prepared : History → History
prepared history = after_course passed (journal_steps (content history)) history

-- a making leaves what was left before, or an image that can be begun
making_leaves : (history : History) (course : Course)
    → EachImage (after_course course (make_steps (content history)) history)
    (λ image. MayLeave history image ⊎ (is_taken image ≡ false))
making_leaves history course image may =
    by (is_made (content history))
    (leaves_now history course (make_steps (content history))
    (λ b. MatchBool (is_made (content history)) (MayLeave history b) (IsBlank b))
    (stopped_makings history course) image may)
  where
    by : (b : Bool) → MatchBool b (MayLeave history image) (IsBlank image) → MayLeave history image
        ⊎ (is_taken image ≡ false)
    by true left = inl left
    by false blank = inr (blank_untaken image blank)

-- the calls of the opening are those over what the disk then holds
opens_made : (history : History) → open_steps (image_made (content history)) ≡ open_steps (content (made history))
opens_made history = ap open_steps (sym (making_holds history))

pub stopped_preparations : StoppedPreparations
stopped_preparations history course image may = by (course_split front back history course)
  where
    front : List Step
    front = make_steps (content history)

    back : List Step
    back = open_steps (image_made (content history))

    by : ((first : Course) × (after_course course (front ++ back) history ≡ after_course first front history))
        ⊎ ((second : Course) × (after_course course (front ++ back) history ≡ after_course second back
        (after_course passed front history)))
        → MayLeave history image ⊎ (is_taken image ≡ false)
    by (inl (first, is)) = making_leaves history first image (subst (λ (h : History). MayLeave h image) is may)
    by (inr (second, is)) =
        let there : MayLeave (after_course second back (made history)) image = subst
        (λ (h : History). MayLeave h image) is may in
        let opened = subst (λ (s : List Step). MayLeave (after_course second s (made history)) image)
        (opens_made history) there in
        let left = leaves_now (made history) second (open_steps (content (made history))) (MayLeave (made history))
        (stopped_openings (made history) second) image opened in
        making_leaves history passed image left

-- a journal that was made or opened is at rest with the records that the image kept
prepared_rests : (history : History) (records : List (List ℕ)) → Keeps records (image_made (content history))
    → AtRest (prepared history) records
prepared_rests history records keeps = grind (arith, common_steps, making_holds, after_both) steps 20000

pub prepared_journals_are_empty : PreparedJournalsAreEmpty
prepared_journals_are_empty history untaken = rest_images (prepared history) []
    (prepared_rests history [] (untaken_kept (content history) untaken))

-- no further calls
no_calls : (course : Course) (history : History) → after_course course [] history ≡ history
no_calls passed history = refl
no_calls (failed_after count) history = refl
no_calls (stopped_after zero) history = refl
no_calls (stopped_after (suc count)) history = refl

module _ (identity : List ℕ) (fits : length identity ≤ most) where
  abbrev IsFine : List ℕ → Type 0
  IsFine = IsUntakenOrBegun identity

  prepared_fine : (history : History) (course : Course) → EachImage history IsFine
      → EachImage (after_course course (journal_steps (content history)) history) IsFine
  prepared_fine history course fine image may = elim
      (stopped_preparations history course image may) [ inl left ↦ fine image left | inr untaken ↦ inl untaken ]

  -- the calls of an init behind the opening
  abbrev back : History → List Step
  back history = cond (is_taken (content history)) [] (append_steps 4 identity)

  back_fine : (history : History) (course : Course) → EachImage history IsFine
      → EachImage (after_course course (back history) (prepared history)) IsFine
  back_fine history course fine = at (is_taken (content history)) refl
    where
      at : (b : Bool) → is_taken (content history) ≡ b
          → EachImage (after_course course (cond b [] (append_steps 4 identity)) (prepared history)) IsFine
      at true taken image may = prepared_fine history passed fine image
          (subst (λ (h : History). MayLeave h image) (no_calls course (prepared history)) may)
      at false untaken image may =
          let rest = prepared_rests history [] (untaken_kept (content history) untaken) in
          elim (leaves_now (prepared history) course (append_steps 4 identity) _
          (course_leaves (prepared history) [] identity rest fits course) image may) [
            | inl without ↦ inl (empty_untaken image without)
            | inr with' ↦ inr with'
          ]

  begun_fine : (history : History) (course : Course) → EachImage history IsFine
      → EachImage (after_course course (init_steps identity (content history)) history) IsFine
  begun_fine history course fine image may = by
      (course_split (journal_steps (content history)) (back history) history course)
    where
      by : ((first : Course) × (after_course course
          (init_steps identity (content history)) history ≡ after_course first
          (journal_steps (content history)) history))
          ⊎ ((second : Course) × (after_course course
          (init_steps identity (content history)) history ≡ after_course second (back history) (prepared history)))
          → IsFine image
      by (inl (first, is)) = prepared_fine history first fine image (subst (λ (h : History). MayLeave h image) is may)
      by (inr (second, is)) = back_fine history second fine image (subst (λ (h : History). MayLeave h image) is may)

  fine_after : (event : InitEvent) (history : History) → EachImage history IsFine → MayCome event history
      → EachImage (after_event identity event history) IsFine
  fine_after (asks failed) history fine may = λ image left. fine image (asked_leaves failed history image left)
  fine_after (prepares course) history fine may = prepared_fine history course fine
  fine_after (begins course) history fine may = begun_fine history course fine
  fine_after (crashes image) history fine may = λ again left. subst IsFine
      (sym (fresh_disk_leaves_itself image again left)) (fine image may)

  all_fine : (disk : History) (events : List InitEvent) → EachImage disk IsFine → MayAllCome identity disk events
      → EachImage (after_events identity disk events) IsFine
  unfolding after_events MayAllCome
  all_fine disk [] fine may = fine
  all_fine disk (event ∷ events) fine may = fine_after event (after_events identity disk events)
      (all_fine disk events fine may.0) may.1

  -- an init that isn't stopped
  ends_begun : (history : History) → EachImage history IsFine
      → EachImage (after_course passed (init_steps identity (content history)) history) (Keeps (identity ∷ []))
  ends_begun history fine =
      subst (λ (h : History). EachImage h (Keeps (identity ∷ [])))
      (sym (after_both (journal_steps (content history)) (back history) history))
      (at (is_taken (content history)) refl)
    where
      kept : is_taken (content history) ≡ true → IsFine (content history)
          → Keeps (identity ∷ []) (image_made (content history))
      kept taken (inl untaken) = absurd (cc (taken, untaken))
      kept taken (inr keeps) = grind (arith, common_steps, some_made) steps 20000

      at : (b : Bool) → is_taken (content history) ≡ b
          → EachImage (after_course passed (cond b [] (append_steps 4 identity)) (prepared history))
          (Keeps (identity ∷ []))
      at true taken =
          let keeps = kept taken (fine (content history) (content_may_be_left history)) in
          rest_images (prepared history) (identity ∷ []) (prepared_rests history (identity ∷ []) keeps)
      at false untaken =
          let rest = prepared_rests history [] (untaken_kept (content history) untaken) in
          rest_images _ (identity ∷ []) (append_rests (prepared history) [] identity rest fits)

pub inits_may_be_repeated : InitsMayBeRepeated
inits_may_be_repeated identity disk events fits fine may = all_fine identity fits disk events fine may

pub inits_end_begun : InitsEndBegun
inits_end_begun identity disk events fits fine may = ends_begun identity fits (after_events identity disk events)
    (all_fine identity fits disk events fine may)
