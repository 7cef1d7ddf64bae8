-- What a journal keeps through its life.
use Rattle.gate_journal.proofs.Words.{◌≡◌, ◌≤◌, ◌||◌, ℕ, Bool, true, false, cond, List, [], ◌∷◌, ◌++◌, length, Option, Some, None, refl, sym, ◌∙◌, ap, subst, inl, inr, append_assoc, arith, option_and_then, result_ok, append-nil, common_steps, History, content, MayLeave, Course, passed, failed_after, stopped_after, content_may_be_left, fresh_disk_leaves_itself, most, spelled, kept_records, append_steps, open_steps, Keeps, is_made, make_steps, RecordsStay, AppendedRecordsStay, MadeJournalsStay}
use Rattle.std.proofs.lemmas.Option.{option_and_then_some}
use Rattle.gate_journal.specs.Life.{Event, makes, opens, appends, crashes, Life, shut, records_in, where_passed, records_after, after_event, MayCome, after_events, MayAllCome, Continue, Stay}
use Rattle.gate_journal.proofs.Rest.{AtRest, rest_images, leaves_now, append_rests, course_leaves}
use Rattle.gate_journal.proofs.Stopped.{stopped_openings, made_leaves}

-- all continue themselves
pub itself : (records : List (List ℕ)) → Continue records records
itself records = ([], sym (append-nil records))

pub one_more : (first old : List (List ℕ)) (body : List ℕ) → Continue first old → Continue first (old ++ body ∷ [])
one_more first old body on =
    (on.0 ++ body ∷ [], ap (λ (l : List (List ℕ)). l ++ body ∷ []) on.1 ∙ append_assoc first on.0 (body ∷ []))

-- with a kind of records
module _ (are : List (List ℕ) → Bool) where
  -- an image that keeps records of the kind
  pub in_from : (image : List ℕ) (records : List (List ℕ)) → Keeps records image → are records ≡ true
      → records_in are image ≡ Some records
  in_from image records keeps is =
      ap (option_and_then (λ r. cond (are r) (Some r) None)) keeps ∙ ap (λ (b : Bool). cond b (Some records) None) is

  of_kind : (records others : List (List ℕ)) (b : Bool) → are records ≡ b → cond b (Some records) None ≡ Some others
      → (records ≡ others) × (are records ≡ true)
  of_kind records others true is some = (cc some, is)
  of_kind records others false is some = absurd (cc some)

  pub in_keeps : (image : List ℕ) (records : List (List ℕ)) → records_in are image ≡ Some records
      → Keeps records image × (are records ≡ true)
  in_keeps image records is = grind (arith, common_steps, option_and_then_some, of_kind) steps 20000

  -- each image of a journal at rest keeps its records
  pub rest_stays : (history : History) (records : List (List ℕ)) → AtRest history records → are records ≡ true
      → Stay are records history
  rest_stays history records rest is image may =
      (records, in_from image records (rest_images history records rest image may) is, itself records)

  -- a node's records are of the kind and stay, and where no fault closed it its journal is at rest with them
  pub record IsRight (life : Life) : Type 0 where
    pub kind : (records : List (List ℕ)) → life.records ≡ Some records → are records ≡ true
    pub stays : (records : List (List ℕ)) → life.records ≡ Some records → Stay are records life.history
    pub rests : (records : List (List ℕ)) → life.records ≡ Some records → life.closed ≡ false
        → AtRest life.history records

  none_right : (life : Life) → life.records ≡ None → IsRight life
  none_right life none = grind (arith, common_steps) steps 20000

  rest_right : (life : Life) (records : List (List ℕ)) → life.records ≡ Some records → AtRest life.history records
      → are records ≡ true → IsRight life
  rest_right life records some rest is =
      let same : (others : List (List ℕ)) → life.records ≡ Some others → records ≡ others =
      λ others also. cc (some, also) in
      record {
        kind = λ others also. subst (λ (l : List (List ℕ)). are l ≡ true) (same others also) is;
        stays = λ others also. subst (λ (l : List (List ℕ)). Stay are l life.history) (same others also)
            (rest_stays life.history records rest is);
        rests = λ others also open'. subst (AtRest life.history) (same others also) rest;
      }

  open_right : (life : Life) (kept : Option (List (List ℕ))) → records_in are (content life.history) ≡ kept
      → IsRight (after_event are (opens passed) life)
  open_right life None is = none_right (after_event are (opens passed) life) is
  open_right life (Some records) is =
      let parts = in_keeps (content life.history) records is in
      rest_right (after_event are (opens passed) life) records is (record { read = parts.0; synced = refl }) parts.1

  -- an append, over a node that has these records
  module _ (history : History) (old : List (List ℕ)) (body : List ℕ) (fits : length body ≤ most)
      (rest : AtRest history old) (kind : are old ≡ true) (kind_more : are (old ++ body ∷ []) ≡ true) where
    abbrev life : Life
    life = record { history = history; closed = false; records = Some old }

    abbrev after : Course → Life
    after course = after_event are (appends body course) life

    -- each image of a crash continues what the old records continue
    pub append_stays : (course : Course) (first : List (List ℕ)) → Continue first old
        → Stay are first (after course).history
    append_stays course first on image may =
        elim (leaves_now history course (append_steps (length (spelled old)) body) _
        (course_leaves history old body rest fits course) image may) [
          | inl without ↦ (old, in_from image old without kind, on)
          | inr with' ↦ (old ++ body ∷ [], in_from image (old ++ body ∷ []) with' kind_more, one_more first old body on)
        ]

    append_right : (course : Course) → IsRight (after course)
    append_right passed = rest_right (after passed) (old ++ body ∷ []) refl
        (append_rests history old body rest fits) kind_more
    append_right (failed_after count) =
        let same : (others : List (List ℕ)) → Some old ≡ Some others → old ≡ others = λ others also. cc also in
        record {
          kind = λ others also. subst (λ (l : List (List ℕ)). are l ≡ true) (same others also) kind;
          stays = λ others also. subst (λ (l : List (List ℕ)). Stay are l (after (failed_after count)).history)
              (same others also) (append_stays (failed_after count) old (itself old));
          rests = λ others also open'. absurd (cc open');
        }
    append_right (stopped_after count) = none_right (after (stopped_after count)) refl

  -- a life that has these records
  as_open : (life : Life) (old : List (List ℕ)) → life.records ≡ Some old → life.closed ≡ false
      → life ≡ record { history = life.history; closed = false; records = Some old }
  as_open life old are' open' = λ i. record { history = life.history; closed = open' i; records = are' i }

  pub right_after : (event : Event) (life : Life) → IsRight life → MayCome are event life
      → IsRight (after_event are event life)
  right_after (makes course) life right may = none_right (after_event are (makes course) life) refl
  right_after (opens passed) life right may = open_right life (records_in are (content life.history)) refl
  right_after (opens (failed_after count)) life right may =
      none_right (after_event are (opens (failed_after count)) life) refl
  right_after (opens (stopped_after count)) life right may =
      none_right (after_event are (opens (stopped_after count)) life) refl
  right_after (appends body course) life right may = grind (arith, common_steps, as_open, append_right) steps 20000
  right_after (crashes image) life right may = none_right (after_event are (crashes image) life) refl

  pub rights : (disk : History) (events : List Event) → MayAllCome are (shut disk) events
      → IsRight (after_events are (shut disk) events)
  unfolding after_events MayAllCome
  rights disk [] may = none_right (shut disk) refl
  rights disk (event ∷ events) may =
      right_after event (after_events are (shut disk) events) (rights disk events may.0) may.1

  -- what a node had once stays
  record IsKeeping (records : List (List ℕ)) (life : Life) : Type 0 where
    pub right : IsRight life
    pub stay : Stay are records life.history
    pub goes_on : (others : List (List ℕ)) → life.records ≡ Some others → Continue records others

  open_keeping : (records : List (List ℕ)) (course : Course) (life : Life) → Stay are records life.history
      → (others : List (List ℕ)) → where_passed course (records_in are (content life.history)) ≡ Some others
      → Continue records others
  open_keeping records passed life stay others is =
      let kept = stay (content life.history) (content_may_be_left life.history) in
      let same : kept.0 ≡ others = cc (kept.1, is) in
      subst (Continue records) same kept.2
  open_keeping records (failed_after count) life stay others is = absurd (cc is)
  open_keeping records (stopped_after count) life stay others is = absurd (cc is)

  append_keeping : (records old : List (List ℕ)) (body : List ℕ) (course : Course) (others : List (List ℕ))
      → Continue records old → records_after course body (Some old) ≡ Some others → Continue records others
  append_keeping records old body passed others on is =
      (let same : old ++ body ∷ [] ≡ others = cc is in subst (Continue records) same (one_more records old body on))
  append_keeping records old body (failed_after count) others on is =
      (let same : old ≡ others = cc is in subst (Continue records) same on)
  append_keeping records old body (stopped_after count) others on is = absurd (cc is)

  -- a disk each of whose images is a journal of the kind is made
  stay_made : (records : List (List ℕ)) (history : History) → Stay are records history
      → is_made (content history) ≡ true
  stay_made records history stay =
      let kept = stay (content history) (content_may_be_left history) in
      grind (arith, common_steps, in_keeps, or_true) steps 20000
    where
      or_true : (a b : Bool) → b ≡ true → (a || b) ≡ true
      or_true true b is = refl
      or_true false b is = is

  keeping_after : (records : List (List ℕ)) (event : Event) (life : Life) → IsKeeping records life
      → MayCome are event life → IsKeeping records (after_event are event life)
  keeping_after records (makes course) life keeping may = record {
    right = right_after (makes course) life keeping.right may;
    stay = λ image left. keeping.stay image
        (leaves_now life.history course (make_steps (content life.history)) (MayLeave life.history)
        (made_leaves life.history course (stay_made records life.history keeping.stay)) image left);
    goes_on = λ others is. absurd (cc is);
  }
  keeping_after records (opens course) life keeping may = record {
    right = right_after (opens course) life keeping.right may;
    stay = λ image left. keeping.stay image
        (leaves_now life.history course (open_steps (content life.history)) (MayLeave life.history)
        (stopped_openings life.history course) image left);
    goes_on = λ others is. open_keeping records course life keeping.stay others is;
  }
  keeping_after records (appends body course) life keeping may =
      let old = may.2.0 in
      let is = as_open life old may.2.1 may.1 in
      let on = keeping.goes_on old may.2.1 in
      let rest = keeping.right.rests old may.2.1 may.1 in
      let kind = keeping.right.kind old may.2.1 in
      subst (λ (l : Life). IsKeeping records (after_event are (appends body course) l)) (sym is) (record {
        right = append_right life.history old body may.0 rest kind may.2.2 course;
        stay = append_stays life.history old body may.0 rest kind may.2.2 course records on;
        goes_on = λ others also. append_keeping records old body course others on also;
      })
  keeping_after records (crashes image) life keeping may = record {
    right = right_after (crashes image) life keeping.right may;
    stay = λ again left. subst
        (λ (b : List ℕ). (kept : List (List ℕ)) × (records_in are b ≡ Some kept) × Continue records kept)
        (sym (fresh_disk_leaves_itself image again left)) (keeping.stay image may);
    goes_on = λ others is. absurd (cc is);
  }

  keeping_all : (disk : History) (earlier later : List Event) (records : List (List ℕ))
      → MayAllCome are (shut disk) (later ++ earlier)
      → (MayAllCome are (shut disk) earlier → IsKeeping records (after_events are (shut disk) earlier))
      → IsKeeping records (after_events are (shut disk) (later ++ earlier))
  unfolding after_events MayAllCome
  keeping_all disk earlier [] records may from = from may
  keeping_all disk earlier (event ∷ later) records may from =
      keeping_after records event (after_events are (shut disk) (later ++ earlier))
      (keeping_all disk earlier later records may.0 from) may.1

  keeping_records : (disk : History) (earlier later : List Event) (records : List (List ℕ))
      → MayAllCome are (shut disk) (later ++ earlier)
      → (after_events are (shut disk) earlier).records ≡ Some records
      → IsKeeping records (after_events are (shut disk) (later ++ earlier))
  keeping_records disk earlier later records may is =
      keeping_all disk earlier later records may (λ may_earlier.
      let right = rights disk earlier may_earlier in
      record {
        right = right;
        stay = right.stays records is;
        goes_on = grind (arith, common_steps, itself) steps 20000;
      })

pub records_stay : RecordsStay
records_stay are disk earlier later records may is =
    let keeping = keeping_records are disk earlier later records may is in
    (keeping.stay, keeping.goes_on)

appended : (are : List (List ℕ) → Bool) (disk : History) (earlier : List Event) (records : List (List ℕ))
    (body : List ℕ)
    → (after_events are (shut disk) earlier).records ≡ Some records
    → (after_events are (shut disk) (appends body passed ∷ earlier)).records ≡ Some (records ++ body ∷ [])
unfolding after_events
appended are disk earlier records body is = ap (records_after passed body) is

pub appended_records_stay : AppendedRecordsStay
appended_records_stay are disk earlier later records body may is =
    records_stay are disk (appends body passed ∷ earlier) later (records ++ body ∷ []) may
    (appended are disk earlier records body is)

pub made_journals_stay : MadeJournalsStay
made_journals_stay are disk earlier later may stay =
    let keeping = keeping_all are disk earlier later [] may (grind (arith, common_steps, rights) steps 20000) in
    let now = (after_events are (shut disk) (later ++ earlier)).history in
    let kept = keeping.stay (content now) (content_may_be_left now) in
    let keeps = (in_keeps are (content now) kept.0 kept.1).0 in
    (keeping.stay, λ place not. (let none : kept_records (content now) ≡ None = ap result_ok not in cc (none, keeps)))
