-- What a crash leaves at each moment of an append.
use Rattle.gate_journal.proofs.Words.{◌≡◌, ◌<◌, ◌≤◌, ◌+◌, ◌-◌, ◌%◌, ℕ, zero, suc, min, Bool, true, false, cond, leb, ltb, ◌||◌, ◌&&◌, List, [], ◌∷◌, ◌++◌, length, take, drop, get_or, slice_index, refl, sym, ◌∙◌, ap, subst, inl, inr, arith, append_assoc, length-append, w32, to_be_bytes, count_by, range_with_len, cases_Bool, le-leb, nat_tests, take_at, drop_at, append-nil, common_steps, writes, syncs, DeviceCall, History, content, synced_content, unsynced_ranges, content_after, synced_content_after, unsynced_ranges_after, with_write, is_touched, MayLeave, made_of, frame_of, append_steps, is_open, most, spelled_record, spelled, Spells, Keeps, KeepsWithOrWithout, IsSettled, opens_gate, is_added, StoppedAppends, synced_is_content, synced_content_is_left}
use Rattle.std.proofs.lemmas.List.FromFn.{get_or-map-range_with_len}
use Rattle.crash_disk.specs.Outcomes.{image_after, mix_of, mix_byte, HasPattern}
use Rattle.crash_disk.specs.declared.outcome.Outcome.{Outcome}
use Rattle.crash_disk.specs.declared.outcome.Outcome.TheVariants.{Old, New, Mix}
use Rattle.crash_disk.proofs.Images.{outcomes, none_below}
use Rattle.gate_journal.proofs.Read.{holds-length, spelled_is_read}
use Rattle.gate_journal.proofs.Front.{IsRead, front-keeps, read_more, spelled_read}
use Rattle.gate_journal.proofs.Left.{Left, left, only, behind, at_gate}

before_gate : (g len k : ℕ) → k < g → k < len → (leb len k || ((leb g k && ltb k (g + 1)) || false)) ≡ false
before_gate g len k lt short = grind (arith, nat_tests)

at_own : (g len : ℕ) → g < len → (leb len g || ((leb g g && ltb g (g + 1)) || false)) ≡ true
at_own g len short = grind (arith, nat_tests)

-- an append behind bytes that were read as these records
module _ (front : List ℕ) (records : List (List ℕ)) (read : IsRead front records) (body : List ℕ)
    (body_fits : length body ≤ most) where
  abbrev more : List (List ℕ)
  more = records ++ body ∷ []

  pub keeps_closed : (gate : ℕ) (rest : List ℕ) → is_open gate ≡ false → Keeps records (front ++ gate ∷ rest)
  keeps_closed gate rest closed = front-keeps front records gate rest read.reads closed

  -- the bytes with the new record
  abbrev pub front_more : List ℕ
  front_more = front ++ spelled_record body

  pub more_read : IsRead front_more more
  more_read = read_more front records (to_be_bytes w32 (length body)) body read refl
      (holds-length body body_fits) body_fits

  -- an open gate before what was framed is one record more
  pub open_is : (rest : List ℕ) → front ++ 165 ∷ (frame_of body ++ rest) ≡ front_more ++ 0 ∷ rest
  open_is rest = grind (arith, common_steps) steps 20000

  pub keeps_open : (rest : List ℕ) → Keeps more (front ++ 165 ∷ (frame_of body ++ rest))
  keeps_open rest = subst (Keeps more) (sym (open_is rest)) (front-keeps front_more more 0 rest more_read.reads refl)

  -- whatever stands in the gate's place, the record counts where it is open
  pub gate_decides : (gate : ℕ) (rest : List ℕ)
      → Keeps (cond (is_open gate) more records) (front ++ gate ∷ (frame_of body ++ rest))
  gate_decides gate rest = elim (cases_Bool (is_open gate)) [
    | inl open_gate ↦
        let is : gate ≡ 165 = grind (arith, nat_tests) in
        grind (arith, common_steps, keeps_open) steps 20000
    | inr closed ↦ grind (arith, common_steps, keeps_closed) steps 20000
  ]

  pub either_way : (image : List ℕ) (b : Bool) → Keeps (cond b more records) image
      → KeepsWithOrWithout records body image
  either_way image true keeps = inr keeps
  either_way image false keeps = inl keeps

  module _ (began : List ℕ) (calls : List DeviceCall) (gate : ℕ) (rest : List ℕ)
      (holds : content_after began calls ≡ front ++ gate ∷ rest) (closed : is_open gate ≡ false)
      (settled : unsynced_ranges_after calls ≡ []) where
    abbrev g : ℕ
    g = length front

    abbrev bytes : List ℕ
    bytes = frame_of body

    -- what stays behind the frame
    abbrev pub tail : List ℕ
    tail = drop (g + 1 + length bytes) (front ++ gate ∷ rest)

    syncs_so_far : synced_content_after began calls ≡ front ++ gate ∷ rest
    syncs_so_far = synced_is_content began calls settled ∙ holds

    abbrev after_frame : Bool → List DeviceCall
    after_frame failed = record { step = writes (g + 1) bytes; failed = failed } ∷ calls

    abbrev after_sync : Bool → List DeviceCall
    after_sync failed = record { step = syncs; failed = failed } ∷ after_frame false

    abbrev after_gate : Bool → List DeviceCall
    after_gate failed = record { step = writes g (165 ∷ []); failed = failed } ∷ after_sync false

    abbrev after_all : Bool → List DeviceCall
    after_all failed = record { step = syncs; failed = failed } ∷ after_gate false

    abbrev may : List DeviceCall → List ℕ → Type 0
    may made image = MayLeave (record { began = began; calls = made }) image

    -- the bytes behind the gate, and then the gate
    pub framed_is : (failed : Bool) → content_after began (after_frame failed) ≡ front ++ gate ∷ (bytes ++ tail)
    framed_is failed =
        let all = front ++ gate ∷ rest in
        let split : all ≡ (front ++ gate ∷ []) ++ rest = sym (append_assoc front (gate ∷ []) rest) in
        let head : take (g + 1) all ≡ front ++ gate ∷ [] = grind (arith, common_steps, take_at) steps 20000 in
        grind (arith, common_steps) steps 20000

    pub opened_is : (failed : Bool) → content_after began (after_gate failed) ≡ front ++ 165 ∷ (bytes ++ tail)
    opened_is failed =
        let all = front ++ gate ∷ (bytes ++ tail) in
        let split : all ≡ (front ++ gate ∷ []) ++ (bytes ++ tail) =
        sym (append_assoc front (gate ∷ []) (bytes ++ tail)) in
        let back : drop (g + 1) all ≡ bytes ++ tail = grind (arith, common_steps, drop_at) steps 20000 in
        ap (λ (b : List ℕ). with_write b g (165 ∷ [])) (framed_is false)
        ∙ (λ i. take_at front (gate ∷ (bytes ++ tail)) g refl i ++ (165 ∷ []) ++ back i)
        ∙ append_assoc front (165 ∷ []) (bytes ++ tail)

    -- before, all is synced
    pub at_start : (image : List ℕ) → may calls image → image ≡ front ++ gate ∷ rest
    at_start image m =
        let l = left _ image m in
        let l' : Left (front ++ gate ∷ rest) [] (length (front ++ gate ∷ rest)) image =
        grind (arith, common_steps, syncs_so_far) steps 20000 in
        only (front ++ gate ∷ rest) image l'

    behind_gate : (most : ℕ) (image : List ℕ)
        → Left (synced_content_after began calls)
        (unsynced_ranges_after calls ++ (g + 1, length bytes) ∷ []) most image → Keeps records image
    behind_gate most image l =
        let l' : Left (front ++ gate ∷ rest) ((g + 1, length bytes) ∷ []) most image =
        grind (arith, common_steps, syncs_so_far) steps 20000 in
        let is = behind front gate rest (length bytes) most image l' in
        subst (Keeps records) (sym is) (keeps_closed gate (drop (g + 1) image) closed)

    pub at_frame : (failed : Bool) (image : List ℕ) → may (after_frame failed) image → Keeps records image
    at_frame failed image m = behind_gate _ image (left _ image m)

    pub at_sync : (failed : Bool) (image : List ℕ) → may (after_sync failed) image → Keeps records image
    at_sync true image m = behind_gate _ image
        (let l = left _ image m in subst
        (λ (r : List (ℕ × ℕ)). Left (synced_content_after began calls) r
        (length (content_after began (after_frame false))) image)
        (append-nil (unsynced_ranges_after calls ++ (g + 1, length bytes) ∷ [])) l)
    at_sync false image m =
        let is = only (content_after began (after_frame false)) image (left _ image m) ∙ framed_is false in
        subst (Keeps records) (sym is) (keeps_closed gate (bytes ++ tail) closed)

    -- the gate alone is open to chance
    in_gate : (image : List ℕ)
        → Left (content_after began (after_frame false)) ((g, 1) ∷ [])
        (length (content_after began (after_gate false))) image → image ≡ front ++ get_or image g 0 ∷ (bytes ++ tail)
    in_gate image l =
        let all = front ++ gate ∷ (bytes ++ tail) in
        let len : length (content_after began (after_gate false)) ≡ length all =
        ap length (opened_is false)
        ∙ omega (
          arith,
          length-append front (165 ∷ (bytes ++ tail)),
          length-append front (gate ∷ (bytes ++ tail)),
        ) in
        let l' : Left all ((g, 1) ∷ []) (length all) image =
        subst (λ (n : ℕ). Left all ((g, 1) ∷ []) n image) len
        (subst (λ (b : List ℕ). Left b ((g, 1) ∷ []) (length (content_after began (after_gate false))) image)
        (framed_is false) l) in
        at_gate front gate (bytes ++ tail) image l'

    pub at_gate_write : (failed : Bool) (image : List ℕ) → may (after_gate failed) image
        → image ≡ front ++ get_or image g 0 ∷ (bytes ++ tail)
    at_gate_write failed image m = in_gate image (left _ image m)

    pub at_last_sync : (image : List ℕ) → may (after_all true) image
        → image ≡ front ++ get_or image g 0 ∷ (bytes ++ tail)
    at_last_sync image m = in_gate image (left _ image m)

    pub at_end : (image : List ℕ) → may (after_all false) image → image ≡ front ++ 165 ∷ (bytes ++ tail)
    at_end image m = only (content_after began (after_gate false)) image (left _ image m) ∙ opened_is false

    start_keeps : (image : List ℕ) → may calls image → KeepsWithOrWithout records body image
    start_keeps image m = inl (subst (Keeps records) (sym (at_start image m)) (keeps_closed gate rest closed))

    gate_keeps : (image : List ℕ) → image ≡ front ++ get_or image g 0 ∷ (bytes ++ tail)
        → Keeps (cond (is_open (get_or image g 0)) more records) image
    gate_keeps image is = subst (Keeps (cond (is_open (get_or image g 0)) more records)) (sym is)
        (gate_decides (get_or image g 0) tail)

    gate_either : (image : List ℕ) → image ≡ front ++ get_or image g 0 ∷ (bytes ++ tail)
        → KeepsWithOrWithout records body image
    gate_either image is = either_way image (is_open (get_or image g 0)) (gate_keeps image is)

    end_keeps : (image : List ℕ) → may (after_all false) image → Keeps more image
    end_keeps image m = subst (Keeps more) (sym (at_end image m)) (keeps_open tail)

    abbrev made : ℕ → List DeviceCall
    made count = made_of count (append_steps g body) calls

    -- a crash at any moment of the append leaves the records with the new one or without
    pub any_moment : (n count : ℕ) (image : List ℕ) → length calls + count ≤ length (made n)
        → may (drop count (made n)) image → KeepsWithOrWithout records body image
    any_moment zero zero image le m = inl (at_frame true image m)
    any_moment zero (suc zero) image le m = start_keeps image m
    any_moment zero (suc (suc n)) image le m = absurd (omega (arith, le))
    any_moment (suc zero) zero image le m = inl (at_sync true image m)
    any_moment (suc zero) (suc zero) image le m = inl (at_frame false image m)
    any_moment (suc zero) (suc (suc zero)) image le m = start_keeps image m
    any_moment (suc zero) (suc (suc (suc n))) image le m = absurd (omega (arith, le))
    any_moment (suc (suc zero)) zero image le m = gate_either image (at_gate_write true image m)
    any_moment (suc (suc zero)) (suc zero) image le m = inl (at_sync false image m)
    any_moment (suc (suc zero)) (suc (suc zero)) image le m = inl (at_frame false image m)
    any_moment (suc (suc zero)) (suc (suc (suc zero))) image le m = start_keeps image m
    any_moment (suc (suc zero)) (suc (suc (suc (suc n)))) image le m = absurd (omega (arith, le))
    any_moment (suc (suc (suc zero))) zero image le m = gate_either image (at_last_sync image m)
    any_moment (suc (suc (suc zero))) (suc zero) image le m = gate_either image (at_gate_write false image m)
    any_moment (suc (suc (suc zero))) (suc (suc zero)) image le m = inl (at_sync false image m)
    any_moment (suc (suc (suc zero))) (suc (suc (suc zero))) image le m = inl (at_frame false image m)
    any_moment (suc (suc (suc zero))) (suc (suc (suc (suc zero)))) image le m = start_keeps image m
    any_moment (suc (suc (suc zero))) (suc (suc (suc (suc (suc n))))) image le m = absurd (omega (arith, le))
    any_moment (suc (suc (suc (suc p)))) zero image le m = inr (end_keeps image m)
    any_moment (suc (suc (suc (suc p)))) (suc zero) image le m = gate_either image (at_gate_write false image m)
    any_moment (suc (suc (suc (suc p)))) (suc (suc zero)) image le m = inl (at_sync false image m)
    any_moment (suc (suc (suc (suc p)))) (suc (suc (suc zero))) image le m = inl (at_frame false image m)
    any_moment (suc (suc (suc (suc p)))) (suc (suc (suc (suc zero)))) image le m = start_keeps image m
    any_moment (suc (suc (suc (suc p)))) (suc (suc (suc (suc (suc n))))) image le m = absurd (omega (arith, le))

    -- after all calls
    pub now_content : content_after began (after_gate false) ≡ front_more ++ 0 ∷ tail
    now_content = opened_is false ∙ open_is tail

    abbrev stopped : ℕ → History
    stopped count = record { began = began; calls = made count }

    abbrev within : List ℕ
    within = content_after began (after_frame false)

    g_within : g < length within
    g_within = omega (arith, ap length (framed_is false), length-append front (gate ∷ (bytes ++ tail)))

    -- the first touched place of a mix is the gate, so it takes the pattern's first byte
    mixed_gate : (pattern : List ℕ) (growth : ℕ) → 0 < length pattern
        → get_or (mix_of within ((g, 1) ∷ []) pattern growth) g 0 ≡ slice_index pattern 0
    mixed_gate pattern growth some =
        let f = mix_byte within ((g, 1) ∷ []) pattern in
        let none = none_below (is_touched within ((g, 1) ∷ [])) 0 g
        (λ k from lt. before_gate g (length within) k (omega (arith, lt)) (omega (arith, lt, g_within))) in
        let here : is_touched within ((g, 1) ∷ []) g ≡ true = at_own g (length within) g_within in
        let first : count_by (is_touched within ((g, 1) ∷ [])) (range_with_len 0 g) % length pattern ≡ 0 =
        ap (λ (n : ℕ). n % length pattern) none ∙ omega (arith, some) in
        get_or-map-range_with_len f 0 (length within + growth) g g 0 (omega (arith, g_within)) (omega arith)
        ∙ (grind (arith, common_steps) steps 20000)

    gate_outcome : (outcome : Outcome) → HasPattern outcome → (h : History) → synced_content h ≡ within
        → unsynced_ranges h ≡ (g, 1) ∷ [] → content h ≡ content_after began (after_gate false)
        → Keeps (cond (opens_gate outcome) more records) (image_after outcome h)
    gate_outcome Old some h s u n =
        subst (Keeps records) (sym (s ∙ framed_is false)) (keeps_closed gate (bytes ++ tail) closed)
    gate_outcome New some h s u n = subst (Keeps more) (sym (n ∙ opened_is false)) (keeps_open tail)
    gate_outcome (Mix extra pattern) some h s u n =
        let growth = min extra (length (content h) - length (synced_content h)) in
        let image = image_after (Mix extra pattern) h in
        let l = left h image (outcomes (Mix extra pattern) h) in
        let l' : Left within ((g, 1) ∷ []) (length (content_after began (after_gate false))) image =
        grind (arith, common_steps) steps 20000 in
        let same : image ≡ mix_of within ((g, 1) ∷ []) pattern growth = (λ i. mix_of (s i) (u i) pattern growth) in
        let byte : get_or image g 0 ≡ slice_index pattern 0 =
        ap (λ (b : List ℕ). get_or b g 0) same ∙ mixed_gate pattern growth some in
        subst (λ (y : ℕ). Keeps (cond (is_open y) more records) image) byte (gate_keeps image (in_gate image l'))

    -- what an outcome leaves of an append that was stopped
    pub outcome_keeps : (count : ℕ) (outcome : Outcome) → HasPattern outcome
        → Keeps (cond (is_added count outcome) more records) (image_after outcome (stopped count))
    outcome_keeps zero outcome some = at_frame true _ (outcomes outcome (stopped zero))
    outcome_keeps (suc zero) outcome some = at_sync true _ (outcomes outcome (stopped 1))
    outcome_keeps (suc (suc zero)) outcome some = gate_outcome outcome some (stopped 2) refl refl refl
    outcome_keeps (suc (suc (suc zero))) outcome some = gate_outcome outcome some (stopped 3) refl refl refl
    outcome_keeps (suc (suc (suc (suc p)))) outcome some =
        let all : leb 4 (suc (suc (suc (suc p)))) ≡ true = le-leb _ _ (omega arith) in
        let keeps = end_keeps (image_after outcome (stopped (suc (suc (suc (suc p))))))
        (outcomes outcome (stopped (suc (suc (suc (suc p)))))) in
        grind (arith, common_steps) steps 20000

-- an image that is all synced and spells records
pub settled_now : (history : History) (records : List (List ℕ)) → Spells (content history) records
    → unsynced_ranges history ≡ [] → IsSettled history records
settled_now history records kept none = record {
  kept = kept;
  read = spelled_is_read (content history) records kept;
  synced = none;
  images = λ image may. subst (Keeps records) (sym (synced_content_is_left history image none may))
      (spelled_is_read (content history) records kept);
}

pub stopped_appends : StoppedAppends
stopped_appends history records body count outcome kept none fits some =
    outcome_keeps (spelled records) records
    (spelled_read records kept.fits) body fits history.began history.calls kept.gate kept.rest kept.is kept.closed
    none count outcome some
