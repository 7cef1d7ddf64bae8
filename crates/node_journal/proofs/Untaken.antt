-- Images that can be begun, and what a making leaves of them.
use Rattle.node_journal.proofs.Words.{◌≡◌, ◌≢◌, ◌≤◌, ℕ, Bool, true, false, cond, ltb, List, [], ◌∷◌, ◌++◌, length, Option, Some, None, refl, ap, arith, drop_all, nat_tests, result_ok, common_steps, History, content, with_write, writes, syncs, content_may_be_left, passed, with_made, after_course, kept_records, Keeps, empty, is_made, look_steps, make_steps, IsBlank, leaves_now, stopped_makings, has_content, is_taken, image_made}
use Rattle.node_journal.proofs.Courses.{after_both}
use Rattle.gate_journal.proofs.Read.{records_from-end}

-- the empty journal spells no record
pub empty_keeps : Keeps [] empty
empty_keeps = ap result_ok (records_from-end 1 4 0 [] refl)

pub not_less : (count : ℕ) → count ≤ 5 → ltb 5 count ≡ false
not_less count le = grind (arith, nat_tests)

pub some_made : (image : List ℕ) (records : List (List ℕ)) → kept_records image ≡ Some records → is_made image ≡ true
some_made image records keeps = grind (arith, common_steps) steps 20000

-- an image that keeps no record isn't taken
pub empty_untaken : (image : List ℕ) → Keeps [] image → is_taken image ≡ false
empty_untaken image keeps = ap (has_content (length image)) keeps

-- nor is a blank one
pub blank_untaken : (image : List ℕ) → IsBlank image → is_taken image ≡ false
blank_untaken image blank = grind (arith, common_steps, not_less, empty_untaken, some_made) steps 20000

-- an image that isn't made is blank: it is left where a making of it made no call
unmade_blank : (image : List ℕ) → is_made image ≡ false → IsBlank image
unmade_blank image new = grind (arith, common_steps, leaves_now, stopped_makings, content_may_be_left) steps 20000

pub unmade_untaken : (image : List ℕ) → is_made image ≡ false → is_taken image ≡ false
unmade_untaken image is = blank_untaken image (unmade_blank image is)

-- what was made of an image keeps no record exactly where the image isn't taken
pub kept_untaken : (image : List ℕ) → Keeps [] (image_made image) → is_taken image ≡ false
kept_untaken image keeps = grind (arith, common_steps, empty_untaken, unmade_untaken) steps 20000

pub untaken_kept : (image : List ℕ) → is_taken image ≡ false → Keeps [] (image_made image)
untaken_kept image is = at (is_made image) refl
  where
    kept : (some : Option (List (List ℕ))) → kept_records image ≡ some → is_made image ≡ true → Keeps [] image
    kept None none made = grind (arith, common_steps) steps 20000
    kept (Some []) some made = some
    kept (Some (body ∷ bodies)) some made = absurd (cc (ap (has_content (length image)) some, is))

    at : (b : Bool) → is_made image ≡ b → Keeps [] (image_made image)
    at true made = rw made (kept (kept_records image) refl made)
    at false new = rw new empty_keeps

-- an image of which another opening is refused is taken, and was there
pub other_taken : (image : List ℕ) → kept_records (image_made image) ≢ Some [] → (is_taken image ≡ true)
    × (is_made image ≡ true)
other_taken image not = at (is_taken image) refl
  where
    made : (b : Bool) → is_made image ≡ b → is_made image ≡ true
    made true is = is
    made false is = absurd (not (untaken_kept image (unmade_untaken image is)))

    at : (b : Bool) → is_taken image ≡ b → (is_taken image ≡ true) × (is_made image ≡ true)
    at true is = (is, made (is_made image) refl)
    at false is = absurd (not (untaken_kept image is))

-- what a disk holds after a look is what it held
look_holds : (image : List ℕ) (history : History)
    → content (with_made (length (look_steps image)) (look_steps image) history) ≡ content history
look_holds image history = grind (arith, common_steps) steps 20000

-- five bytes over at most five are all
empty_written : (old : List ℕ) → length old ≤ 5 → with_write old 0 empty ≡ empty
empty_written old le = ap (λ (l : List ℕ). empty ++ l) (drop_all 5 old le)

-- what the disk holds after a making
pub making_holds : (history : History)
    → content (after_course passed (make_steps (content history)) history) ≡ image_made (content history)
making_holds history = at (is_made (content history)) refl
  where
    c : List ℕ
    c = content history

    steps : (b : Bool) → is_made c ≡ b
        → make_steps c ≡ cond b (look_steps c) (look_steps c ++ writes 0 empty ∷ syncs ∷ [])
    steps b is = ap (λ (made : Bool). cond made (look_steps c) (look_steps c ++ writes 0 empty ∷ syncs ∷ [])) is

    at : (b : Bool) → is_made c ≡ b → content (after_course passed (make_steps c) history) ≡ image_made c
    at true is = grind (arith, common_steps, steps, look_holds, c) steps 20000
    at false is = grind (arith, common_steps, c, after_both, steps, empty_written, look_holds, unmade_blank) steps 20000
