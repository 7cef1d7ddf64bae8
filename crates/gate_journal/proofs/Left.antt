-- What a crash leaves by what is synced, what was written since, and how long the disk is.
use Rattle.gate_journal.proofs.Words.{◌≡◌, ◌≢◌, ◌<◌, ◌≤◌, ◌+◌, ℕ, zero, suc, false, leb, ltb, ◌&&◌, ◌||◌, List, [], ◌∷◌, ◌++◌, length, take, drop, get_or, refl, sym, ◌∙◌, ap, inl, inr, arith, append_assoc, length-append, length-take, take-append-drop, cases_lt, cases_eq, nat_tests, same_number_lists, common_steps, get_or-take, take_at, untouched_same, History, content, synced_content, unsynced_ranges, is_touched, MayLeave}

-- the fields of `MayLeave` over plain lists
pub record Left (bytes : List ℕ) (ranges : List (ℕ × ℕ)) (most : ℕ) (image : List ℕ) : Type 0 where
  pub no_shorter : length bytes ≤ length image
  pub no_longer : length image ≤ most
  pub untouched : (place : ℕ) → is_touched bytes ranges place ≡ false → get_or image place 0 ≡ get_or bytes place 0

pub left : (history : History) (image : List ℕ) → MayLeave history image
    → Left (synced_content history) (unsynced_ranges history) (length (content history)) image
left history image may = record { no_shorter = may.no_shorter; no_longer = may.no_longer; untouched = may.untouched }

-- where all is synced, the bytes stay
pub only : (bytes image : List ℕ) → Left bytes [] (length bytes) image → image ≡ bytes
only bytes image l = untouched_same bytes image (omega (arith, l.no_shorter, l.no_longer)) l.untouched

-- one range behind a gate leaves the gate and what is before it
pub behind : (front : List ℕ) (gate : ℕ) (rest : List ℕ) (count most : ℕ) (image : List ℕ)
    → Left (front ++ gate ∷ rest) ((length front + 1, count) ∷ []) most image
    → image ≡ front ++ gate ∷ drop (length front + 1) image
behind front gate rest count most image l =
    let n = length front + 1 in
    let bytes = front ++ gate ∷ rest in
    let len : length bytes ≡ n + length rest = omega (arith, length-append front (gate ∷ rest)) in
    let same : take n image ≡ take n bytes =
    same_number_lists (take n image) (take n bytes)
    (omega (arith, length-take n image, length-take n bytes, len, l.no_shorter)) (λ place lt.
    let lt' : place < n = omega (arith, lt, length-take n image) in
    let out : is_touched bytes ((n, count) ∷ []) place ≡ false =
    (let short : place < length bytes = omega (arith, lt', len) in grind (arith, nat_tests)) in
    get_or-take n image place 0 lt' ∙ l.untouched place out ∙ sym (get_or-take n bytes place 0 lt')) in
    let split : bytes ≡ (front ++ gate ∷ []) ++ rest = sym (append_assoc front (gate ∷ []) rest) in
    let head : take n bytes ≡ front ++ gate ∷ [] = grind (arith, common_steps, take_at) steps 20000 in
    sym (take-append-drop n image) ∙ ap (λ (b : List ℕ). b ++ drop n image) (same ∙ head)
    ∙ append_assoc front (gate ∷ []) (drop n image)

other_place : (front : List ℕ) (a b : ℕ) (rest : List ℕ) (place : ℕ) → place ≢ length front
    → get_or (front ++ a ∷ rest) place 0 ≡ get_or (front ++ b ∷ rest) place 0
other_place [] a b rest zero not = absurd (not refl)
other_place [] a b rest (suc place) not = refl
other_place (f ∷ front) a b rest zero not = refl
other_place (f ∷ front) a b rest (suc place) not = other_place front a b rest place (λ is. not (omega (arith, is)))

pub at_seam : (front : List ℕ) (a : ℕ) (rest : List ℕ) → get_or (front ++ a ∷ rest) (length front) 0 ≡ a
at_seam [] a rest = refl
at_seam (f ∷ front) a rest = at_seam front a rest

-- the gate alone leaves all else
pub at_gate : (front : List ℕ) (gate : ℕ) (rest : List ℕ) (image : List ℕ)
    → Left (front ++ gate ∷ rest) ((length front, 1) ∷ []) (length (front ++ gate ∷ rest)) image
    → image ≡ front ++ get_or image (length front) 0 ∷ rest
at_gate front gate rest image l =
    let g = length front in
    let y = get_or image g 0 in
    let bytes = front ++ gate ∷ rest in
    let len : length bytes ≡ length (front ++ y ∷ rest) =
    omega (arith, length-append front (gate ∷ rest), length-append front (y ∷ rest)) in
    same_number_lists image (front ++ y ∷ rest) (omega (arith, len, l.no_shorter, l.no_longer))
    (λ place lt. elim (cases_eq place g) [
      | inl is ↦ grind (arith, common_steps, at_seam) steps 20000
      | inr not ↦ l.untouched place (outside place g (length bytes) (omega (arith, lt, l.no_longer)) not)
          ∙ other_place front gate y rest place not
    ])
  where
    outside : (place g len : ℕ) → place < len → place ≢ g
        → (leb len place || ((leb g place && ltb place (g + 1)) || false)) ≡ false
    outside place g len lt not = grind (arith, common_steps, cases_lt, nat_tests) steps 20000
