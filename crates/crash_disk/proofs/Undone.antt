-- Writes undone: what a write more, undone, makes of them.
use Rattle.crash_disk.proofs.Words.{◌≡◌, ◌<◌, ◌≤◌, ◌+◌, ◌-◌, ℕ, zero, suc, List, [], ◌∷◌, ◌++◌, length, take, drop, get_or, slice_index, refl, sym, ◌∙◌, ap, subst, arith, length-append, length-take, append_assoc, get_or_append_left, get_or-append_right, take_at, drop_at, drop-drop, take-append-drop, common_steps, with_write, before_write, IsReplaced, undone, IsUndoable}

-- what a write replaces
abbrev pub replaced_by : List ℕ → ℕ → List ℕ → List ℕ
replaced_by old place bytes = take (length bytes) (drop place old)

-- a write that is undone leaves what was there before
pub before_with_write : (old : List ℕ) (place : ℕ) (bytes : List ℕ) → place ≤ length old
    → before_write (place, length bytes) (replaced_by old place bytes) (with_write old place bytes) ≡ old
before_with_write old place bytes fits =
    let rest = drop (place + length bytes) old in
    let piece = replaced_by old place bytes in
    let len : length (take place old) ≡ place = omega (arith, length-take place old, fits) in
    let front : take place (with_write old place bytes) ≡ take place old =
    grind (arith, common_steps, append_assoc, take_at) steps 20000 in
    let back : drop (place + length bytes) (with_write old place bytes) ≡ rest =
    grind (arith, common_steps, drop_at) steps 20000 in
    let behind : piece ++ rest ≡ drop place old =
    ap (λ (l : List ℕ). piece ++ l) (sym (drop-drop (length bytes) place old))
    ∙ take-append-drop (length bytes) (drop place old) in
    grind (arith, common_steps, front, back, append_assoc, take-append-drop) steps 20000

pub is_replaced : (old : List ℕ) (place : ℕ) (bytes : List ℕ) → place ≤ length old
    → IsReplaced (place, length bytes) (replaced_by old place bytes) (with_write old place bytes)
is_replaced old place bytes fits = grind (arith, common_steps) steps 20000

-- the writes behind so many don't matter for these
undone_front : (count : ℕ) (ranges : List (ℕ × ℕ)) (starts : List ℕ) (range : ℕ × ℕ) (start : ℕ)
    (replaced bytes : List ℕ) → count ≤ length ranges → count ≤ length starts
    → undone count (ranges ++ range ∷ []) (starts ++ start ∷ []) replaced bytes
    ≡ undone count ranges starts replaced bytes
undone_front zero ranges starts range start replaced bytes some same = refl
undone_front (suc count) ranges starts range start replaced bytes some same =
    let here = get_or_append_left ranges (range ∷ []) (0, 0) count (omega (arith, some)) in
    let there = get_or_append_left starts (start ∷ []) 0 count (omega (arith, same)) in
    (grind (arith, common_steps, count, there, here) steps 20000)
    ∙ undone_front count ranges starts range start (take (slice_index starts count) replaced)
    (before_write (get_or ranges count (0, 0)) (drop (slice_index starts count) replaced) bytes)
    (omega (arith, some)) (omega (arith, same))

-- the newest of so many writes may have replaced what starts there, and the others what is before
abbrev pub IsLast : ℕ → List (ℕ × ℕ) → List ℕ → List ℕ → List ℕ → ℕ → ℕ × ℕ → Type 0
IsLast count ranges starts replaced bytes start range =
    (start ≤ length replaced)
    × IsReplaced range (drop start replaced) bytes
    × IsUndoable count ranges starts (take start replaced) (before_write range (drop start replaced) bytes)

undoable_front : (count : ℕ) (ranges : List (ℕ × ℕ)) (starts : List ℕ) (range : ℕ × ℕ) (start : ℕ)
    (replaced bytes : List ℕ) → count ≤ length ranges → count ≤ length starts
    → IsUndoable count ranges starts replaced bytes
    → IsUndoable count (ranges ++ range ∷ []) (starts ++ start ∷ []) replaced bytes
undoable_front zero ranges starts range start replaced bytes some same are = tt
undoable_front (suc count) ranges starts range start replaced bytes some same are =
    let here = get_or_append_left ranges (range ∷ []) (0, 0) count (omega (arith, some)) in
    let there = get_or_append_left starts (start ∷ []) 0 count (omega (arith, same)) in
    let Last = IsLast count (ranges ++ range ∷ []) (starts ++ start ∷ []) replaced bytes in
    let rest = undoable_front count ranges starts range start (take (slice_index starts count) replaced)
    (before_write (get_or ranges count (0, 0)) (drop (slice_index starts count) replaced) bytes)
    (omega (arith, some)) (omega (arith, same)) are.2 in
    grind (arith, common_steps, count, there, here) steps 20000

-- the newest of some writes, and those before it
pub undoable_newest : (count : ℕ) (ranges : List (ℕ × ℕ)) (starts replaced bytes : List ℕ) → 0 < count
    → IsUndoable count ranges starts replaced bytes
    → IsLast (count - 1) ranges starts replaced bytes (slice_index starts (count - 1))
    (get_or ranges (count - 1) (0, 0))
undoable_newest zero ranges starts replaced bytes some are = absurd (omega (arith, some))
undoable_newest (suc count) ranges starts replaced bytes some are =
    let less : suc count - 1 ≡ count = omega arith in
    subst (λ (n : ℕ). IsLast n ranges starts replaced bytes (slice_index starts n) (get_or ranges n (0, 0)))
    (sym less) are

pub undone_newest : (count : ℕ) (ranges : List (ℕ × ℕ)) (starts replaced bytes : List ℕ) → 0 < count
    → undone (count - 1) ranges starts (take (slice_index starts (count - 1)) replaced)
    (before_write (get_or ranges (count - 1) (0, 0)) (drop (slice_index starts (count - 1)) replaced) bytes)
    ≡ undone count ranges starts replaced bytes
undone_newest zero ranges starts replaced bytes some = absurd (omega (arith, some))
undone_newest (suc count) ranges starts replaced bytes some =
    let less : suc count - 1 ≡ count = omega arith in
    grind (arith, common_steps) steps 20000

last_of : {A : Type 0} (list : List A) (last other : A) (n : ℕ) → length list ≡ n
    → get_or (list ++ last ∷ []) n other ≡ last
last_of list last other n is = grind (arith, common_steps, get_or-append_right) steps 20000

-- one more write of these bytes at this place
module _ (ranges : List (ℕ × ℕ)) (starts replaced old : List ℕ) (place : ℕ) (bytes : List ℕ)
    (same : length starts ≡ length ranges) (fits : place ≤ length old) where
  abbrev range : ℕ × ℕ
  range = (place, length bytes)

  abbrev piece : List ℕ
  piece = replaced_by old place bytes

  count : length (ranges ++ range ∷ []) ≡ suc (length ranges)
  count = length-append ranges (range ∷ []) ∙ omega arith

  here : get_or (ranges ++ range ∷ []) (length ranges) (0, 0) ≡ range
  here = last_of ranges range (0, 0) (length ranges) refl

  there : slice_index (starts ++ length replaced ∷ []) (length ranges) ≡ length replaced
  there = last_of starts (length replaced) 0 (length ranges) same

  front : take (length replaced) (replaced ++ piece) ≡ replaced
  front = take_at replaced piece (length replaced) refl

  back : drop (length replaced) (replaced ++ piece) ≡ piece
  back = drop_at replaced piece (length replaced) refl

  before : before_write range (drop (length replaced) (replaced ++ piece)) (with_write old place bytes) ≡ old
  before = grind (arith, common_steps, back, before_with_write) steps 20000

  pub undone_write : undone (length (ranges ++ range ∷ [])) (ranges ++ range ∷ []) (starts ++ length replaced ∷ [])
      (replaced ++ piece) (with_write old place bytes)
      ≡ undone (length ranges) ranges starts replaced old
  undone_write =
      ap (λ (n : ℕ). undone n (ranges ++ range ∷ []) (starts ++ length replaced ∷ []) (replaced ++ piece)
      (with_write old place bytes)) count
      ∙ (grind (arith, common_steps, there, here) steps 20000)
      ∙ (λ i. undone (length ranges) (ranges ++ range ∷ []) (starts ++ length replaced ∷ []) (front i) (before i))
      ∙ undone_front (length ranges) ranges starts range (length replaced) replaced old (omega arith)
      (omega (arith, same))

  pub undoable_write : IsUndoable (length ranges) ranges starts replaced old
      → IsUndoable (length (ranges ++ range ∷ [])) (ranges ++ range ∷ []) (starts ++ length replaced ∷ [])
      (replaced ++ piece) (with_write old place bytes)
  undoable_write are =
      let new = with_write old place bytes in
      let Last = IsLast (length ranges) (ranges ++ range ∷ []) (starts ++ length replaced ∷ []) (replaced ++ piece) new in
      let len : length replaced ≤ length (replaced ++ piece) = omega (arith, length-append replaced piece) in
      let newest = subst (λ (l : List ℕ). IsReplaced range l new) (sym back) (is_replaced old place bytes fits) in
      let older = undoable_front (length ranges) ranges starts range (length replaced) replaced old (omega arith)
      (omega (arith, same)) are in
      grind (arith, common_steps, front, before, there, here, count) steps 20000
