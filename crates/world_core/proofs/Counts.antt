-- How many answers begin with `refused`, with one more answer.
use Rattle.world_core.proofs.Words.{◌≡◌, ℕ, ◌+◌, ◌-◌, ◌^◌, ◌<◌, ◌≤◌, Bool, true, false, List, ◌∷◌, length, cond, sym, ap, ◌∙◌, subst, arith, min, if◌then◌else◌, count_by, sum_by-cons, count_by-le-length, TraceEntry, is_refused, with_answer}

-- a count that is smaller than the type's last number goes on by one
one-more : (count : ℕ) → count + 1 < 2 ^ 64 → min (count + 1) (2 ^ 64 - 1) ≡ count + 1
one-more count few = omega arith

by-answer : (refused : Bool) (count : ℕ) → count + 1 < 2 ^ 64
    → (if refused then min (count + 1) (2 ^ 64 - 1) else count) ≡ cond refused 1 0 + count
by-answer true count few = one-more count few ∙ omega arith
by-answer false count few = omega arith

-- the count with one more answer
pub refused_more : (entries : List TraceEntry) (entry : TraceEntry) (count : ℕ)
    → count ≡ count_by is_refused entries → length entries + 1 < 2 ^ 64
    → with_answer count entry.done entry.reply ≡ count_by is_refused (entry ∷ entries)
refused_more entries entry count is few =
    let least : count ≤ length entries =
    subst (λ (n : ℕ). n ≤ length entries) (sym is) (count_by-le-length is_refused entries) in
    by-answer (is_refused entry) count (omega arith)
    ∙ ap (λ (n : ℕ). cond (is_refused entry) 1 0 + n) is
    ∙ sym (sum_by-cons (λ e. cond (is_refused e) 1 0) entry entries)
