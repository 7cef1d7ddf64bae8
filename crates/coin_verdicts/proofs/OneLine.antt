-- The standing after the changes of one line.
use Rattle.std.proofs.Common.{◌≡◌, ℕ, ◌==◌, ◌||◌, Bool, true, false, if◌then◌else◌, List, [], ◌∷◌, ◌++◌, Option, Some, None, refl, ap, arith}
use Rattle.std.specs.Option.{option_or}
use Rattle.std.proofs.lemmas.Grind.{common_steps}
use Rattle.coin_verdicts.specs.declared.note.Note.{Note}
use Rattle.coin_verdicts.specs.declared.note.Change.{Change}
use Rattle.coin_verdicts.specs.declared.note.Holder.{Holder}
use Rattle.coin_verdicts.specs.declared.note.Standing.{Standing}
use Rattle.coin_verdicts.specs.Facts.{has}
use Rattle.coin_verdicts.specs.Notes.{where_so, each_time, noted}
use Rattle.coin_verdicts.specs.Standings.{missed, with_note, standing_in}

-- a change in a line, as a note
abbrev pub in_line : ℕ → Change → Note
in_line line change = record { line = line; change = change }

pub after-where : (holder : Holder) (e line : ℕ) (b : Bool) (change : Change) (notes : List Note)
    → standing_in holder e (noted line (where_so b change) ++ notes)
    ≡ (if b then with_note holder e (standing_in holder e notes) (in_line line change) else standing_in holder e notes)
unfolding standing_in
after-where holder e line true change notes = refl
after-where holder e line false change notes = refl

-- the same tick twice is the same as once
again : (o : Option ℕ) (b : Bool) (line : ℕ)
    → option_or (option_or o (if b then Some line else None)) (if b then Some line else None)
    ≡ option_or o (if b then Some line else None)
again o b line = grind (arith, common_steps) steps 20000

or-again : (a b : Bool) → ((a || b) || b) ≡ (a || b)
or-again a b = grind (arith, common_steps) steps 20000

missed-again : (line : ℕ) (s : Standing) (b : Bool)
    → missed line (record s { unattended = missed line s b }) b ≡ missed line s b
missed-again line s b = grind (arith, common_steps, again) steps 20000

meets-again : (holder : Holder) (e line : ℕ) (nodes tips : List ℕ) (s : Standing)
    → with_note holder e (with_note holder e s (in_line line (Change.Meets nodes tips)))
    (in_line line (Change.Meets nodes tips))
    ≡ with_note holder e s (in_line line (Change.Meets nodes tips))
meets-again holder e line nodes tips s = grind (arith, common_steps, missed-again, or-again) steps 20000

pub after-each : (holder : Holder) (e line c : ℕ) (nodes tips met : List ℕ) (notes : List Note)
    → standing_in holder e (noted line (each_time c (Change.Meets nodes tips) met) ++ notes)
    ≡ (if has met c then with_note holder e (standing_in holder e notes) (in_line line (Change.Meets nodes tips))
    else standing_in holder e notes)
unfolding standing_in
after-each holder e line c nodes tips [] notes = refl
after-each holder e line c nodes tips (m ∷ met) notes =
    at (m == c) (has met c) (after-each holder e line c nodes tips met notes)
  where
    at : (b d : Bool)
        → standing_in holder e (noted line (each_time c (Change.Meets nodes tips) met) ++ notes)
        ≡ (if d then with_note holder e (standing_in holder e notes) (in_line line (Change.Meets nodes tips))
        else standing_in holder e notes)
        → standing_in holder e
        (noted line (if b then Change.Meets nodes tips ∷ each_time c (Change.Meets nodes tips) met
        else each_time c (Change.Meets nodes tips) met) ++ notes)
        ≡ (if b || d then with_note holder e (standing_in holder e notes) (in_line line (Change.Meets nodes tips))
        else standing_in holder e notes)
    at true true rest = grind (arith, common_steps, meets-again) steps 20000
    at true false rest = ap (λ s. with_note holder e s (in_line line (Change.Meets nodes tips))) rest
    at false true rest = rest
    at false false rest = rest
