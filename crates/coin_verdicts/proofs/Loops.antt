-- Steps of loops over notes.
use Rattle.std.proofs.Common.{◌≡◌, ℕ, ◌+◌, ◌-◌, ◌<◌, ◌≤◌, max, Bool, true, false, if◌then◌else◌, List, [], ◌∷◌, ◌++◌, length, take, get_or, filter, reverse, Option, Some, None, refl, ap, sym, ◌∙◌, arith}
use Rattle.std.specs.Option.{option_map_or}
use Rattle.std.proofs.lemmas.List.{take_more, reverse-append}
use Rattle.std.proofs.lemmas.Grind.{common_steps}
use Rattle.wallet_core.specs.State.{greatest}
use Rattle.coin_verdicts.specs.declared.note.Note.{Note}
use Rattle.coin_verdicts.specs.declared.note.Change.{Change}
use Rattle.coin_verdicts.specs.declared.note.Holder.{Holder}
use Rattle.coin_verdicts.specs.Standings.{was_held, deposited_in, tips_or, tips_in, tip_in, better, better_by}

-- one more element, with the newest first
pub reversed-more : {X : Type 0} (xs : List X) (i : ℕ) (d : X) → i < length xs
    → reverse (take (i + 1) xs) ≡ get_or xs i d ∷ reverse (take i xs)
reversed-more xs i d within =
    ap reverse (take_more xs i d within) ∙ reverse-append (take i xs) (get_or xs i d ∷ [])

-- the greater of two, where there are two
abbrev pub joined : Option ℕ → Option ℕ → Option ℕ
joined None other = other
joined (Some best) None = Some best
joined (Some best) (Some other) = Some (max best other)

pub joined-none : (best : Option ℕ) → joined best None ≡ best
joined-none None = refl
joined-none (Some best) = refl

joined-better : (b : Bool) (best : Option ℕ) (tip : ℕ) (rest : Option ℕ)
    → joined best (if b then Some (option_map_or (max tip) rest tip) else rest) ≡ joined (better b best tip) rest
joined-better b best tip rest = grind (arith, common_steps) steps 20000

greatest-filter : (p : ℕ → Bool) (tip : ℕ) (tips : List ℕ)
    → greatest (filter p (tip ∷ tips))
    ≡ (if p tip then Some (option_map_or (max tip) (greatest (filter p tips)) tip) else greatest (filter p tips))
unfolding greatest
greatest-filter p tip tips = grind (arith, common_steps) steps 20000

-- one note nearer to the oldest
pub joined-more : (p : ℕ → Bool) (w : ℕ) (best : Option ℕ) (change : Change) (tips : List ℕ)
    → joined best (greatest (filter p (tips_or w tips change)))
    ≡ joined (better_by p w best change) (greatest (filter p tips))
joined-more p w best change tips = grind (arith, common_steps, greatest-filter, joined-better) steps 20000

-- where the loop is done, with no deposit and with one
pub tip-undeposited : (holder : Holder) (notes : List Note) (best : Option ℕ)
    → greatest (filter (was_held holder notes) (tips_in holder.wallet notes)) ≡ best
    → [] ≡ deposited_in holder.owner notes → best ≡ tip_in holder notes
unfolding tip_in
tip-undeposited holder notes best is none =
    sym is ∙ ap (λ (ds : List ℕ). greatest (filter (was_held holder notes) (ds ++ tips_in holder.wallet notes))) none

pub tip-deposited : (holder : Holder) (notes : List Note) (best : Option ℕ) (block : ℕ)
    → greatest (filter (was_held holder notes) (tips_in holder.wallet notes)) ≡ best
    → block ∷ [] ≡ deposited_in holder.owner notes
    → better (was_held holder notes block) best block ≡ tip_in holder notes
unfolding tip_in
tip-deposited holder notes best block is some =
    ap (λ o. better (was_held holder notes block) o block) (sym is)
    ∙ at (was_held holder notes block) (greatest (filter (was_held holder notes) (tips_in holder.wallet notes)))
    ∙ sym (greatest-filter (was_held holder notes) block (tips_in holder.wallet notes))
    ∙ ap (λ (ds : List ℕ). greatest (filter (was_held holder notes) (ds ++ tips_in holder.wallet notes))) some
  where
    at : (b : Bool) (o : Option ℕ)
        → better b o block ≡ (if b then Some (option_map_or (max block) o block) else o)
    at true None = refl
    at true (Some best) = ap Some (omega arith)
    at false o = refl

-- the loop over the notes, at one step and at its end
pub tip-more : (p : ℕ → Bool) (w : ℕ) (all : List Note) (best found : Option ℕ) (left : ℕ) (note : Note) → 0 < left
    → left ≤ length all → note ≡ get_or all (left - 1) note
    → found ≡ joined best (greatest (filter p (tips_in w (reverse (take left all)))))
    → found
    ≡ joined (better_by p w best note.change) (greatest (filter p (tips_in w (reverse (take (left - 1) all)))))
unfolding tips_in
tip-more p w all best found left note some within is was =
    grind (arith, common_steps, reversed-more, joined-more) steps 20000

pub tip-end : (p : ℕ → Bool) (w : ℕ) (all : List Note) (best found : Option ℕ) (left : ℕ) → left ≤ 0
    → found ≡ joined best (greatest (filter p (tips_in w (reverse (take left all))))) → found ≡ best
unfolding greatest tips_in
tip-end p w all best found left none was = grind (arith, common_steps, joined-none) steps 20000
