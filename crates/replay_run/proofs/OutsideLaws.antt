-- What sinks hold, from call to call.
use Rattle.std.proofs.Common.{◌≡◌, ℕ, List, [], ◌++◌, Option, refl, ap, ◌∙◌, append_assoc}
use Rattle.streamed_lines.specs.Outside.{Wrote, WroteFront}
use Rattle.streamed_lines.proofs.OutsideLaws.{wrote-none, wrote-more}

-- a text was written, and a beginning of the next one
pub front-more : (a b c : Option (List ℕ)) (s t : List ℕ) → Wrote a b s → WroteFront b c t → WroteFront a c (s ++ t)
front-more a b c s t first second = record {
  front = s ++ second.front;
  back = second.back;
  whole = append_assoc s second.front second.back ∙ ap (λ x. s ++ x) second.whole;
  wrote = wrote-more a b c s second.front first second.wrote;
}

-- nothing was written of a text
pub front-none : (before : Option (List ℕ)) (text : List ℕ) → WroteFront before before text
front-none before text = record { front = []; back = text; whole = refl; wrote = wrote-none before }

-- two texts behind another one
pub joined : (text front old first second other : List ℕ) → text ≡ front ++ second → front ≡ old ++ first
    → second ≡ other → text ≡ old ++ (first ++ other)
joined text front old first second other whole begins same =
    whole ∙ ap (λ t. t ++ second) begins ∙ append_assoc old first second ∙ ap (λ t. old ++ (first ++ t)) same
