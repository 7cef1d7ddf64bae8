-- What sources give and sinks hold, from call to call.
use Rattle.std.proofs.Common.{◌≡◌, ℕ, Bool, false, List, [], ◌∷◌, ◌++◌, take, drop, Option, Some, None, Result, Ok, Err, refl, sym, ap, ◌∙◌, append_assoc}
use Rattle.std.specs.Prelude.{option_map, OnErr}
use Rattle.std.proofs.lemmas.Bool.{false≢true}
use Rattle.std.proofs.lemmas.List.{take-append-drop, append-nil}
use Rattle.plasma_outside.specs.Outside.{Puts}
use Rattle.streamed_lines.specs.Outside.{Gave, GaveAll, Wrote, WroteFront}

-- ---- what a source gave

pub gave-none : (before : Option (List ℕ)) → Gave before before [] false
gave-none None = record { given = refl; end = λ wrong. absurd (false≢true wrong) }
gave-none (Some left) = record { given = refl; end = λ wrong. absurd (false≢true wrong) }

pub gave-more : (a b c : Option (List ℕ)) (bytes taken : List ℕ) (ended : Bool) → Gave a b bytes false
    → Gave b c taken ended → Gave a c (bytes ++ taken) ended
gave-more a b c bytes taken ended first second = record {
  given = first.given ∙ ap (option_map (λ left. bytes ++ left)) second.given ∙ joined c;
  end = second.end;
}
  where
    joined : (o : Option (List ℕ)) → option_map (λ left. bytes ++ left) (option_map (λ left. taken ++ left) o)
        ≡ option_map (λ left. (bytes ++ taken) ++ left) o
    joined None = refl
    joined (Some left) = ap Some (sym (append_assoc bytes taken left))

pub gave-part : (a b : Option (List ℕ)) (taken : List ℕ) → GaveAll a b taken → Gave a b taken false
gave-part a b [] gave = record { given = gave.given; end = λ wrong. absurd (false≢true wrong) }
gave-part a b (x ∷ xs) gave = gave

-- ---- what a sink holds

pub wrote-none : (before : Option (List ℕ)) → Wrote before before []
wrote-none None = refl
wrote-none (Some taken) = ap Some (sym (append-nil taken))

pub wrote-more : (a b c : Option (List ℕ)) (s t : List ℕ) → Wrote a b s → Wrote b c t → Wrote a c (s ++ t)
wrote-more None b c s t first second = second ∙ ap (option_map (λ taken. taken ++ t)) first
wrote-more (Some taken) b c s t first second =
    second ∙ ap (option_map (λ taken. taken ++ t)) first ∙ ap Some (append_assoc taken s t)

pub wrote-put : (before after : Option (List ℕ)) (bytes : List ℕ) (T E : Type 0) (done : T)
    → Puts {T = T} {E = E} before after (Ok done) bytes → Wrote before after bytes
wrote-put None after bytes T E done puts = puts
wrote-put (Some taken) after bytes T E done puts = puts

pub front-put : (before after : Option (List ℕ)) (bytes : List ℕ) (T E : Type 0) (e : E)
    → Puts {T = T} {E = E} before after (Err e) bytes → WroteFront before after bytes
front-put None after bytes T E e puts = record { front = []; back = bytes; whole = refl; wrote = puts }
front-put (Some taken) after bytes T E e puts =
    record {
      front = take puts.0 bytes;
      back = drop puts.0 bytes;
      whole = take-append-drop puts.0 bytes;
      wrote = puts.1;
    }

-- all of a text was written
pub front-whole : (before after : Option (List ℕ)) (text : List ℕ) → Wrote before after text
    → WroteFront before after text
front-whole before after text wrote =
    record { front = text; back = []; whole = append-nil text; wrote = wrote }

-- whatever an error says of a result holds where it holds at all
pub part-err : {T E : Type 0} (result : Result T E) (P : Type 0) → P → OnErr result P
part-err (Ok x) P p = tt
part-err (Err e) P p = p
