-- What a sink took of a text that was put in two parts.
use Rattle.run_endings.proofs.Words.{◌++◌, ℕ, List, [], Option, Result, Ok, Err, OnOk, refl, sym, ap, ◌∙◌, append_assoc, OnErr, Wrote, WroteFront}
use Rattle.plasma_outside.specs.Outside.{Puts}
use Rattle.streamed_lines.proofs.OutsideLaws.{wrote-none, wrote-more, wrote-put, front-put}

-- nothing was written of a text
pub front-none : (before : Option (List ℕ)) (text : List ℕ) → WroteFront before before text
front-none before text = record { front = []; back = text; whole = refl; wrote = wrote-none before }

-- a beginning was written of a text, and so of one that goes on
pub front-longer : (before after : Option (List ℕ)) (text last : List ℕ) → WroteFront before after text
    → WroteFront before after (text ++ last)
front-longer before after text last first = record {
  front = first.front;
  back = first.back ++ last;
  whole = sym (append_assoc first.front first.back last) ∙ ap (λ (t : List ℕ). t ++ last) first.whole;
  wrote = first.wrote;
}

-- a text was written, and a beginning of the next one
pub front-more : (a b c : Option (List ℕ)) (put text : List ℕ) → Wrote a b put → WroteFront b c text
    → WroteFront a c (put ++ text)
front-more a b c put text first second = record {
  front = put ++ second.front;
  back = second.back;
  whole = append_assoc put second.front second.back ∙ ap (λ rest. put ++ rest) second.whole;
  wrote = wrote-more a b c put second.front first second.wrote;
}

-- a text was written, and a line was put behind it
module _ (a b c : Option (List ℕ)) (text line : List ℕ) (first : Wrote a b text) {T E : Type 0} where
  pub behind-whole : (result : Result T E) → Puts b c result line → OnOk result (Wrote a c (text ++ line))
  behind-whole (Ok done) puts = wrote-more a b c text line first (wrote-put b c line T E done puts)
  behind-whole (Err why) puts = tt

  pub behind-part : (result : Result T E) → Puts b c result line → OnErr result (WroteFront a c (text ++ line))
  behind-part (Ok done) puts = tt
  behind-part (Err why) puts = front-more a b c text line first (front-put b c line T E why puts)
