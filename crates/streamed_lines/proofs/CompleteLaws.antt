-- What was read of an input whose lines are all answered.
use Rattle.std.proofs.Common.{◌≡◌, ◌⊎◌, ℕ, Bool, true, false, List, [], ◌++◌, Option, Some, None, inl, inr, refl, sym, ap, ◌∙◌}
use Rattle.std.proofs.lemmas.List.{append-nil}
use Rattle.streamed_lines.specs.declared.ending.Ending.TheVariants.{Complete, ReadFault}
use Rattle.streamed_lines.specs.Streams.{Rules, stream_of}
use Rattle.streamed_lines.specs.Outside.{Gave}
use Rattle.streamed_lines.proofs.BeginningLaws.{beginnings_wait}

-- what a source gave that tells its input is a beginning of it, and all of it where it was read to its end
pub read-of : (good : List ℕ) (left later : Option (List ℕ)) (bytes : List ℕ) (ended : Bool) → left ≡ Some good
    → Gave left later bytes ended → (rest : List ℕ) × (good ≡ bytes ++ rest) × (ended ≡ true → rest ≡ [])
read-of good left None bytes ended is gave = absurd (wrong (sym is ∙ gave.given))
  where
    wrong : Some good ≡ None → ⊥
    wrong e = cc
read-of good left (Some rest) bytes ended is gave = (rest, same (sym is ∙ gave.given), gave.end)
  where
    same : Some good ≡ Some (bytes ++ rest) → good ≡ bytes ++ rest
    same e = cc

-- the stream of it is complete, or waits for the rest
pub reads-well : {R C : Type 0} (rules : Rules R C) (first : R) (good : List ℕ) (left later : Option (List ℕ))
    (bytes : List ℕ) (ended : Bool) → left ≡ Some good → Gave left later bytes ended
    → (stream_of rules first good true).ending ≡ Complete
    → ((stream_of rules first bytes ended).ending ≡ Complete)
    ⊎ ((stream_of rules first bytes ended).ending ≡ ReadFault)
reads-well rules first good left later bytes ended is gave complete =
    let of = read-of good left later bytes ended is gave in by ended of.0 of.1 of.2
  where
    by : (ended : Bool) (rest : List ℕ) → good ≡ bytes ++ rest → (ended ≡ true → rest ≡ [])
        → ((stream_of rules first bytes ended).ending ≡ Complete)
        ⊎ ((stream_of rules first bytes ended).ending ≡ ReadFault)
    by true rest whole end =
        inl (ap (λ b. (stream_of rules first b true).ending)
        (sym (whole ∙ ap (λ r. bytes ++ r) (end refl) ∙ append-nil bytes)) ∙ complete)
    by false rest whole end =
        inr (beginnings_wait rules first bytes rest
        (ap (λ b. (stream_of rules first b true).ending) (sym whole) ∙ complete))
