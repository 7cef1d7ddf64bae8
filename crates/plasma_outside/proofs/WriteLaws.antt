-- What is known of a writer's content, from write to write.
use Rattle.std.proofs.Common.{◌≡◌, ℕ, ◌-◌, ◌==◌, true, List, [], ◌∷◌, ◌++◌, length, take, drop, Option, Some, None, Result, Ok, Err, refl, sym, ap, ◌∙◌, append_assoc, subst, arith}
use Rattle.std.proofs.lemmas.List.{take-append-drop, append-nil, take_all, length-drop}
use Rattle.std.proofs.lemmas.Bool.{true≢false, ne_eqb}
use Rattle.std.proofs.Math.Seq.{take-append_seam}
use Rattle.std.specs.Io.KnownBytes.{Appends, Keeps}
use Rattle.plasma_outside.specs.Standard.{Writes}

-- some bytes were written, and these are left of all
pub record Written (before after : Option (List ℕ)) (rest all : List ℕ) : Type 0 where
  pub bytes : List ℕ
  pub split : bytes ++ rest ≡ all
  pub appends : Appends before after bytes

appends-none : (known : Option (List ℕ)) → Appends known known []
appends-none None = tt
appends-none (Some bytes) = sym (append-nil bytes)

appends-more : (a b c : Option (List ℕ)) (s t : List ℕ) → Appends a b s → Appends b c t → Appends a c (s ++ t)
appends-more None b c s t first second = tt
appends-more (Some a) None c s t first second = absurd first
appends-more (Some a) (Some b) None s t first second = absurd second
appends-more (Some a) (Some b) (Some c) s t first second = second ∙ ap (λ x. x ++ t) first ∙ append_assoc a s t

appends-kept : (a b c : Option (List ℕ)) (s : List ℕ) → Appends a b s → Keeps b c → Appends a c s
appends-kept None b c s first kept = tt
appends-kept (Some a) None c s first kept = absurd first
appends-kept (Some a) (Some b) None s first kept = absurd kept
appends-kept (Some a) (Some b) (Some c) s first kept = kept ∙ first

pub written-none : (known : Option (List ℕ)) (all : List ℕ) → Written known known all all
written-none known all = record { bytes = []; split = refl; appends = appends-none known }

pub written-more :
    (a b c : Option (List ℕ)) (rest all : List ℕ) (n : ℕ)
    → Written a b rest all → Appends b c (take n rest) → Written a c (drop n rest) all
written-more a b c rest all n written appends =
    record {
      bytes = written.bytes ++ take n rest;
      split =
          append_assoc written.bytes (take n rest) (drop n rest)
          ∙ ap (λ x. written.bytes ++ x) (take-append-drop n rest)
          ∙ written.split;
      appends = appends-more a b c written.bytes (take n rest) written.appends appends;
    }

-- as code cuts a beginning off
pub written-cut :
    (a b c : Option (List ℕ)) (rest all : List ℕ) (n : ℕ)
    → Written a b rest all → Appends b c (take n rest) → Written a c (take (length rest - n) (drop n rest)) all
written-cut a b c rest all n written appends =
    let whole : take (length rest - n) (drop n rest) ≡ drop n rest =
    take_all (length rest - n) (drop n rest) (omega (arith, length-drop n rest))
    in subst (λ left. Written a c left all) (sym whole) (written-more a b c rest all n written appends)

pub written-kept :
    (a b c : Option (List ℕ)) (rest all : List ℕ) → Written a b rest all → Keeps b c → Written a c rest all
written-kept a b c rest all written kept = record {
  bytes = written.bytes;
  split = written.split;
  appends = appends-kept a b c written.bytes written.appends kept;
}

-- what was written is a beginning of all
pub written-front :
    (a b : Option (List ℕ)) (rest all : List ℕ) → Written a b rest all → (n : ℕ) × Appends a b (take n all)
written-front a b rest all written =
    let front : take (length written.bytes) all ≡ written.bytes =
    ap (take (length written.bytes)) (sym written.split) ∙ take-append_seam written.bytes rest
    in (length written.bytes, subst (Appends a b) (sym front) written.appends)

-- all was written, and then flushed
pub writes-flushed :
    {T E : Type 0} (a b c : Option (List ℕ)) (rest all : List ℕ) (result : Result T E)
    → Written a b rest all → true ≡ (length rest == 0) → Keeps b c → Writes a c result all
writes-flushed a b c [] all (Ok done) written none kept =
    subst (Appends a c) (sym (append-nil written.bytes) ∙ written.split)
    (appends-kept a b c written.bytes written.appends kept)
writes-flushed a b c (byte ∷ rest) all (Ok done) written none kept =
    absurd (true≢false (none ∙ ne_eqb (length (byte ∷ rest)) 0 (omega arith)))
writes-flushed a b c rest all (Err e) written none kept =
    written-front a c rest all (written-kept a b c rest all written kept)
