-- The lines of an input are its bytes, cut behind each line feed, and there is no other way to cut them so.
use Rattle.std.proofs.Common.{◌≡◌, ℕ, ◌==◌, ◌⊎◌, true, false, if◌then◌else◌, List, [], ◌∷◌, ◌++◌, inl, inr, refl, sym, ap, ◌∙◌}
use Rattle.std.specs.Prelude.{◌≢◌}
use Rattle.std.specs.List.{concat}
use Rattle.std.proofs.lemmas.Bool.{eqb-true, true≢false}
use Rattle.std.proofs.lemmas.List.{append-nil}
use Rattle.streamed_lines.specs.Lines.{lines_in, before_lines, EndsWithItsFeed}
use Rattle.replay_run.specs.Laws.{IsUnfinished, AreLines, LinesAreTheBytes, LinesAreOneCut}
use Rattle.replay_run.proofs.LineLaws.{no-feed, plain-nil, some-bytes, lines_in-feed, lines_in-unfinished}

concat-before : (b : ℕ) (lines : List (List ℕ)) → concat (before_lines b lines) ≡ b ∷ concat lines
concat-before b [] = refl
concat-before b (line ∷ lines) = refl

concat-lines_in : (bytes : List ℕ) → concat (lines_in bytes) ≡ bytes
unfolding lines_in
concat-lines_in [] = refl
concat-lines_in (b ∷ bs) =
    elim (b == 10) as (λ t. concat (if t then (b ∷ []) ∷ lines_in bs else before_lines b (lines_in bs)) ≡ b ∷ bs) [
      | true ↦ ap (λ xs. b ∷ xs) (concat-lines_in bs)
      | false ↦ concat-before b (lines_in bs) ∙ ap (λ xs. b ∷ xs) (concat-lines_in bs)
    ]

are_lines-before : (b : ℕ) (lines : List (List ℕ)) → b ≢ 10 → AreLines lines → AreLines (before_lines b lines)
unfolding AreLines
are_lines-before b [] other are = (inr (refl, some-bytes b [], no-feed b [] other plain-nil), tt)
are_lines-before b (line ∷ lines) other are = (
  elim are.0 as (λ _. EndsWithItsFeed (b ∷ line) ⊎ IsUnfinished (b ∷ line) lines) [
    | inl ended ↦ inl (b ∷ ended.0, ap (λ xs. b ∷ xs) ended.1, no-feed b ended.0 other ended.2)
    | inr last ↦ inr (last.0, some-bytes b line, no-feed b line other last.2)
  ],
  are.1,
)

are_lines-in : (bytes : List ℕ) → AreLines (lines_in bytes)
unfolding lines_in AreLines
are_lines-in [] = tt
are_lines-in (b ∷ bs) =
    (elim (b == 10) as (λ t. (b == 10) ≡ t → AreLines
    (if t then (b ∷ []) ∷ lines_in bs else before_lines b (lines_in bs))) [
      | true ↦ λ is. (inl ([], ap (λ x. x ∷ []) (eqb-true b 10 is), plain-nil), are_lines-in bs)
      | false ↦ λ isnt.
          are_lines-before b (lines_in bs) (λ is. true≢false (sym (ap (λ x. x == 10) is) ∙ isnt)) (are_lines-in bs)
    ]) refl

pub lines-are_the_bytes : LinesAreTheBytes
lines-are_the_bytes bytes = (concat-lines_in bytes, are_lines-in bytes)

pub lines-are_one_cut : LinesAreOneCut
unfolding AreLines lines_in
lines-are_one_cut [] are = refl
lines-are_one_cut (line ∷ lines) are =
    elim are.0 [
      | inl ended ↦
          lines_in-feed line (concat lines) ended ∙ ap (λ ls. line ∷ ls) (lines-are_one_cut lines are.1)
      | inr last ↦
          let whole : line ++ concat lines ≡ line = ap (λ ls. line ++ concat ls) last.0 ∙ append-nil line in
          ap lines_in whole ∙ lines_in-unfinished line last.1 last.2 ∙ ap (λ ls. line ∷ ls) (sym last.0)
    ]
