-- No line feed stands in a line that is made, so the text that is made can be cut into its lines again.
use Rattle.std.proofs.Common.{◌≡◌, ℕ, zero, suc, ◌*◌, ◌/◌, ◌%◌, ◌^◌, ◌<◌, ◌≤◌, ◌==◌, not, nat_le, map, Bool, true, false, List, [], ◌∷◌, ◌++◌, length, codes, slice_index_or, None, refl, ap, ◌∙◌, append_assoc, arith, lit<}
use Rattle.std.specs.Char.{is_ascii_digit}
use Rattle.std.specs.List.{All, AllByRecursion, list_all, slice_split}
use Rattle.std.proofs.lemmas.Bool.{and_parts, and_from, leb-true, ne_eqb, not-true}
use Rattle.std.proofs.lemmas.List.Elements.{All-cons, All-nil}
use Rattle.std.proofs.lemmas.List.Folds.{list_all-append}
use Rattle.std.proofs.lemmas.List.Splits.{slice_split_at}
use Rattle.line_forms.specs.Forms.{words_of_parts, text_of}
use Rattle.line_forms.specs.Tokens.{number_text}
use Rattle.line_forms.specs.Words.{line_of_words}
use Rattle.line_forms.proofs.NumberLaws.{digits-number_text}
use Rattle.schedule_text.specs.declared.line.Line.{Line}
use Rattle.schedule_text.specs.Grammar.{lines, line_parts, line_text}
use Rattle.world_maker.specs.declared.round.Round.{Round}
use Rattle.world_maker.specs.Generator.{bundle, watch, wallets, first_lines, wallet_of, coin_of, exit_of, item_of, kind_of, lines_by_kind, round_lines, round_at, made_lines, text_of_lines}
use Rattle.world_maker.proofs.MadeLines.{◌▹◌, made-few}

-- no line feed stands in a word
abbrev has_no_feed : List ℕ → Bool
has_no_feed word = list_all (λ byte. not (byte == 10)) word

abbrev HasNoFeed : List ℕ → Type 0
HasNoFeed word = has_no_feed word ≡ true

-- ---- words

no-feed-digit : (byte : ℕ) → is_ascii_digit byte ≡ true → not (byte == 10) ≡ true
no-feed-digit byte h =
    let above : 48 ≤ byte = leb-true _ _ (and_parts (nat_le 48 byte) (nat_le byte 57) h).0 in
    rw (ne_eqb byte 10 (λ e. absurd (omega arith))) refl

no-feed-digits : (word : List ℕ) → list_all is_ascii_digit word ≡ true → HasNoFeed word
no-feed-digits [] h = refl
no-feed-digits (byte ∷ word) h =
    let p = and_parts (is_ascii_digit byte) (list_all is_ascii_digit word) h in
    and_from (not (byte == 10)) (has_no_feed word) (no-feed-digit byte p.0) (no-feed-digits word p.1)

number : (n : ℕ) → n < 2 ^ 64 → HasNoFeed (number_text n)
number n small = no-feed-digits (number_text n) (digits-number_text n small)

-- `#` and a number; 35 is `#`
item : (n : ℕ) → n < 2 ^ 64 → HasNoFeed (35 ∷ number_text n)
item n small = number n small

wallet : (number : ℕ) → HasNoFeed (slice_index_or wallets (number % 3) [])
wallet number = by (number % 3) (omega arith)
  where
    by : (i : ℕ) → i < 3 → HasNoFeed (slice_index_or wallets i [])
    by zero lt = refl
    by (suc zero) lt = refl
    by (suc (suc zero)) lt = refl
    by (suc (suc (suc i))) lt = absurd (omega arith)

-- ---- lines

-- nor in any word of a line
abbrev HasPlainWords : Line → Type 0
HasPlainWords line = AllByRecursion HasNoFeed (words_of_parts lines (line_parts line))

no-feed-joined : (words : List (List ℕ)) → AllByRecursion HasNoFeed words → HasNoFeed (line_of_words words)
no-feed-joined [] all = refl
no-feed-joined (word ∷ []) all = all.0
no-feed-joined (word ∷ next ∷ words) all =
    list_all-append (λ byte. not (byte == 10)) word (32 ∷ line_of_words (next ∷ words))
    ∙ and_from (has_no_feed word) (has_no_feed (line_of_words (next ∷ words))) all.0
    (no-feed-joined (next ∷ words) all.1)

no-feed-line : (line : Line) → HasPlainWords line → HasNoFeed (line_text line)
unfolding line_text text_of
no-feed-line line plain = no-feed-joined (words_of_parts lines (line_parts line)) plain

-- ---- rounds

module _ (round : Round) (before : round.lines_before < 2 ^ 32) (number_small : round.number < 2 ^ 32) where
  coin : HasNoFeed (number_text (coin_of round))
  coin = number (coin_of round) (omega arith)

  exit : HasNoFeed (number_text (exit_of round))
  exit = number (exit_of round) (omega arith)

  mail : HasNoFeed (35 ∷ number_text (item_of round))
  mail = item (item_of round) (omega arith)

  enters : (name : List ℕ) → HasNoFeed name → HasPlainWords (Line.Enter name 1)
  enters name plain = refl ▹ plain ▹ number 1 (lit< tt) ▹ tt

  bundles : HasPlainWords (bundle (coin_of round) 0)
  bundles = refl ▹ coin ▹ number 0 (lit< tt) ▹ tt

  watches : (name : List ℕ) → HasNoFeed name → HasPlainWords (watch name)
  watches name plain = refl ▹ plain ▹ tt

  each : (kind : ℕ) → kind < 8 → AllByRecursion HasPlainWords (slice_index_or (lines_by_kind round) kind [])
  each zero lt = (refl ▹ wallet round.word ▹ number 10 (lit< tt) ▹ tt) ▹ tt
  each (suc zero) lt =
      (refl ▹ wallet round.word ▹ coin ▹ wallet (round.word / 3) ▹ tt)
      ▹ (refl ▹ mail ▹ tt) ▹ (refl ▹ tt) ▹ enters (codes "op") refl ▹ tt
  each (suc (suc zero)) lt = bundles ▹ (refl ▹ wallet round.word ▹ mail ▹ tt) ▹ tt
  each (suc (suc (suc zero))) lt = bundles ▹ (refl ▹ refl ▹ mail ▹ tt) ▹ tt
  each (suc (suc (suc (suc zero)))) lt =
      (refl ▹ wallet round.word ▹ coin ▹ tt) ▹ enters (wallet_of round) (wallet round.word) ▹ tt
  each (suc (suc (suc (suc (suc zero))))) lt =
      watches (codes "a") refl ▹ enters (codes "a") refl
      ▹ watches (codes "b") refl ▹ enters (codes "b") refl
      ▹ watches (codes "c") refl ▹ enters (codes "c") refl
      ▹ watches (codes "a") refl ▹ watches (codes "b") refl ▹ watches (codes "c") refl
      ▹ (refl ▹ number (1000 * round.number) (omega arith) ▹ tt)
      ▹ tt
  each (suc (suc (suc (suc (suc (suc zero)))))) lt =
      (refl ▹ wallet round.word ▹ refl ▹ tt) ▹ (refl ▹ wallet round.word ▹ tt) ▹ tt
  each (suc (suc (suc (suc (suc (suc (suc zero))))))) lt =
      (refl ▹ number 10 (lit< tt) ▹ refl ▹ coin ▹ exit ▹ tt) ▹ tt
  each (suc (suc (suc (suc (suc (suc (suc (suc kind)))))))) lt = absurd (omega arith)

  round-plain : AllByRecursion HasPlainWords (round_lines round)
  unfolding round_lines
  round-plain = each (kind_of round) (omega arith)

-- ---- the schedule

wallet-line : (name : List ℕ) (account seed : ℕ) → HasNoFeed name → account < 2 ^ 64 → seed < 2 ^ 64
    → HasPlainWords (Line.Wallet name account seed None)
wallet-line name account seed plain small other =
    refl ▹ plain ▹ number account small ▹ number seed other ▹ tt

fund-line : (account : ℕ) → account < 2 ^ 64 → HasPlainWords (Line.Fund account 1000000)
fund-line account small = refl ▹ number account small ▹ number 1000000 (lit< tt) ▹ tt

first-plain : AllByRecursion HasPlainWords first_lines
first-plain =
    (refl ▹ number 1 (lit< tt) ▹ number 9 (lit< tt) ▹ number 3000 (lit< tt) ▹ tt)
    ▹ wallet-line (codes "a") 11 1 refl (lit< tt) (lit< tt)
    ▹ wallet-line (codes "b") 12 2 refl (lit< tt) (lit< tt)
    ▹ wallet-line (codes "c") 13 3 refl (lit< tt) (lit< tt)
    ▹ (refl ▹ refl ▹ number 14 (lit< tt) ▹ tt)
    ▹ fund-line 11 (lit< tt)
    ▹ fund-line 12 (lit< tt)
    ▹ fund-line 13 (lit< tt)
    ▹ fund-line 14 (lit< tt)
    ▹ tt

both : (first second : List Line) → AllByRecursion HasPlainWords first → AllByRecursion HasPlainWords second
    → AllByRecursion HasPlainWords (first ++ second)
both [] second all others = others
both (line ∷ first) second all others = all.0 ▹ both first second all.1 others

made-plain : (seed count : ℕ) → count ≤ 10000 → AllByRecursion HasPlainWords (made_lines seed count)
unfolding made_lines
made-plain seed zero le = first-plain
made-plain seed (suc count) le =
    let round : Round = round_at seed (suc count) (length (made_lines seed count)) in
    both (made_lines seed count) (round_lines round) (made-plain seed count (omega arith))
    (round-plain round (omega (arith, made-few seed count)) (omega arith))

-- ---- the text

no-feed-each : (word : List ℕ) → HasNoFeed word → All (λ byte. (byte == 10) ≡ false) word
no-feed-each [] h = All-nil (λ byte. (byte == 10) ≡ false)
no-feed-each (byte ∷ word) h =
    let p = and_parts (not (byte == 10)) (has_no_feed word) h in
    All-cons (λ byte. (byte == 10) ≡ false) byte word (not-true _ p.0) (no-feed-each word p.1)

-- the text of lines is cut into their texts
cut : (some : List Line) → AllByRecursion HasPlainWords some
    → slice_split (λ byte. byte == 10) (text_of_lines some) ≡ map line_text some ++ [] ∷ []
cut [] all = refl
cut (line ∷ rest) all =
    ap (λ (text : List ℕ). slice_split (λ byte. byte == 10) text)
    (append_assoc (line_text line) (10 ∷ []) (text_of_lines rest))
    ∙ slice_split_at (λ byte. byte == 10) (line_text line) 10 (text_of_lines rest)
    (no-feed-each (line_text line) (no-feed-line line all.0)) refl
    ∙ ap (λ (texts : List (List ℕ)). line_text line ∷ texts) (cut rest all.1)

pub made-cut : (seed count : ℕ) → count ≤ 10000
    → slice_split (λ byte. byte == 10) (text_of_lines (made_lines seed count))
    ≡ map line_text (made_lines seed count) ++ [] ∷ []
made-cut seed count le = cut (made_lines seed count) (made-plain seed count le)
