-- The lines that are made are in the grammar, and there are few of them.
use Rattle.std.proofs.Common.{◌≡◌, ℕ, zero, suc, ◌+◌, ◌*◌, ◌/◌, ◌%◌, ◌^◌, ◌<◌, ◌≤◌, List, [], ◌∷◌, ◌++◌, length, take, get_or, slice_index_or, refl, sym, ap, ◌∙◌, append_assoc, add-one, arith, length-append, lit<, codes, None}
use Rattle.std.specs.Int.{w64, from_be_bytes, to_be_bytes}
use Rattle.sha2.specs.Sha256.{sha256}
use Rattle.sha2.proofs.Facts256.{length-sha256}
use Rattle.std.specs.List.{All, AllByRecursion}
use Rattle.std.proofs.lemmas.Grind.{flat_map-append}
use Rattle.std.proofs.lemmas.List.Elements.{All-append, All-from_recursion}
use Rattle.line_forms.specs.Tokens.{IsName, IsDeclaredName}
use Rattle.schedule_text.specs.declared.line.Line.{Line}
use Rattle.schedule_text.specs.Grammar.{IsLine, line_text}
use Rattle.world_maker.specs.declared.round.Round.{Round}
use Rattle.world_maker.specs.Generator.{bundle, watch, wallets, first_lines, wallet_of, coin_of, exit_of, kind_of, lines_by_kind, word_of, round_lines, round_at, made_lines, text_of_lines}

-- what holds of a line, and then of those after it
infixr 20 ◌▹◌
abbrev pub ◌▹◌ : {A B : Type 0} → A → B → A × B
one ▹ others = (one, others)

-- ---- a round

-- a wallet of a round has a name
named : (number : ℕ) → IsName (slice_index_or wallets (number % 3) [])
named number = by (number % 3) (omega arith)
  where
    by : (i : ℕ) → i < 3 → IsName (slice_index_or wallets i [])
    by zero lt = refl
    by (suc zero) lt = refl
    by (suc (suc zero)) lt = refl
    by (suc (suc (suc i))) lt = absurd (omega arith)

module _ (round : Round) (before : round.lines_before < 2 ^ 32) (number : round.number < 2 ^ 32) where
  coin : coin_of round < 2 ^ 64
  coin = omega arith

  exit : exit_of round < 2 ^ 64
  exit = omega arith

  item : round.lines_before + 1 < 2 ^ 64
  item = omega arith

  time : 1000 * round.number < 2 ^ 64
  time = omega arith

  wallet : IsName (wallet_of round)
  wallet = named round.word

  enters : (name : List ℕ) → IsName name → IsLine (Line.Enter name 1)
  enters name is = (is, (lit< tt, tt))

  bundles : IsLine (bundle (coin_of round) 0)
  bundles = (coin, (lit< tt, tt))

  watches : (name : List ℕ) → IsName name → IsLine (watch name)
  watches name is = (is, tt)

  each : (kind : ℕ) → kind < 8 → AllByRecursion IsLine (slice_index_or (lines_by_kind round) kind [])
  each zero lt = (wallet, (lit< tt, tt)) ▹ tt
  each (suc zero) lt =
      (wallet, (coin, (named (round.word / 3), (tt, tt)))) ▹ (item, tt) ▹ tt ▹ enters (codes "op") refl ▹ tt
  each (suc (suc zero)) lt = bundles ▹ (wallet, (item, tt)) ▹ tt
  each (suc (suc (suc zero))) lt = bundles ▹ (refl, (item, tt)) ▹ tt
  each (suc (suc (suc (suc zero)))) lt = (wallet, (coin, tt)) ▹ enters (wallet_of round) wallet ▹ tt
  each (suc (suc (suc (suc (suc zero))))) lt =
      watches (codes "a") refl ▹ enters (codes "a") refl
      ▹ watches (codes "b") refl ▹ enters (codes "b") refl
      ▹ watches (codes "c") refl ▹ enters (codes "c") refl
      ▹ watches (codes "a") refl ▹ watches (codes "b") refl ▹ watches (codes "c") refl ▹ (time, tt) ▹ tt
  each (suc (suc (suc (suc (suc (suc zero)))))) lt = (wallet, (tt, tt)) ▹ (wallet, tt) ▹ tt
  each (suc (suc (suc (suc (suc (suc (suc zero))))))) lt = (lit< tt, ((coin, (exit, tt)), tt)) ▹ tt
  each (suc (suc (suc (suc (suc (suc (suc (suc kind)))))))) lt = absurd (omega arith)

  -- the lines of a round are in the grammar
  pub round-lines : All IsLine (round_lines round)
  unfolding round_lines
  round-lines =
      All-from_recursion IsLine (slice_index_or (lines_by_kind round) (kind_of round) [])
      (each (kind_of round) (omega arith))

-- they are at most ten
pub few : (round : Round) → length (round_lines round) ≤ 10
unfolding round_lines
few round = by (kind_of round) (omega arith)
  where
    by : (kind : ℕ) → kind < 8 → length (slice_index_or (lines_by_kind round) kind []) ≤ 10
    by zero lt = omega arith
    by (suc zero) lt = omega arith
    by (suc (suc zero)) lt = omega arith
    by (suc (suc (suc zero))) lt = omega arith
    by (suc (suc (suc (suc zero)))) lt = omega arith
    by (suc (suc (suc (suc (suc zero))))) lt = omega arith
    by (suc (suc (suc (suc (suc (suc zero)))))) lt = omega arith
    by (suc (suc (suc (suc (suc (suc (suc zero))))))) lt = omega arith
    by (suc (suc (suc (suc (suc (suc (suc (suc kind)))))))) lt = absurd (omega arith)

-- ---- the schedule

-- a round with this word, after so many lines
pub round-is : (seed number word before : ℕ) (lines : List Line) → word ≡ word_of seed number
    → before ≡ length lines
    → round_lines (record { number = number; word = word; lines_before = before })
    ≡ round_lines (round_at seed number (length lines))
round-is seed number word before lines word_is before_is =
    ap (λ (w : ℕ). round_lines (record { number = number; word = w; lines_before = before })) word_is
    ∙ ap (λ (b : ℕ). round_lines (round_at seed number b)) before_is

-- one round more
pub made-more : (seed count : ℕ) → made_lines seed (count + 1)
    ≡ made_lines seed count ++ round_lines (round_at seed (count + 1) (length (made_lines seed count)))
unfolding made_lines
made-more seed count = rw add-one refl

-- so many rounds have at most ten lines each
pub made-few : (seed count : ℕ) → length (made_lines seed count) ≤ 9 + 10 * count
unfolding made_lines
made-few seed zero = omega arith
made-few seed (suc count) =
    let round : Round = round_at seed (suc count) (length (made_lines seed count)) in
    omega (arith, length-append (made_lines seed count) (round_lines round), few round, made-few seed count)

wallet-line : (name : List ℕ) (account seed : ℕ) → IsDeclaredName name → account < 2 ^ 64 → seed < 2 ^ 64
    → IsLine (Line.Wallet name account seed None)
wallet-line name account seed is small other = (is, (small, (other, (tt, tt))))

fund-line : (account : ℕ) → account < 2 ^ 64 → IsLine (Line.Fund account 1000000)
fund-line account small = (small, (lit< tt, tt))

first-lines : All IsLine first_lines
first-lines =
    All-from_recursion IsLine first_lines
    ((lit< tt, (lit< tt, ((lit< tt, (omega arith, omega arith)), tt)))
    ▹ wallet-line (codes "a") 11 1 (refl, refl) (lit< tt) (lit< tt)
    ▹ wallet-line (codes "b") 12 2 (refl, refl) (lit< tt) (lit< tt)
    ▹ wallet-line (codes "c") 13 3 (refl, refl) (lit< tt) (lit< tt)
    ▹ ((refl, refl), (lit< tt, tt))
    ▹ fund-line 11 (lit< tt)
    ▹ fund-line 12 (lit< tt)
    ▹ fund-line 13 (lit< tt)
    ▹ fund-line 14 (lit< tt)
    ▹ tt)

-- all lines are in the grammar
pub made-lines : (seed count : ℕ) → count ≤ 10000 → All IsLine (made_lines seed count)
unfolding made_lines
made-lines seed zero le = first-lines
made-lines seed (suc count) le =
    let round : Round = round_at seed (suc count) (length (made_lines seed count)) in
    All-append IsLine (made_lines seed count) (round_lines round) (made-lines seed count (omega arith))
    (round-lines round (omega (arith, made-few seed count)) (omega arith))

-- ---- the text

-- the text of lines and then others
pub text-more : (old now new : List ℕ) (lines more : List Line) → now ≡ old ++ text_of_lines lines
    → new ≡ now ++ text_of_lines more → new ≡ old ++ text_of_lines (lines ++ more)
text-more old now new lines more h k =
    k ∙ ap (λ (front : List ℕ). front ++ text_of_lines more) h
    ∙ append_assoc old (text_of_lines lines) (text_of_lines more)
    ∙ ap (λ (rest : List ℕ). old ++ rest) (sym (flat_map-append (λ line. line_text line ++ 10 ∷ []) lines more))

-- ---- the word

-- the first eight bytes of a digest
pub first-eight : (bytes : List ℕ) → 8 ≤ length bytes
    → get_or bytes 0 0 ∷ get_or bytes 1 0 ∷ get_or bytes 2 0 ∷ get_or bytes 3 0
    ∷ get_or bytes 4 0 ∷ get_or bytes 5 0 ∷ get_or bytes 6 0 ∷ get_or bytes 7 0 ∷ [] ≡ take 8 bytes
first-eight (a ∷ b ∷ c ∷ d ∷ e ∷ f ∷ g ∷ h ∷ rest) long = refl
first-eight (a ∷ b ∷ c ∷ d ∷ e ∷ f ∷ g ∷ []) long = absurd (omega arith)
first-eight (a ∷ b ∷ c ∷ d ∷ e ∷ f ∷ []) long = absurd (omega arith)
first-eight (a ∷ b ∷ c ∷ d ∷ e ∷ []) long = absurd (omega arith)
first-eight (a ∷ b ∷ c ∷ d ∷ []) long = absurd (omega arith)
first-eight (a ∷ b ∷ c ∷ []) long = absurd (omega arith)
first-eight (a ∷ b ∷ []) long = absurd (omega arith)
first-eight (a ∷ []) long = absurd (omega arith)
first-eight [] long = absurd (omega arith)

-- they spell the word
pub word-is : (seed number : ℕ) (first second digest : List ℕ) → first ≡ to_be_bytes w64 seed
    → second ≡ to_be_bytes w64 number → digest ≡ sha256 (first ++ second)
    → from_be_bytes w64
    (get_or digest 0 0 ∷ get_or digest 1 0 ∷ get_or digest 2 0 ∷ get_or digest 3 0
    ∷ get_or digest 4 0 ∷ get_or digest 5 0 ∷ get_or digest 6 0 ∷ get_or digest 7 0 ∷ [])
    ≡ word_of seed number
unfolding word_of
word-is seed number first second digest first_is second_is is =
    ap (from_be_bytes w64) (first-eight digest (omega (arith, ap length is, length-sha256 (first ++ second))))
    ∙ ap (λ (bytes : List ℕ). from_be_bytes w64 (take 8 bytes)) is
    ∙ ap (λ (part : List ℕ). from_be_bytes w64 (take 8 (sha256 (part ++ second)))) first_is
    ∙ ap (λ (part : List ℕ). from_be_bytes w64 (take 8 (sha256 (to_be_bytes w64 seed ++ part)))) second_is
