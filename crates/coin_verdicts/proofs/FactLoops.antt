-- Steps of loops over facts and over coins.
use Rattle.std.proofs.Common.{◌≡◌, ℕ, ◌+◌, ◌<◌, ◌≤◌, true, List, [], ◌∷◌, ◌++◌, length, take, drop, get_or, reverse, zero, suc, Option, Some, None, refl, ap, sym, ◌∙◌, arith}
use Rattle.std.specs.List.{filter_map, range_with_len}
use Rattle.std.specs.Option.{option_to_list}
use Rattle.std.proofs.lemmas.List.{length-reverse, length-take-le, reverse-append, take-append-drop}
use Rattle.std.proofs.lemmas.List.Elements.{filter_map-append}
use Rattle.std.proofs.lemmas.Grind.{common_steps}
use Rattle.world_rules.specs.Verdicts.{Named}
use Rattle.coin_verdicts.specs.declared.fact.Fact.{Fact}
use Rattle.coin_verdicts.specs.declared.note.Holder.{Holder}
use Rattle.coin_verdicts.specs.Notes.{declared, earlier, holder_in}
use Rattle.coin_verdicts.specs.Books.{CoinBook, book_at}
use Rattle.coin_verdicts.specs.Readings.{is_coin, HasBooks}
use Rattle.coin_verdicts.specs.Wallets.{made_by, coins_in, verdict_in, verdict_of_book, verdicts_of_books, verdicts_by, verdicts_for}
use Rattle.coin_verdicts.proofs.Loops.{reversed-more}

-- so many facts are behind the next one
pub so-many : {X : Type 0} (xs : List X) (i : ℕ) → i < length xs → length (reverse (take i xs)) ≡ i
so-many xs i within = length-reverse (take i xs) ∙ length-take-le i xs (omega arith)

pub holder-more : (facts : List Fact) (w i : ℕ) (fact : Fact) (found : Option Holder) → i < length facts
    → None ≡ holder_in (reverse (take i facts)) w → found ≡ declared w (i + 1) (get_or facts i fact)
    → found ≡ holder_in (reverse (take (i + 1) facts)) w
unfolding holder_in
holder-more facts w i fact found within none is = grind (arith, common_steps, so-many, reversed-more) steps 20000

holder-stays : (newer older : List Fact) (w : ℕ) (holder : Holder) → Some holder ≡ holder_in older w
    → Some holder ≡ holder_in (newer ++ older) w
unfolding holder_in
holder-stays [] older w holder is = is
holder-stays (fact ∷ newer) older w holder is =
    ap (λ o. earlier o (declared w (length (newer ++ older) + 1) fact)) (holder-stays newer older w holder is)

-- who is declared in one of the first lines is so in all of them
pub holder-found : (facts : List Fact) (w n : ℕ) (holder : Holder) → Some holder ≡ holder_in (reverse (take n facts)) w
    → Some holder ≡ holder_in (reverse facts) w
holder-found facts w n holder is =
    holder-stays (reverse (drop n facts)) (reverse (take n facts)) w holder is
    ∙ ap (λ (fs : List Fact). holder_in fs w) (sym (reverse-append (take n facts) (drop n facts)))
    ∙ ap (λ (fs : List Fact). holder_in (reverse fs) w) (take-append-drop n facts)

pub coins-more : (facts : List Fact) (i : ℕ) (fact : Fact) (count made : ℕ) → i < length facts
    → count ≡ coins_in (reverse (take i facts)) → made ≡ made_by (get_or facts i fact)
    → count + made ≡ coins_in (reverse (take (i + 1) facts))
unfolding coins_in
coins-more facts i fact count made within was is = grind (arith, common_steps, reversed-more) steps 20000

range-more : (a n : ℕ) → range_with_len a (n + 1) ≡ range_with_len a n ++ (a + n) ∷ []
range-more a zero = ap (λ k. k ∷ []) (omega arith)
range-more a (suc n) = grind (arith, common_steps, range-more (a + 1) n) steps 20000

filter_map-one : {X Y : Type 0} (f : X → Option Y) (x : X) → filter_map f (x ∷ []) ≡ option_to_list (f x)
filter_map-one f x = grind (arith, common_steps) steps 20000

pub verdicts-more : (books : List CoinBook) (holder : Holder) (name : List ℕ) (i : ℕ)
    → verdicts_of_books books holder name (i + 1)
    ≡ verdicts_of_books books holder name i
    ++ option_to_list (verdict_of_book holder name (i + 1) (book_at books (i + 1)))
verdicts-more books holder name i =
    grind (arith, common_steps, range-more, filter_map-append, filter_map-one) steps 20000

-- a coin that is there, and a range of such coins
filter_map-range : {Y : Type 0} (f g : ℕ → Option Y) (a n count : ℕ) → 1 ≤ a → a + n ≤ count + 1
    → ((c : ℕ) → is_coin count c ≡ true → f c ≡ g c)
    → filter_map f (range_with_len a n) ≡ filter_map g (range_with_len a n)
filter_map-range f g a zero count first last same = refl
filter_map-range f g a (suc n) count first last same =
    grind (arith, common_steps, filter_map-range f g (a + 1) n count (omega arith) (omega arith) same) steps 20000

-- the verdicts by the books are those by the facts
pub books-same : (books : List CoinBook) (facts : List Fact) (holder : Holder) (name : List ℕ) (count : ℕ)
    → HasBooks count facts books
    → verdicts_of_books books holder name count ≡ verdicts_by facts holder name count
books-same books facts holder name count has_books =
    filter_map-range (λ c. verdict_of_book holder name c (book_at books c)) (verdict_in facts holder name) 1 count count
    (omega arith) (omega arith)
    (grind (arith, common_steps) steps 20000)

-- those of a wallet that is declared
pub some-found : (books : List CoinBook) (facts : List Fact) (wallet : Named) (holder : Holder) (count : ℕ)
    → HasBooks count facts books → count ≡ coins_in facts → Some holder ≡ holder_in facts wallet.number
    → verdicts_of_books books holder wallet.name count ≡ verdicts_for facts wallet
some-found books facts wallet holder count has_books is some = grind (arith, common_steps, books-same) steps 20000
