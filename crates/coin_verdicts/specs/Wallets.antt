-- The verdicts on the coins of wallets, by facts, the newest first.
use Rattle.std.specs.Prelude.{ℕ, ◌+◌, List, [], ◌∷◌, Option, Some, None, option_map}
use Rattle.std.specs.List.{filter_map, range_with_len}
use Rattle.world_rules.specs.{declared.verdict.Verdict.{Verdict}, Verdicts.{Named}}
use Rattle.coin_verdicts.specs.{declared.fact.Fact.{Fact}, declared.note.Holder.{Holder}, declared.wallet.NamedWallet.{NamedWallet}, Notes.{holder_in, notes_in}, Standings.{kind_in}, Books.{CoinBook, book_at}}

-- how many coins a fact makes
abbrev pub made_by : Fact → ℕ
made_by (Fact.Deposits coin block owner) = 1
made_by fact = 0

-- how many coins there are
unfoldable pub coins_in : List Fact → ℕ
coins_in [] = 0
coins_in (fact ∷ facts) = coins_in facts + made_by fact

-- a wallet, as the world names it
abbrev pub named_of : NamedWallet → Named
named_of wallet = record { number = wallet.number; name = wallet.name }

-- the verdict on a coin, where the wallet ever held it
abbrev pub verdict_in : List Fact → Holder → List ℕ → ℕ → Option Verdict
verdict_in facts holder name c =
    option_map (λ kind. record { wallet = name; coin = c; kind = kind }) (kind_in holder (notes_in facts c))

-- the same by the book that is kept of the coin, where there is one
abbrev pub verdict_of_book : Holder → List ℕ → ℕ → Option CoinBook → Option Verdict
verdict_of_book holder name c None = None
verdict_of_book holder name c (Some book) =
    option_map (λ kind. record { wallet = name; coin = c; kind = kind }) (kind_in holder book.notes)

abbrev pub verdicts_of_books : List CoinBook → Holder → List ℕ → ℕ → List Verdict
verdicts_of_books books holder name count =
    filter_map (λ c. verdict_of_book holder name c (book_at books c)) (range_with_len 1 count)

-- the verdicts on a declared wallet's coins, by rising coin
abbrev pub verdicts_by : List Fact → Holder → List ℕ → ℕ → List Verdict
verdicts_by facts holder name count = filter_map (verdict_in facts holder name) (range_with_len 1 count)

-- those of a wallet, where it is declared
abbrev pub verdicts_where : List Fact → List ℕ → Option Holder → List Verdict
verdicts_where facts name None = []
verdicts_where facts name (Some holder) = verdicts_by facts holder name (coins_in facts)

abbrev pub verdicts_for : List Fact → Named → List Verdict
verdicts_for facts wallet = verdicts_where facts wallet.name (holder_in facts wallet.number)
