-- What is kept of the facts that were read.
use Rattle.std.specs.Prelude.{◌≡◌, ℕ, ◌+◌, ◌&&◌, Bool, if◌then◌else◌, nat_le, List, ◌∷◌, length, reverse, Some, None}
use Rattle.coin_verdicts.specs.declared.fact.Fact.{Fact}
use Rattle.coin_verdicts.specs.declared.reading.Reading.{Reading}
use Rattle.coin_verdicts.specs.Facts.{has}
use Rattle.coin_verdicts.specs.Notes.{wallets_in, bound_in, taken_in, quiet_in, guards_in, notes_in}
use Rattle.coin_verdicts.specs.Quiet.{is_quiet_at}
use Rattle.coin_verdicts.specs.Books.{CoinBook, book_at}
use Rattle.coin_verdicts.specs.Signings.{signed_in}

-- the coin is one of so many
abbrev pub is_coin : ℕ → ℕ → Bool
is_coin count c = nat_le 1 c && nat_le c count

-- the book of a coin
abbrev pub book_in : List Fact → ℕ → CoinBook
book_in facts c = record { notes = notes_in facts c; guards = guards_in facts c }

-- the books of so many coins, of which these facts were read, the newest first
abbrev pub HasBooks : ℕ → List Fact → List CoinBook → Type 0
HasBooks count facts books =
    (c : ℕ) → book_at books c ≡ (if is_coin count c then Some (book_in facts c) else None)

-- what is kept of the facts that were read, the newest first
pub record Keeps (count : ℕ) (facts : List Fact) (reading : Reading) : Type 0 where
  pub wallets_are : reading.wallets.items ≡ wallets_in facts
  pub nodes_are : (c n : ℕ) → is_quiet_at reading.nodes c n ≡ quiet_in facts c n
  pub leaves_are : (w : ℕ) → (signed_in reading.signers w).leaves ≡ reverse (bound_in facts w)
  pub taken_are : (w q : ℕ) → has (signed_in reading.signers w).taken q ≡ has (taken_in facts w) q
  pub books_are : HasBooks count facts reading.books

-- whatever was read, this fact was read besides, in this line
abbrev pub Reads : ℕ → Fact → Reading → Reading → Type 0
Reads line fact old new = (count : ℕ) (facts : List Fact) → line ≡ length facts + 1 → Keeps count facts old
    → Keeps count (fact ∷ facts) new
