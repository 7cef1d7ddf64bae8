-- What is kept while facts are read: the leaves of each wallet, and the notes and guards of each coin.
use Rattle.std.specs.Prelude.{◌≡◌, ℕ, Bool, ◌-◌, ◌==◌, not, if◌then◌else◌, List, [], ◌∷◌, ◌++◌, filter, slice_get, Option, None, unwrap_or, option_map}
use Rattle.std.specs.Ordering.{nat_cmp}
use Rattle.std.specs.BTreeMap.{BTreeMap, get}
use Rattle.std.specs.BTreeSet.{insert_key}
use Rattle.coin_verdicts.specs.declared.note.Note.{Note}
use Rattle.coin_verdicts.specs.declared.note.Leaf.{Leaf}
use Rattle.coin_verdicts.specs.declared.note.Guard.{Guard}
use Rattle.coin_verdicts.specs.Notes.{is_guard, meets, each_time, noted}

-- the notes of a coin, the newest first, and its guards
pub record CoinBook : Type 0 where
  pub notes : List Note
  pub guards : List Guard

-- a book with nothing in it
abbrev pub blank : CoinBook
blank = record { notes = []; guards = [] }

-- the book with one more note
abbrev pub with_more : Note → CoinBook → CoinBook
with_more note book = record book { notes = note ∷ book.notes }

-- the book with one more guard, and without one
abbrev pub with_guard : Guard → CoinBook → CoinBook
with_guard guard book = record book { guards = book.guards ++ guard ∷ [] }

abbrev pub without_guard : ℕ → ℕ → CoinBook → CoinBook
without_guard watcher tip book =
    record book { guards = filter (λ guard. not (is_guard watcher tip guard)) book.guards }

-- the book of a coin; coins are counted from 1
abbrev pub book_at : List CoinBook → ℕ → Option CoinBook
book_at books c = if c == 0 then None else slice_get books (c - 1)

-- the books after a change of one
abbrev pub IsChanged : ℕ → (CoinBook → CoinBook) → List CoinBook → List CoinBook → Type 0
IsChanged coin change books after =
    (c : ℕ) → book_at after c ≡ (if c == coin then option_map change (book_at books c) else book_at books c)

-- the book with a note of a tick that meets a deadline of coin c, with these wallets; a node is quiet at a coin or not
abbrev pub with_met : ℕ → ℕ → List ℕ → (ℕ → ℕ → Bool) → CoinBook → CoinBook
with_met line c wallets is_quiet book =
    with_more (record { line = line; change = meets c wallets is_quiet book.guards }) book

-- the book with such a note for each time that coin c is among these
abbrev pub with_each : ℕ → ℕ → List ℕ → (ℕ → ℕ → Bool) → List ℕ → CoinBook → CoinBook
with_each line c wallets is_quiet met book =
    record book { notes = noted line (each_time c (meets c wallets is_quiet book.guards) met) ++ book.notes }

-- the books after a tick
abbrev pub AreMet : ℕ → List ℕ → (ℕ → ℕ → Bool) → List ℕ → List CoinBook → List CoinBook → Type 0
AreMet line wallets is_quiet met books after =
    (c : ℕ) → book_at after c ≡ option_map (with_each line c wallets is_quiet met) (book_at books c)

-- a wallet's leaves in the order of time, and the numbers of those that it took back
pub record Signing : Type 0 where
  pub leaves : List Leaf
  pub taken : List ℕ

-- a wallet that signed nothing
abbrev pub nothing_signed : Signing
nothing_signed = record { leaves = []; taken = [] }

-- a wallet that binds one more leaf
abbrev pub with_leaf : Leaf → Signing → Signing
with_leaf leaf signing = record signing { leaves = signing.leaves ++ leaf ∷ [] }

-- a wallet that takes a leaf back
abbrev pub with_taken : ℕ → Signing → Signing
with_taken q signing = record signing { taken = insert_key nat_cmp signing.taken q }

-- what a wallet signed, in a map
abbrev pub signing_of : BTreeMap ℕ Signing → ℕ → Signing
signing_of wallets w = unwrap_or (get nat_cmp wallets w) nothing_signed
