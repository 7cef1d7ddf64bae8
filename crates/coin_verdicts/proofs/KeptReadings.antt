-- What is kept of the facts that were read, after one more.
use Rattle.std.proofs.Common.{◌≡◌, ℕ, ◌+◌, ◌==◌, ◌&&◌, ◌||◌, not, Bool, true, false, if◌then◌else◌, List, [], ◌∷◌, ◌++◌, filter, length, reverse, slice_get, replicate, zero, suc, Option, Some, None, refl, ap, ◌∙◌, arith}
use Rattle.std.specs.Prelude.{option_map, nat_lt}
use Rattle.std.proofs.lemmas.Bool.{false≢true, cases_eq, eq-eqb, ne_eqb, lt-ltb, le-ltb}
use Rattle.std.proofs.lemmas.List.{reverse-append, length-reverse}
use Rattle.std.proofs.lemmas.Grind.{common_steps}
use Rattle.world_rules.proofs.WalletSends.{among-key}
use Rattle.coin_verdicts.specs.declared.fact.Fact.{Fact}
use Rattle.coin_verdicts.specs.declared.note.Change.{Change}
use Rattle.coin_verdicts.specs.declared.note.Leaf.{Leaf}
use Rattle.coin_verdicts.specs.declared.reading.Reading.{Reading}
use Rattle.coin_verdicts.specs.Facts.{has}
use Rattle.coin_verdicts.specs.Notes.{wallets_after, wallets_in, bound_in, taken_in, stays_quiet, quiet_after, quiet_in, guards_after, guards_in, where_so, returned, leaf_in, changes_in, noted, notes_in}
use Rattle.coin_verdicts.specs.Quiet.{is_quiet_at}
use Rattle.coin_verdicts.specs.Books.{CoinBook, blank, with_more, with_guard, without_guard, book_at, IsChanged, AreMet, Signing, with_leaf, with_taken}
use Rattle.coin_verdicts.specs.Signings.{signed_in, IsSigned}
use Rattle.coin_verdicts.specs.Readings.{is_coin, book_in, Keeps}
use Rattle.coin_verdicts.proofs.Lists.{eqb-comm}

-- how a fact behind others changes the book of a coin
abbrev pub book_after : List Fact → ℕ → ℕ → Fact → CoinBook → CoinBook
book_after facts line c fact book =
    record { notes = noted line (changes_in facts c fact) ++ book.notes; guards = guards_after c book.guards fact }

-- the fact binds no leaf, and takes none back
abbrev pub is_unsigned : Fact → Bool
is_unsigned (Fact.Binds wallet coin parent) = false
is_unsigned (Fact.TakesBack wallet q) = false
is_unsigned fact = true

unsigned-bound : (fact : Fact) (facts : List Fact) (w : ℕ) → is_unsigned fact ≡ true
    → bound_in (fact ∷ facts) w ≡ bound_in facts w
unfolding bound_in
unsigned-bound fact facts w is = grind (arith, common_steps, false≢true) steps 20000

unsigned-taken : (fact : Fact) (facts : List Fact) (w : ℕ) → is_unsigned fact ≡ true
    → taken_in (fact ∷ facts) w ≡ taken_in facts w
unfolding taken_in
unsigned-taken fact facts w is = grind (arith, common_steps, false≢true) steps 20000

-- the books after a fact, where each changed as the fact says
books-next : (count line c : ℕ) (facts : List Fact) (fact : Fact) (old new : Option CoinBook)
    → line ≡ length facts + 1 → old ≡ (if is_coin count c then Some (book_in facts c) else None)
    → new ≡ option_map (book_after facts line c fact) old
    → new ≡ (if is_coin count c then Some (book_in (fact ∷ facts) c) else None)
unfolding notes_in guards_in
books-next count line c facts fact old new is was made = grind (arith, common_steps) steps 20000

module _ (count line : ℕ) (facts : List Fact) (old new : Reading) (is : line ≡ length facts + 1)
    (keeps : Keeps count facts old) where
  -- a fact that says nothing of leaves
  pub keeps-next : (fact : Fact) → is_unsigned fact ≡ true
      → new.wallets.items ≡ wallets_after old.wallets.items fact
      → ((c n : ℕ) → is_quiet_at new.nodes c n ≡ quiet_after c n (is_quiet_at old.nodes c n) fact)
      → new.signers ≡ old.signers
      → ((c : ℕ) → book_at new.books c ≡ option_map (book_after facts line c fact) (book_at old.books c))
      → Keeps count (fact ∷ facts) new
  unfolding wallets_in quiet_in
  keeps-next fact unsigned wallets nodes signers books = record {
    wallets_are = wallets ∙ ap (λ ws. wallets_after ws fact) keeps.wallets_are;
    nodes_are = λ c n. nodes c n ∙ ap (λ was. quiet_after c n was fact) (keeps.nodes_are c n);
    leaves_are = grind (arith, common_steps, unsigned-bound) steps 20000;
    taken_are = grind (arith, common_steps, unsigned-taken) steps 20000;
    books_are = grind (arith, common_steps, books-next) steps 20000;
  }

  -- leaves in the order of time, with one more
  leaves-more : (w wallet : ℕ) (leaf : Leaf) (now was : Signing) (bound : List Leaf)
      → now ≡ (if w == wallet then with_leaf leaf was else was) → was.leaves ≡ reverse bound
      → now.leaves ≡ reverse (if wallet == w then leaf ∷ bound else bound)
  leaves-more w wallet leaf now was bound made same = grind (arith, common_steps, eqb-comm, reverse-append) steps 20000

  -- a wallet binds its next leaf
  pub keeps-binds : (wallet coin parent : ℕ)
      → new.wallets.items ≡ wallets_after old.wallets.items (Fact.Binds wallet coin parent)
      → ((c n : ℕ) → is_quiet_at new.nodes c n ≡ stays_quiet wallet n (is_quiet_at old.nodes c n))
      → IsSigned old.signers new.signers wallet
      (with_leaf (record { coin = coin; parent = parent }) (signed_in old.signers wallet))
      → ((c : ℕ) → book_at new.books c
      ≡ option_map (book_after facts line c (Fact.Binds wallet coin parent)) (book_at old.books c))
      → Keeps count (Fact.Binds wallet coin parent ∷ facts) new
  unfolding wallets_in quiet_in bound_in taken_in
  keeps-binds wallet coin parent wallets nodes signers books = record {
    wallets_are = wallets ∙ keeps.wallets_are;
    nodes_are = λ c n. nodes c n ∙ ap (stays_quiet wallet n) (keeps.nodes_are c n);
    leaves_are = λ w. grind (arith, common_steps, leaves-more, own) steps 20000;
    taken_are = λ w q. grind (arith, common_steps, own, at) steps 20000;
    books_are = grind (arith, common_steps, books-next) steps 20000;
  }
    where
      own : (w : ℕ)
          → (if w == wallet then with_leaf (record { coin = coin; parent = parent }) (signed_in old.signers wallet)
          else signed_in old.signers w)
          ≡ (if w == wallet then with_leaf (record { coin = coin; parent = parent }) (signed_in old.signers w)
          else signed_in old.signers w)
      own w = grind (arith, common_steps, cases_eq, ne_eqb) steps 20000

      at : (w q : ℕ) (b : Bool)
          → has (if b then with_leaf (record { coin = coin; parent = parent }) (signed_in old.signers w)
          else signed_in old.signers w).taken q
          ≡ has (signed_in old.signers w).taken q
      at w q true = refl
      at w q false = refl

  -- a wallet takes a leaf back
  pub keeps-returns : (wallet number : ℕ)
      → new.wallets.items ≡ wallets_after old.wallets.items (Fact.TakesBack wallet number)
      → ((c n : ℕ) → is_quiet_at new.nodes c n ≡ stays_quiet wallet n (is_quiet_at old.nodes c n))
      → IsSigned old.signers new.signers wallet (with_taken number (signed_in old.signers wallet))
      → ((c : ℕ) → book_at new.books c
      ≡ option_map (book_after facts line c (Fact.TakesBack wallet number)) (book_at old.books c))
      → Keeps count (Fact.TakesBack wallet number ∷ facts) new
  unfolding wallets_in quiet_in bound_in taken_in
  keeps-returns wallet number wallets nodes signers books = record {
    wallets_are = wallets ∙ keeps.wallets_are;
    nodes_are = λ c n. nodes c n ∙ ap (stays_quiet wallet n) (keeps.nodes_are c n);
    leaves_are = λ w. ap (λ (s : Signing). s.leaves) (signers w ∙ own w) ∙ kept w (w == wallet) ∙ keeps.leaves_are w;
    taken_are = λ w q. grind (arith, common_steps, own, eqb-comm, at) steps 20000;
    books_are = grind (arith, common_steps, books-next) steps 20000;
  }
    where
      own : (w : ℕ)
          → (if w == wallet then with_taken number (signed_in old.signers wallet) else signed_in old.signers w)
          ≡ (if w == wallet then with_taken number (signed_in old.signers w) else signed_in old.signers w)
      own w = grind (arith, common_steps, cases_eq, ne_eqb) steps 20000

      kept : (w : ℕ) (b : Bool)
          → (if b then with_taken number (signed_in old.signers w) else signed_in old.signers w).leaves
          ≡ (signed_in old.signers w).leaves
      kept w true = refl
      kept w false = refl

      at : (w q : ℕ) (b : Bool) → has (signed_in old.signers w).taken q ≡ has (taken_in facts w) q
          → has (if b then with_taken number (signed_in old.signers w) else signed_in old.signers w).taken q
          ≡ has (if b then number ∷ taken_in facts w else taken_in facts w) q
      at w q true same = among-key number (signed_in old.signers w).taken q ∙ ap (λ b. (number == q) || b) same
      at w q false same = same

-- ---- books

-- the book with these changes of one line
abbrev pub with_changes : ℕ → List Change → CoinBook → CoinBook
with_changes line changes book = record { notes = noted line changes ++ book.notes; guards = book.guards }

-- no note and no guard of any coin
pub same-book : (o : Option CoinBook) → o ≡ option_map (λ book. record { notes = book.notes; guards = book.guards }) o
same-book None = refl
same-book (Some book) = refl

-- a note of a coin
pub noted-books : (line coin c : ℕ) (change : Change) (books after : List CoinBook)
    → IsChanged coin (with_more (record { line = line; change = change })) books after
    → book_at after c
    ≡ option_map (λ book. record {
      notes = noted line (where_so (coin == c) change) ++ book.notes;
      guards = book.guards;
    }) (book_at books c)
noted-books line coin c change books after is = grind (arith, common_steps, eqb-comm) steps 20000

-- a guard of a coin, and one that is let go
pub guarded-books : (watcher coin tip c : ℕ) (books after : List CoinBook)
    → IsChanged coin (with_guard (record { watcher = watcher; tip = tip })) books after
    → book_at after c
    ≡ option_map (λ book. record {
      notes = book.notes;
      guards = guards_after c book.guards (Fact.Guards watcher coin tip);
    }) (book_at books c)
guarded-books watcher coin tip c books after is = grind (arith, common_steps, eqb-comm) steps 20000

pub released-books : (watcher coin tip c : ℕ) (books after : List CoinBook)
    → IsChanged coin (without_guard watcher tip) books after
    → book_at after c
    ≡ option_map (λ book. record {
      notes = book.notes;
      guards = guards_after c book.guards (Fact.Releases watcher coin tip);
    }) (book_at books c)
released-books watcher coin tip c books after is = grind (arith, common_steps, eqb-comm) steps 20000

filter-same : {X : Type 0} (p q : X → Bool) (xs : List X) → ((x : X) → p x ≡ q x) → filter p xs ≡ filter q xs
filter-same p q [] same = refl
filter-same p q (x ∷ xs) same = rw (same x, filter-same p q xs same) refl

-- a tick, by the wallets, nodes and guards that are kept
pub met-books : (count line c : ℕ) (facts : List Fact) (wallets : List ℕ) (is_quiet : ℕ → ℕ → Bool) (met : List ℕ)
    (books after : List CoinBook) → wallets ≡ wallets_in facts → ((n : ℕ) → is_quiet c n ≡ quiet_in facts c n)
    → book_at books c ≡ (if is_coin count c then Some (book_in facts c) else None)
    → AreMet line wallets is_quiet met books after
    → book_at after c ≡ option_map (book_after facts line c (Fact.Ticks met)) (book_at books c)
met-books count line c facts wallets is_quiet met books after known same was are =
    grind (arith, common_steps, filter-same) steps 20000

-- ---- leaves

-- whether the next leaf is taken back already
pub next-taken : (count : ℕ) (facts : List Fact) (reading : Reading) (w : ℕ) → Keeps count facts reading
    → has (signed_in reading.signers w).taken (length (signed_in reading.signers w).leaves)
    ≡ has (taken_in facts w) (length (bound_in facts w))
next-taken count facts reading w keeps = grind (arith, common_steps, length-reverse) steps 20000

-- a leaf that is taken back already signs nothing away
pub unsent-books : (line coin c : ℕ) (change : Change) (taken : Bool) (o : Option CoinBook) → false ≡ not taken
    → o ≡ option_map (λ book. record {
      notes = noted line (where_so ((coin == c) && not taken) change) ++ book.notes;
      guards = book.guards;
    }) o
unsent-books line coin c change taken o is = grind (arith, common_steps, false≢true) steps 20000

pub sent-books : (line coin c : ℕ) (change : Change) (taken : Bool) (books after : List CoinBook) → true ≡ not taken
    → IsChanged coin (with_more (record { line = line; change = change })) books after
    → book_at after c
    ≡ option_map (λ book. record {
      notes = noted line (where_so ((coin == c) && not taken) change) ++ book.notes;
      guards = book.guards;
    }) (book_at books c)
sent-books line coin c change taken books after is made = grind (arith, common_steps, noted-books) steps 20000

-- what is returned of a leaf, by what was found
pub returned-none : (c w : ℕ) (taken : Bool) (found : Option Leaf) → None ≡ (if taken then None else found)
    → (if taken then [] else returned c w found) ≡ []
returned-none c w taken found is = grind (arith, common_steps) steps 20000

pub returned-some : (c w : ℕ) (taken : Bool) (found : Option Leaf) (leaf : Leaf)
    → Some leaf ≡ (if taken then None else found)
    → (if taken then [] else returned c w found) ≡ where_so (leaf.coin == c) (Change.Returns w leaf.parent)
returned-some c w taken found leaf is = grind (arith, common_steps) steps 20000

-- what is found of a leaf that is taken back
pub found-same : (count : ℕ) (facts : List Fact) (reading : Reading) (w q : ℕ) → Keeps count facts reading
    → (if has (signed_in reading.signers w).taken q then None else slice_get (signed_in reading.signers w).leaves q)
    ≡ (if has (taken_in facts w) q then None else leaf_in q (bound_in facts w))
found-same count facts reading w q keeps = grind (arith, common_steps) steps 20000

pub unreturned-books : (facts : List Fact) (line c w q : ℕ) (o : Option CoinBook)
    → None ≡ (if has (taken_in facts w) q then None else leaf_in q (bound_in facts w))
    → o ≡ option_map (book_after facts line c (Fact.TakesBack w q)) o
unreturned-books facts line c w q o is = grind (arith, common_steps, same-book, returned-none) steps 20000

pub returned-books : (facts : List Fact) (line c w q : ℕ) (leaf : Leaf) (books after : List CoinBook)
    → Some leaf ≡ (if has (taken_in facts w) q then None else leaf_in q (bound_in facts w))
    → IsChanged leaf.coin (with_more (record { line = line; change = Change.Returns w leaf.parent })) books after
    → book_at after c ≡ option_map (book_after facts line c (Fact.TakesBack w q)) (book_at books c)
returned-books facts line c w q leaf books after is made =
    grind (arith, common_steps, noted-books, returned-some) steps 20000

-- ---- at the start

get-replicate : {X : Type 0} (n i : ℕ) (x : X)
    → slice_get (replicate n x) i ≡ (if nat_lt i n then Some x else None)
get-replicate zero i x = rw (le-ltb i 0 (omega arith)) refl
get-replicate (suc n) zero x = rw (lt-ltb 0 (suc n) (omega arith)) refl
get-replicate (suc n) (suc i) x =
    let same : nat_lt (suc i) (suc n) ≡ nat_lt i n = grind arith in rw same (get-replicate n i x)

-- coins without notes
pub blank-books : (count c : ℕ) → book_at (replicate count blank) c ≡ (if is_coin count c then Some blank else None)
blank-books count c = grind (arith, common_steps, cases_eq, eq-eqb, ne_eqb, get-replicate) steps 20000
