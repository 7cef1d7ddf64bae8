-- What facts say of one coin, as notes. Facts and notes are listed with the newest first.
use Rattle.std.specs.Prelude.{ℕ, ◌+◌, ◌==◌, ◌&&◌, not, Bool, true, false, if◌then◌else◌, List, [], ◌∷◌, ◌++◌, length, map, filter, reverse, slice_get, Option, Some, None}
use Rattle.coin_verdicts.specs.declared.fact.Fact.{Fact}
use Rattle.coin_verdicts.specs.declared.note.Note.{Note}
use Rattle.coin_verdicts.specs.declared.note.Change.{Change}
use Rattle.coin_verdicts.specs.declared.note.Leaf.{Leaf}
use Rattle.coin_verdicts.specs.declared.note.Guard.{Guard}
use Rattle.coin_verdicts.specs.declared.note.Holder.{Holder}
use Rattle.coin_verdicts.specs.Facts.{has}

-- ---- wallets

-- the holder that a fact in a line declares
abbrev pub declared : ℕ → ℕ → Fact → Option Holder
declared w line (Fact.Declares wallet owner) =
    if wallet == w then Some (record { wallet = w; since = line; owner = owner }) else None
declared w line fact = None

-- one, or else another
abbrev pub earlier : Option Holder → Option Holder → Option Holder
earlier None other = other
earlier (Some one) other = Some one

-- the wallet, as it was first declared
unfoldable pub holder_in : List Fact → ℕ → Option Holder
holder_in [] w = None
holder_in (fact ∷ facts) w = earlier (holder_in facts w) (declared w (length facts + 1) fact)

-- the wallets that were declared after a fact
abbrev pub wallets_after : List ℕ → Fact → List ℕ
wallets_after wallets (Fact.Declares wallet owner) = wallets ++ wallet ∷ []
wallets_after wallets fact = wallets

-- the wallets that were declared, the oldest first
unfoldable pub wallets_in : List Fact → List ℕ
wallets_in [] = []
wallets_in (fact ∷ facts) = wallets_after (wallets_in facts) fact

-- the leaves that a wallet bound, the newest first
unfoldable pub bound_in : List Fact → ℕ → List Leaf
bound_in [] w = []
bound_in (Fact.Binds wallet coin parent ∷ facts) w =
    if wallet == w then record { coin = coin; parent = parent } ∷ bound_in facts w else bound_in facts w
bound_in (fact ∷ facts) w = bound_in facts w

-- the numbers of the leaves that a wallet took back
unfoldable pub taken_in : List Fact → ℕ → List ℕ
taken_in [] w = []
taken_in (Fact.TakesBack wallet q ∷ facts) w = if wallet == w then q ∷ taken_in facts w else taken_in facts w
taken_in (fact ∷ facts) w = taken_in facts w

-- ---- nodes

-- whether node n is quiet after a command of a node that is no watch
abbrev pub stays_quiet : ℕ → ℕ → Bool → Bool
stays_quiet node n was = if node == n then false else was

-- whether node n is quiet at coin c after a fact
abbrev pub quiet_after : ℕ → ℕ → Bool → Fact → Bool
quiet_after c n was (Fact.Declares wallet owner) = was
quiet_after c n was (Fact.Deposits coin block owner) = false
quiet_after c n was (Fact.Ticks met) = false
quiet_after c n was (Fact.Ends coin block account paid) = false
quiet_after c n was Fact.Joins = false
quiet_after c n was (Fact.Accepts wallet coin tip) = stays_quiet wallet n was
quiet_after c n was (Fact.Guards watcher coin tip) = stays_quiet watcher n was
quiet_after c n was (Fact.Releases watcher coin tip) = stays_quiet watcher n was
quiet_after c n was (Fact.Binds wallet coin parent) = stays_quiet wallet n was
quiet_after c n was (Fact.TakesBack wallet q) = stays_quiet wallet n was
quiet_after c n was (Fact.Watches node coins) = if node == n then not (has coins c) else was
quiet_after c n was (Fact.Other node) = stays_quiet node n was
quiet_after c n was Fact.Idle = was

-- node n is quiet at coin c: its last command was a watch that offers no call of the coin, and no call was accepted
-- since
unfoldable pub quiet_in : List Fact → ℕ → ℕ → Bool
quiet_in [] c n = false
quiet_in (fact ∷ facts) c n = quiet_after c n (quiet_in facts c n) fact

-- the guard is this one
abbrev pub is_guard : ℕ → ℕ → Guard → Bool
is_guard watcher tip guard = (guard.watcher == watcher) && (guard.tip == tip)

-- the guards of coin c after a fact
abbrev pub guards_after : ℕ → List Guard → Fact → List Guard
guards_after c guards (Fact.Guards watcher coin tip) =
    if coin == c then guards ++ record { watcher = watcher; tip = tip } ∷ [] else guards
guards_after c guards (Fact.Releases watcher coin tip) =
    if coin == c then filter (λ guard. not (is_guard watcher tip guard)) guards else guards
guards_after c guards fact = guards

-- the guards of coin c
unfoldable pub guards_in : List Fact → ℕ → List Guard
guards_in [] c = []
guards_in (fact ∷ facts) c = guards_after c (guards_in facts c) fact

-- the tips at which a quiet node guards a coin
abbrev pub tips_at : (ℕ → Bool) → List Guard → List ℕ
tips_at is_quiet guards = map (λ guard. guard.tip) (filter (λ guard. is_quiet guard.watcher) guards)

-- those of the wallets that are quiet
abbrev pub wallets_at : (ℕ → Bool) → List ℕ → List ℕ
wallets_at is_quiet wallets = filter is_quiet wallets

-- a tick meets a deadline of coin c, with these wallets and guards; a node is quiet at a coin or not
abbrev pub meets : ℕ → List ℕ → (ℕ → ℕ → Bool) → List Guard → Change
meets c wallets is_quiet guards = Change.Meets (wallets_at (is_quiet c) wallets) (tips_at (is_quiet c) guards)

-- ---- the notes of a coin

-- the change, where there is one
abbrev pub where_so : Bool → Change → List Change
where_so true change = change ∷ []
where_so false change = []

-- the change, once for each time that the coin is among these
abbrev pub each_time : ℕ → Change → List ℕ → List Change
each_time c change [] = []
each_time c change (coin ∷ coins) =
    if coin == c then change ∷ each_time c change coins else each_time c change coins

-- the coin comes back that a leaf had signed away
abbrev pub returned : ℕ → ℕ → Option Leaf → List Change
returned c w None = []
returned c w (Some leaf) = where_so (leaf.coin == c) (Change.Returns w leaf.parent)

-- leaf q, counted from 0 in the order of time
abbrev pub leaf_in : ℕ → List Leaf → Option Leaf
leaf_in q leaves = slice_get (reverse leaves) q

-- what a fact behind others does to coin c
abbrev pub changes_in : List Fact → ℕ → Fact → List Change
changes_in facts c (Fact.Deposits coin block owner) = where_so (coin == c) (Change.Deposits block owner)
changes_in facts c (Fact.Ticks met) =
    each_time c (meets c (wallets_in facts) (quiet_in facts) (guards_in facts c)) met
changes_in facts c (Fact.Ends coin block account paid) = where_so (coin == c) (Change.Ends block account paid)
changes_in facts c (Fact.Accepts wallet coin tip) = where_so (coin == c) (Change.Accepts wallet tip)
changes_in facts c (Fact.Binds wallet coin parent) =
    where_so ((coin == c) && not (has (taken_in facts wallet) (length (bound_in facts wallet))))
    (Change.Sends wallet parent)
changes_in facts c (Fact.TakesBack wallet q) =
    if has (taken_in facts wallet) q then [] else returned c wallet (leaf_in q (bound_in facts wallet))
changes_in facts c fact = []

-- changes in a line, as notes
abbrev pub noted : ℕ → List Change → List Note
noted line changes = map (λ change. record { line = line; change = change }) changes

-- the notes of coin c
unfoldable pub notes_in : List Fact → ℕ → List Note
notes_in [] c = []
notes_in (fact ∷ facts) c = noted (length facts + 1) (changes_in facts c fact) ++ notes_in facts c
