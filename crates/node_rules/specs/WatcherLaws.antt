-- What holds of a watcher's records, and of what its commands add to them.
use Rattle.std.specs.Prelude.{◌≡◌, ℕ, ◌^◌, ◌<◌, true, List, [], ◌∷◌, ◌++◌, length, Option, Some, IfSome, Ok}
use Rattle.std.specs.List.{filter_map}
use Rattle.std.specs.Option.{option_map}
use Rattle.node_journal.specs.Role.{are_of, may_follow}
use Rattle.plasma_tx.specs.{declared.links.Links.{Links}, declared.call.RootCall.{RootCall}, Spelling.{AreBytes}}
use Rattle.coin_history.specs.declared.bundle.Bundle.{Bundle}
use Rattle.watch_duty.specs.{declared.guard.Guard.{Guard}, Duty.{due_calls}}
use Rattle.node_rules.specs.{Kept.{kept_of, kept_links, links_handed}, Laws.{IsKeptCoin, IsReadBack}}
use Rattle.node_rules.specs.Watcher.{WatcherIdentity, identity_text, identity_in, Note, Guarded, Released, note_text, note_in, watcher_kinds, who_is, notes_of, guards_in, guard_effect, release_effect, watch_answer}

-- an identity of the type: a tag of 32 bytes and an account of 64 bits
pub record IsIdentity (who : WatcherIdentity) : Type 0 where
  pub tag : length who.tag ≡ 32
  pub account : who.account < 2 ^ 64

-- a note of a chain with that tag that has bytes: of a kept coin, or of a coin and a tip of 64 bits
abbrev pub IsNote : (List ℕ → List ℕ) → List ℕ → Note → Type 0
IsNote dig tag (Guarded kept) = IsKeptCoin dig tag kept
IsNote dig tag (Released coin tip) = (coin < 2 ^ 64) × (tip < 2 ^ 64)

-- an identity's bytes are read as it, and the bytes that are read are its own
abbrev pub IdentitiesAreReadBack : Type 0
IdentitiesAreReadBack = (who : WatcherIdentity) → IsIdentity who → identity_in (identity_text who) ≡ Some who

abbrev pub IdentitiesHaveOneSpelling : Type 0
IdentitiesHaveOneSpelling = (body : List ℕ) (who : WatcherIdentity) → AreBytes body → identity_in body ≡ Some who
    → (body ≡ identity_text who) × IsIdentity who

-- so are notes
abbrev pub NotesAreReadBack : Type 0
NotesAreReadBack = (dig : List ℕ → List ℕ) (tag : List ℕ) (note : Note) → IsNote dig tag note
    → note_in dig tag (note_text note) ≡ Some note

abbrev pub NotesHaveOneSpelling : Type 0
NotesHaveOneSpelling = (dig : List ℕ → List ℕ) (tag body : List ℕ) (note : Note) → AreBytes body
    → note_in dig tag body ≡ Some note → (body ≡ note_text note) × IsNote dig tag note

-- ---- the role

-- a record that may stand behind these, which are a watcher's with it too
abbrev pub KeepsRole : (List ℕ → List ℕ) → List (List ℕ) → List ℕ → Type 0
KeepsRole dig records body =
    (may_follow (watcher_kinds dig) records body ≡ true) × (are_of (watcher_kinds dig) (records ++ body ∷ []) ≡ true)

-- the record that a command adds to a watcher's records is one of a watcher's kinds
abbrev pub CommandsKeepTheRole : Type 0
CommandsKeepTheRole = (dig : List ℕ → List ℕ) (records : List (List ℕ)) (log : List RootCall) (bytes : List ℕ)
    (coin tip : ℕ) → are_of (watcher_kinds dig) records ≡ true → AreBytes bytes
    → IfSome (guard_effect dig records log bytes).note (KeepsRole dig records)
    × IfSome (release_effect dig records coin tip).note (KeepsRole dig records)

-- a record that is read as this note behind the notes that were there; the identity stays
abbrev pub AddsNote : (List ℕ → List ℕ) → List (List ℕ) → Note → List ℕ → Type 0
AddsNote dig records note body =
    (who_is (records ++ body ∷ []) ≡ who_is records)
    × (notes_of dig (records ++ body ∷ []) ≡ note ∷ notes_of dig records)

-- the record of a guard is that of the links that were handed in, which it keeps
abbrev pub AddsGuard : (List ℕ → List ℕ) → List (List ℕ) → List RootCall → List ℕ → List ℕ → Type 0
AddsGuard dig records log bytes body =
    (links : Links) × (links_handed dig (who_is records).tag log bytes ≡ Ok links)
    × IsReadBack dig (who_is records).tag log links × AddsNote dig records (Guarded (kept_of links)) body

-- each command's record is read as its note
abbrev pub CommandsAddTheirNotes : Type 0
CommandsAddTheirNotes = (dig : List ℕ → List ℕ) (records : List (List ℕ)) (log : List RootCall) (bytes : List ℕ)
    (coin tip : ℕ) → are_of (watcher_kinds dig) records ≡ true → AreBytes bytes → coin < 2 ^ 64 → tip < 2 ^ 64
    → IfSome (guard_effect dig records log bytes).note (AddsGuard dig records log bytes)
    × IfSome (release_effect dig records coin tip).note (AddsNote dig records (Released coin tip))

-- ---- what is due

-- the guards of kept coins, with the links that they show under the log; none of a coin that the log doesn't have
abbrev pub guard_shown : List ℕ → List RootCall → Bundle → Option Guard
guard_shown tag log kept = option_map (λ links. record { links = links }) (kept_links tag log kept)

abbrev pub guards_shown : List ℕ → List RootCall → List Bundle → List Guard
guards_shown tag log kept = filter_map (guard_shown tag log) kept

-- a watcher answers what is due for its guards, in the order of coins and tips
abbrev pub WatchersDoTheirDuty : Type 0
WatchersDoTheirDuty = (dig : List ℕ → List ℕ) (records : List (List ℕ)) (log : List RootCall)
    → watch_answer dig records log
    ≡ due_calls log (who_is records).account (guards_shown (who_is records).tag log (guards_in dig records))
