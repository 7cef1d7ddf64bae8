-- A watcher: its records, the coins that it guards, and its commands.
use Rattle.std.specs.Prelude.{ℕ, ◌+◌, ◌==◌, ◌&&◌, ◌||◌, not, Bool, true, false, nat_lt, if◌then◌else◌, List, [], ◌∷◌, ◌++◌, length, drop, filter, reverse, slice_range, Option, Some, None, is_some, Result, Ok, Err}
use Rattle.std.specs.List.{list_any, flat_map, filter_map}
use Rattle.std.specs.Option.{option_map_or}
use Rattle.node_journal.specs.{Effect.{Effect, only, first_cause, unless}, Role.{Kinds}}
use Rattle.plasma_tx.specs.{declared.links.Links.{Links}, declared.call.RootCall.{RootCall}, Links.{tip_of}, Spelling.{number_text, number_at}, Views.{is_withdrawn}}
use Rattle.coin_history.specs.{declared.bundle.Bundle.{Bundle}, declared.refusal.HistoryRefusal.{HistoryRefusal}, Bundles.{bundle_text}}
use Rattle.watch_duty.specs.{declared.guard.Guard.{Guard}, Duty.{due_of}}
use Rattle.node_rules.specs.{declared.answers.Accepted.{Accepted}, declared.refusal.WatcherRefusal.{WatcherRefusal}, declared.refusal.WatcherRefusal.TheVariants.{History, Withdrawn, ExitStands, NoteTooLong, NoGuard}}
use Rattle.node_rules.specs.Kept.{kept_of, kept_in, kept_links, links_handed, standing_block, most_note}

-- ---- records

-- the chain's tag and the watcher's account
pub record WatcherIdentity : Type 0 where
  pub tag : List ℕ
  pub account : ℕ

unfoldable pub identity_text : WatcherIdentity → List ℕ
identity_text who = 17 ∷ who.tag ++ number_text who.account

-- the identity that bytes spell
unfoldable pub identity_in : List ℕ → Option WatcherIdentity
identity_in [] = None
identity_in (mark ∷ bytes) =
    if (mark == 17) && (length bytes == 40)
    then Some (record { tag = slice_range bytes 0 32; account = number_at bytes 32 })
    else None

-- a coin is guarded; the guard of a coin at a tip is released
pub data Note : Type 0 where
  Guarded : Bundle → Note
  Released : ℕ → ℕ → Note

unfoldable pub note_text : Note → List ℕ
note_text (Guarded kept) = 18 ∷ bundle_text kept
note_text (Released coin tip) = 19 ∷ number_text coin ++ number_text tip

-- the note of a kept coin
abbrev pub guarded : Option Bundle → Option Note
guarded None = None
guarded (Some kept) = Some (Guarded kept)

-- the note that bytes spell for a chain with that tag
unfoldable pub note_in : (List ℕ → List ℕ) → List ℕ → List ℕ → Option Note
note_in dig tag [] = None
note_in dig tag (mark ∷ bytes) =
    if mark == 18 then guarded (kept_in dig tag bytes)
    else if (mark == 19) && (length bytes == 16) then Some (Released (number_at bytes 0) (number_at bytes 8))
    else None

-- the tag of an identity's bytes; empty where they spell none
abbrev pub tag_in : List ℕ → List ℕ
tag_in body = option_map_or (λ who. who.tag) (identity_in body) []

-- which records are a watcher's
abbrev pub watcher_kinds : (List ℕ → List ℕ) → Kinds
watcher_kinds dig = record {
  is_identity = λ body. is_some (identity_in body);
  is_note = λ identity body. is_some (note_in dig (tag_in identity) body);
}

-- the identity of records
abbrev pub nobody : WatcherIdentity
nobody = record { tag = []; account = 0 }

unfoldable pub who_is : List (List ℕ) → WatcherIdentity
who_is [] = nobody
who_is (body ∷ bodies) = option_map_or (λ who. who) (identity_in body) nobody

-- the notes of records, the newest first
unfoldable pub notes_of : (List ℕ → List ℕ) → List (List ℕ) → List Note
notes_of dig records = reverse (filter_map (note_in dig (who_is records).tag) (drop 1 records))

-- ---- the guards that are kept

-- the kept coin is this one with this tip
abbrev pub is_of : ℕ → ℕ → Bundle → Bool
is_of coin tip kept = (kept.coin == coin) && (kept.tip == tip)

-- coin and tip come before those of another
abbrev pub is_before : Bundle → Bundle → Bool
is_before kept other = nat_lt kept.coin other.coin || (kept.coin == other.coin) && nat_lt kept.tip other.tip

-- a guard at its place in the order of coins and tips, where there is none of this coin and tip
abbrev pub with_guard : Bundle → List Bundle → List Bundle
with_guard kept guards =
    if list_any (is_of kept.coin kept.tip) guards then guards
    else filter (λ other. is_before other kept) guards ++ kept ∷ filter (λ other. not (is_before other kept)) guards

-- the guards that notes leave, in the order of coins and tips; the newest note first
unfoldable pub guards_of : List Note → List Bundle
guards_of [] = []
guards_of (Guarded kept ∷ notes) = with_guard kept (guards_of notes)
guards_of (Released coin tip ∷ notes) = filter (λ kept. not (is_of coin tip kept)) (guards_of notes)

abbrev pub guards_in : (List ℕ → List ℕ) → List (List ℕ) → List Bundle
guards_in dig records = guards_of (notes_of dig records)

-- ---- commands

-- an exit of the coin stands
abbrev pub standing_causes : Option ℕ → List (Bool × WatcherRefusal)
standing_causes None = []
standing_causes (Some block) = (true, ExitStands block) ∷ []

-- how long the record of a guard is
abbrev pub guard_length : Links → ℕ
guard_length links = length (note_text (Guarded (kept_of links)))

-- what a history is refused for
abbrev pub guard_causes : List RootCall → Links → List (Bool × WatcherRefusal)
guard_causes log links =
    (
    (is_withdrawn log links.coin, Withdrawn)
    ∷ standing_causes (standing_block log links.coin)
    ++ (nat_lt most_note (guard_length links), NoteTooLong (guard_length links))
    ∷ []
    )

-- the coin is guarded; one that is guarded already with this tip takes no record
abbrev pub guard_taken : List Bundle → Links → Effect (Result Accepted WatcherRefusal)
guard_taken guards links = record {
  answer = Ok (record { coin = links.coin; tip = tip_of links });
  note = if list_any (is_of links.coin (tip_of links)) guards then None else Some (note_text (Guarded (kept_of
      links)));
}

abbrev pub guard_by : List RootCall → List Bundle → Result Links HistoryRefusal
    → Effect (Result Accepted WatcherRefusal)
guard_by log guards (Err why) = only (Err (History why))
guard_by log guards (Ok links) = unless (first_cause (guard_causes log links)) (guard_taken guards links)

-- a bundle is handed in
unfoldable pub guard_effect : (List ℕ → List ℕ) → List (List ℕ) → List RootCall → List ℕ
    → Effect (Result Accepted WatcherRefusal)
guard_effect dig records log bytes =
    guard_by log (guards_in dig records) (links_handed dig (who_is records).tag log bytes)

-- the guard of a coin at a tip is let go
unfoldable pub release_effect : (List ℕ → List ℕ) → List (List ℕ) → ℕ → ℕ → Effect (Result Unit WatcherRefusal)
release_effect dig records coin tip =
    if list_any (is_of coin tip) (guards_in dig records)
    then record { answer = Ok tt; note = Some (note_text (Released coin tip)) }
    else only (Err NoGuard)

-- what is due for a kept coin; nothing where the log doesn't have it
abbrev pub due_for_kept : List ℕ → List RootCall → ℕ → Bundle → List RootCall
due_for_kept tag log account kept =
    option_map_or (λ links. due_of log account (record { links = links })) (kept_links tag log kept) []

-- what is due for the guards, in the order of coins and tips
unfoldable pub watch_answer : (List ℕ → List ℕ) → List (List ℕ) → List RootCall → List RootCall
watch_answer dig records log =
    flat_map (due_for_kept (who_is records).tag log (who_is records).account) (guards_in dig records)
