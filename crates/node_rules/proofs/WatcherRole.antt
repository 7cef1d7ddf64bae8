-- What a watcher's command adds to its records, and how they are read then.
use Rattle.node_rules.proofs.Words.{◌≡◌, ℕ, Bool, true, false, if◌then◌else◌, List, [], ◌∷◌, ◌++◌, Option, Some, None, Ok, Err, refl, sym, ap, ◌∙◌, arith, Result, flat_map, cons_option, list_any, false≢true, common_steps, Effect, unless, only, are_of, may_follow, notes_follow, Links, RootCall, AreBytes, number_text, number_at, some_same, Bundle, HistoryRefusal, due_of, due_calls, kept_of, links_handed, IsReadBack}
use Rattle.node_rules.specs.declared.answers.Accepted.{Accepted}
use Rattle.node_rules.specs.declared.refusal.WatcherRefusal.{WatcherRefusal}
use Rattle.node_rules.specs.declared.refusal.WatcherRefusal.TheVariants.{NoGuard}
use Rattle.node_rules.specs.Watcher.{Note, Guarded, Released, note_text, note_in, tag_in, watcher_kinds, who_is, notes_of, is_of, guards_in, guard_by, guard_effect, release_effect, due_for_kept, watch_answer}
use Rattle.node_rules.specs.WatcherLaws.{KeepsRole, CommandsKeepTheRole, AddsNote, AddsGuard, CommandsAddTheirNotes, guards_shown, WatchersDoTheirDuty}
use Rattle.node_rules.proofs.KeptTexts.{handed-back}
use Rattle.node_rules.proofs.OneMore.{if_some-each, reverse-grow}
use Rattle.node_rules.proofs.WatcherTexts.{note_in-text, released-some}

-- ---- one more record

-- records begin with the identity that has their tag
pub tag-same : (identity : List ℕ) (notes : List (List ℕ)) → (who_is (identity ∷ notes)).tag ≡ tag_in identity
unfolding who_is
tag-same identity notes = grind (arith, common_steps) steps 20000

-- it is the same behind each of them
pub who-same : (identity : List ℕ) (notes more : List (List ℕ))
    → who_is ((identity ∷ notes) ++ more) ≡ who_is (identity ∷ notes)
unfolding who_is
who-same identity notes more = refl

-- the notes with one more record: that of the record, where it spells one, before them
pub notes-grow : (dig : List ℕ → List ℕ) (identity : List ℕ) (notes : List (List ℕ)) (body : List ℕ)
    → notes_of dig ((identity ∷ notes) ++ body ∷ [])
    ≡ cons_option (note_in dig (who_is (identity ∷ notes)).tag body) (notes_of dig (identity ∷ notes))
unfolding notes_of
notes-grow dig identity notes body = grind (arith, common_steps, who-same, reverse-grow) steps 20000

-- a record that spells a note may stand behind an identity, and is read as it
module _ (dig : List ℕ → List ℕ) (records : List (List ℕ)) (role : are_of (watcher_kinds dig) records ≡ true)
    (body : List ℕ) (note : Note) (is : note_in dig (who_is records).tag body ≡ Some note) where
  follows-at : (all : List (List ℕ)) → are_of (watcher_kinds dig) all ≡ true
      → note_in dig (who_is all).tag body ≡ Some note → may_follow (watcher_kinds dig) all body ≡ true
  follows-at all wrong spells = grind (arith, common_steps, false≢true, tag-same) steps 20000

  pub note-keeps : KeepsRole dig records body
  note-keeps = grind (arith, common_steps, follows-at, notes_follow) steps 20000

  adds-at : (all : List (List ℕ)) → are_of (watcher_kinds dig) all ≡ true
      → note_in dig (who_is all).tag body ≡ Some note → AddsNote dig all note body
  adds-at all wrong spells = grind (arith, common_steps, false≢true, who-same, notes-grow) steps 20000

  pub note-adds : AddsNote dig records note body
  note-adds = adds-at records role is

-- ---- what is added

noted : (failed : Option WatcherRefusal) (effect : Effect (Result Accepted WatcherRefusal)) (body : List ℕ)
    → (unless failed effect).note ≡ Some body → effect.note ≡ Some body
noted None effect body is = is
noted (Some why) effect body is = absurd (cc is)

taken : (known : Bool) (text body : List ℕ) → (if known then None else Some text) ≡ Some body → text ≡ body
taken true text body is = absurd (cc is)
taken false text body is = some_same text body is

guard-note : (log : List RootCall) (guards : List Bundle) (handed : Result Links HistoryRefusal) (body : List ℕ)
    → (guard_by log guards handed).note ≡ Some body
    → (links : Links) × (handed ≡ Ok links) × (note_text (Guarded (kept_of links)) ≡ body)
guard-note log guards handed body is = grind (arith, common_steps, taken, noted) steps 20000

-- the record of a guard is that of the links that were handed in
pub guard-adds : (dig : List ℕ → List ℕ) (records : List (List ℕ)) (log : List RootCall) (bytes body : List ℕ)
    → AreBytes bytes → (guard_effect dig records log bytes).note ≡ Some body
    → (links : Links) × (links_handed dig (who_is records).tag log bytes ≡ Ok links)
    × IsReadBack dig (who_is records).tag log links
    × (note_in dig (who_is records).tag body ≡ Some (Guarded (kept_of links)))
unfolding guard_effect
guard-adds dig records log bytes body small is =
    let tag = (who_is records).tag in
    let found = guard-note log (guards_in dig records) (links_handed dig tag log bytes) body is in
    let back = handed-back dig tag log bytes found.0 small found.1 in (
      found.0,
      found.1,
      back,
      ap (note_in dig tag) (sym found.2) ∙ note_in-text dig tag (Guarded (kept_of found.0)) back.is_kept,
    )

released : (has : Bool) (text body : List ℕ)
    → (if has then record { answer = Ok tt; note = Some text }
    else only {A = Result Unit WatcherRefusal} (Err NoGuard)).note ≡ Some body → text ≡ body
released true text body is = some_same text body is
released false text body is = absurd (cc is)

pub release-adds : (dig : List ℕ → List ℕ) (records : List (List ℕ)) (coin tip : ℕ) (body : List ℕ)
    → (release_effect dig records coin tip).note ≡ Some body → note_text (Released coin tip) ≡ body
unfolding release_effect
release-adds dig records coin tip body is =
    released (list_any (is_of coin tip) (guards_in dig records)) (note_text (Released coin tip)) body is

pub commands_keep_the_role : CommandsKeepTheRole
commands_keep_the_role dig records log bytes coin tip role small = (
  if_some-each (guard_effect dig records log bytes).note (KeepsRole dig records)
      (λ body is.
      let added = guard-adds dig records log bytes body small is in
      note-keeps dig records role body (Guarded (kept_of added.0)) added.3),
  if_some-each (release_effect dig records coin tip).note (KeepsRole dig records)
      (λ body is.
      note-keeps dig records role body
      (Released (number_at (number_text coin ++ number_text tip) 0)
      (number_at (number_text coin ++ number_text tip) 8))
      (ap (note_in dig (who_is records).tag) (sym (release-adds dig records coin tip body is))
      ∙ released-some dig (who_is records).tag coin tip)),
)

pub commands_add_their_notes : CommandsAddTheirNotes
commands_add_their_notes dig records log bytes coin tip role small coin_fits tip_fits = (
  if_some-each (guard_effect dig records log bytes).note (AddsGuard dig records log bytes)
      (λ body is.
      let added = guard-adds dig records log bytes body small is in (
        added.0,
        added.1,
        added.2,
        note-adds dig records role body (Guarded (kept_of added.0)) added.3,
      )),
  if_some-each (release_effect dig records coin tip).note (AddsNote dig records (Released coin tip))
      (λ body is.
      note-adds dig records role body (Released coin tip)
      (ap (note_in dig (who_is records).tag) (sym (release-adds dig records coin tip body is))
      ∙ note_in-text dig (who_is records).tag (Released coin tip) (coin_fits, tip_fits))),
)

-- ---- what is due

due-shown : (tag : List ℕ) (log : List RootCall) (account : ℕ) (kept : List Bundle)
    → flat_map (due_for_kept tag log account) kept
    ≡ flat_map (due_of log account) (guards_shown tag log kept)
due-shown tag log account [] = refl
due-shown tag log account (one ∷ kept) = grind (arith, common_steps, due-shown tag log account kept) steps 20000

pub watchers_do_their_duty : WatchersDoTheirDuty
unfolding watch_answer due_calls
watchers_do_their_duty dig records log =
    due-shown (who_is records).tag log (who_is records).account (guards_in dig records)
