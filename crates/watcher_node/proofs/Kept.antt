-- What is kept in memory of records.
use Rattle.watcher_node.proofs.Words.{◌≡◌, ℕ, true, List, [], ◌∷◌, ◌++◌, map, reverse, Option, None, Some, refl, ◌∙◌, ap, arith, filter_map, option_map, common_steps, WatcherIdentity, Note, identity_in, note_in, watcher_kinds, who_is, notes_of, KeptCoin, change_of, changed, watched_in, keyed, AreKeyed, IsKept}
use Rattle.crash_disk.specs.Disk.{History, FaultPlan}
use Rattle.node_journal.specs.Role.{are_of, may_follow}
use Rattle.node_journal.specs.Notes.{NotesState, Did}
use Rattle.node_journal.specs.declared.stop.Stop.{Stop}
use Rattle.watcher_node.specs.declared.watched.Change.{Change}
use Rattle.node_rules.proofs.WatcherRole.{note-keeps, note-adds}
use Rattle.watcher_node.proofs.Steps.{watched_in-more}

-- the identity of records, where the first one spells it
who-first : (first : List ℕ) (rest : List (List ℕ)) (who : WatcherIdentity) → identity_in first ≡ Some who
    → who_is (first ∷ rest) ≡ who
unfolding who_is
who-first first rest who is = rw is refl

kept-of : (dig : List ℕ → List ℕ) (first : List ℕ) (rest : List (List ℕ)) (who : WatcherIdentity)
    (all : List ((ℕ × ℕ) × KeptCoin)) → identity_in first ≡ Some who
    → AreKeyed all (watched_in who.tag (reverse (filter_map (note_in dig who.tag) rest)))
    → IsKept dig (first ∷ rest) who.tag who.account all
unfolding notes_of
kept-of dig first rest who all is are = grind (arith, common_steps, who-first) steps 20000

-- the tag and the account of an identity
abbrev named : WatcherIdentity → List ℕ × ℕ
named who = (who.tag, who.account)

tag-from : (found : Option WatcherIdentity) (pair : List ℕ × ℕ) → Some pair ≡ option_map named found
    → (who : WatcherIdentity) × (found ≡ Some who) × (pair ≡ named who)
tag-from None pair is = absurd (cc is)
tag-from (Some who) pair is = (who, refl, cc is)

pub kept-from : (dig : List ℕ → List ℕ) (records : List (List ℕ)) (first : List ℕ) (rest : List (List ℕ))
    (pair : List ℕ × ℕ) (all : List ((ℕ × ℕ) × KeptCoin)) → records ≡ first ∷ rest
    → Some pair ≡ option_map named (identity_in first)
    → AreKeyed all (watched_in pair.0 (reverse (filter_map (note_in dig pair.0) rest)))
    → IsKept dig records pair.0 pair.1 all
kept-from dig records first rest pair all records_are found are =
    let parts = tag-from (identity_in first) pair found in
    let who = parts.0 in
    let kept = kept-of dig first rest who all parts.1
    (are ∙ ap (λ (p : List ℕ × ℕ). map keyed (watched_in p.0 (reverse (filter_map (note_in dig p.0) rest)))) parts.2) in
    grind (arith, common_steps) steps 20000

-- the note of a record that spells a change
note-from : (tag : List ℕ) (found : Option Note) (change : Change) → Some change ≡ option_map (change_of tag) found
    → (note : Note) × (found ≡ Some note) × (change ≡ change_of tag note)
note-from tag None change is = absurd (cc is)
note-from tag (Some note) change is = (note, refl, cc is)

-- one more record that spells a change
pub kept-more : (dig : List ℕ → List ℕ) (records : List (List ℕ)) (body : List ℕ) (more : List (List ℕ)) (tag : List ℕ)
    (account : ℕ) (all after : List ((ℕ × ℕ) × KeptCoin)) (change : Change)
    → are_of (watcher_kinds dig) records ≡ true
    → more ≡ records ++ body ∷ []
    → Some change ≡ option_map (change_of (who_is records).tag) (note_in dig (who_is records).tag body)
    → ((guards : List KeptCoin) → guards ≡ watched_in (who_is records).tag (notes_of dig records)
    → AreKeyed all guards → AreKeyed after (changed change guards))
    → IsKept dig records tag account all → IsKept dig more tag account after
kept-more dig records body more tag account all after change role more_is spells taken kept =
    let who = who_is records in
    let read = note-from who.tag (note_in dig who.tag body) change spells in
    let adds = note-adds dig records role body read.0 read.1 in
    grind (arith, common_steps, watched_in-more) steps 20000

-- the records of notes stay where a call was stopped
module _ {D : Type 0} (told : D → Option History) (plan : D → Option FaultPlan) (faults : D → ℕ) where
  pub stopped-stays : (body : List ℕ) (old new : NotesState D) (stop : Stop)
      → Did told plan faults (Some body) old (Some stop) new → new.records ≡ old.records
  stopped-stays body old new stop did = grind (arith, common_steps) steps 20000

-- a record that spells a change may follow
pub change-follows : (dig : List ℕ → List ℕ) (records : List (List ℕ)) (body : List ℕ) (change : Change)
    → are_of (watcher_kinds dig) records ≡ true
    → Some change ≡ option_map (change_of (who_is records).tag) (note_in dig (who_is records).tag body)
    → may_follow (watcher_kinds dig) records body ≡ true
change-follows dig records body change role spells = grind (arith, common_steps, note-from, note-keeps) steps 20000
