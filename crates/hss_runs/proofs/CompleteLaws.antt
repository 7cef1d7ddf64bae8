-- A run of a signer over good disks is done, unless something fails.
use Rattle.hss_runs.proofs.Words.{◌≡◌, ℕ, true, List, [], Option, Some, Result, Ok, inl, inr, refl, sym, ap, ◌∙◌, subst, History, FaultPlan, content, JournalRefusal, JournalPlace, NotesState, Opened, RefusesRole, Status, IsDoneUnlessFailed, fault_output, refused_output, entries_of, level_records_in, NextLeaf, signer_kinds, seed_of, is_signable, next_leaf, Signing, signs, signing, said_output, RefusesSigner, Signs, RunsSigner}
use Rattle.node_journal.specs.Role.{role_in}
use Rattle.run_endings.proofs.EndingLaws.{ends-done}
use Rattle.hss_runs.specs.Complete.{SigningComplete}

same-ok : (result : Result (List (List ℕ)) ℕ) (x y : List (List ℕ)) → result ≡ Ok x → result ≡ Ok y → x ≡ y
same-ok result x y first second = cc (first, second)

-- an opening that wasn't refused for what the disk keeps
refused-may : (why : JournalRefusal) → ((place : ℕ) → why ≡ JournalPlace place → ⊥)
    → IsDoneUnlessFailed (refused_output why).status
refused-may (JournalPlace place) own = absurd (own place refl)
refused-may why own = tt

-- a message that may be signed is signed by the leaf that is next
signing-is : (records levels : List (List ℕ)) (message : List ℕ) (next : NextLeaf) → is_signable message ≡ true
    → next_leaf (seed_of records) (entries_of levels) ≡ Some next
    → signing (seed_of records) levels message ≡ signs (seed_of records) message next
unfolding signing
signing-is records levels message next signable is = rw (signable, is) refl

module _ {D : Type 0} (told : D → Option History) (plan : D → Option FaultPlan) (faults : D → ℕ)
    (taken after : Option (List ℕ)) (status : Status) where
  -- no reader refuses an image that it reads
  own-image : (read : List ℕ → Result (List (List ℕ)) ℕ) (old new : D) (history : History) (records : List (List ℕ))
      → told old ≡ Some history → read (content history) ≡ Ok records → (why : JournalRefusal)
      → RefusesRole told plan faults read old why new → (place : ℕ) → why ≡ JournalPlace place → ⊥
  own-image read old new history records is reads why refuses place foreign =
      let refused = subst (λ w. RefusesRole told plan faults read old w new) foreign refuses in
      let wrong = refused.refused.1 history is in cc (reads, wrong)

  -- what is signed is said
  signs-done : (signing : Signing) (text : List ℕ) (old new : NotesState D) → signing.says ≡ Ok text
      → Signs told plan faults taken after status signing old new → IsDoneUnlessFailed status
  signs-done signing text old new says (inl whole) =
      ends-done (said_output signing.says) status _ _ _
      (subst (λ (s : Result (List ℕ) (List ℕ)). IsDoneUnlessFailed (said_output s).status) (sym says) tt) whole.ends
  signs-done signing text old new says (inr (inl part)) = ends-done (fault_output []) status _ _ _ tt part.ends
  signs-done signing text old new says (inr (inr nothing)) = subst IsDoneUnlessFailed (sym nothing.is) tt

  module _ (notes leaves : D) (of_notes of_leaves : History) (records levels : List (List ℕ))
      (notes_told : told notes ≡ Some of_notes) (leaves_told : told leaves ≡ Some of_leaves)
      (notes_are : role_in signer_kinds (content of_notes) ≡ Ok records)
      (leaves_are : level_records_in (seed_of records) (content of_leaves) ≡ Ok levels) where
    opened-notes : (opened : NotesState D) → Opened told plan faults (role_in signer_kinds) notes opened
        → records ≡ opened.records
    opened-notes opened opens = same-ok _ records opened.records notes_are (opens.kept of_notes notes_told)

    leaves-behind : (opened : NotesState D) → Opened told plan faults (role_in signer_kinds) notes opened
        → level_records_in (seed_of opened.records) (content of_leaves) ≡ Ok levels
    leaves-behind opened opens =
        subst (λ (rs : List (List ℕ)). level_records_in (seed_of rs) (content of_leaves) ≡ Ok levels)
        (opened-notes opened opens) leaves_are

    not-foreign : (new_notes new_leaves : D) (why : JournalRefusal)
        → RefusesSigner told plan faults notes leaves why new_notes new_leaves
        → (place : ℕ) → why ≡ JournalPlace place → ⊥
    not-foreign new_notes new_leaves why (inl (refuses, same)) =
        own-image (role_in signer_kinds) notes new_notes of_notes records notes_told notes_are
        why refuses
    not-foreign new_notes new_leaves why (inr (opened, opens, (same, refuses))) =
        own-image (level_records_in (seed_of opened.records)) leaves new_leaves of_leaves levels
        leaves_told (leaves-behind opened opens) why refuses

  pub signing-complete : (message : List ℕ) (notes leaves new_notes new_leaves : D)
      → RunsSigner told plan faults taken after status message notes leaves new_notes new_leaves
      → SigningComplete told status message notes leaves
  signing-complete message notes leaves new_notes new_leaves (inl ran) of_notes of_leaves records levels next notes_told
      leaves_told notes_are leaves_are signable is =
      let of_n =
      opened-notes notes leaves of_notes of_leaves records levels notes_told leaves_told notes_are leaves_are ran.opened
      ran.opens.opens_notes in
      let of_l =
      same-ok _ levels ran.levels.records
      (leaves-behind notes leaves of_notes of_leaves records levels notes_told leaves_told notes_are leaves_are
      ran.opened ran.opens.opens_notes)
      (ran.opens.opens_leaves.kept of_leaves leaves_told) in
      signs-done _ _ ran.levels ran.last
      (ap (λ (s : Signing). s.says)
      ((λ i. signing (seed_of (sym of_n i)) (sym of_l i) message) ∙ signing-is records levels message next signable is))
      ran.signs
  signing-complete message notes leaves new_notes new_leaves (inr refused) of_notes of_leaves records levels next
      notes_told leaves_told notes_are leaves_are signable is =
      ends-done (refused_output refused.why) status _ _ _
      (refused-may refused.why
      (not-foreign notes leaves of_notes of_leaves records levels notes_told leaves_told notes_are leaves_are new_notes
      new_leaves refused.why refused.refuses)) refused.ends
