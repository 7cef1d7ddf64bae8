-- What a call leaves of the disks of a signer: what stood there stands, and so does what a signing added.
use Rattle.std.proofs.Common.{◌≡◌, ◌⊎◌, ℕ, Bool, true, if◌then◌else◌, List, [], ◌∷◌, ◌++◌, length, map, take, Option, Some, None, Result, Ok, Err, refl, sym, ap, ◌∙◌, subst, inl, inr, arith}
use Rattle.std.specs.Prelude.{unwrap_or, ◌==◌}
use Rattle.std.specs.Result.{is_ok}
use Rattle.std.proofs.lemmas.Grind.{common_steps}
use Rattle.crash_disk.specs.Disk.{History, content, FaultPlan}
use Rattle.crash_disk.specs.Calls.{WhereTold}
use Rattle.crash_disk.proofs.Left.{content_may_be_left}
use Rattle.gate_journal.specs.Journal.{IsSettled}
use Rattle.gate_journal.specs.Life.{Continue}
use Rattle.gate_journal.specs.declared.refusal.JournalRefusal.{JournalRefusal}
use Rattle.gate_journal.specs.declared.refusal.JournalRefusal.TheVariants.{NotJournal as PlaceRefusal}
use Rattle.gate_journal.proofs.Lives.{itself, in_from, in_keeps}
use Rattle.node_journal.specs.Notes.{NotesState, Opened, RefusesRole}
use Rattle.node_journal.specs.Role.{are_of, role_in}
use Rattle.run_endings.specs.declared.status.Status.{Status}
use Rattle.run_endings.specs.declared.status.Status.TheVariants.{Done, NotJournal}
use Rattle.run_endings.specs.Endings.{fault_output}
use Rattle.node_runs.specs.Endings.{refused_output}
use Rattle.node_runs.specs.Sessions.{Outside}
use Rattle.hss_keys.specs.declared.seed.HssSeed.{HssSeed}
use Rattle.hss_keys.specs.Entries.{entry_text}
use Rattle.hss_keys.specs.Form.{level_records, level_records_in, are_level_records}
use Rattle.hss_keys.proofs.Form.{all_same}
use Rattle.hss_keys.proofs.Lives.{in_image}
use Rattle.hss_runs.specs.Identity.{identity_text, seed_in, seed_of, signer_kinds, signer_seed}
use Rattle.hss_runs.specs.Signing.{signing, said_output}
use Rattle.hss_runs.specs.Runs.{Signs, SignerRan, RefusesSigner, RunsSigner}
use Rattle.node_lives.specs.Disks.{Pair, BothTell}
use Rattle.node_lives.specs.Calls.{Begun, Asked, ToBegin, ToRun, ToSign, ToUseNoDisk, DoesAsked, Starves, Call}
use Rattle.node_lives.specs.Standing.{kinds_of}
use Rattle.node_lives.proofs.Stays.{further, StayTold, settled-stays, earlier-stays}
use Rattle.node_lives.proofs.Roles.{role-found, role-recorded, kinds-apart, signer-apart}
use Rattle.node_lives.proofs.Statuses.{ends-other, refused-other}
use Rattle.node_lives.proofs.Foreign.{QuietBoth, asked-quiet, starves-quiet}
use Rattle.node_lives.proofs.Taken.{AllRecorded}
use Rattle.node_lives.proofs.Opens.{tells-some, opened-quiet, Opening, opening}
use Rattle.key_lives.specs.Signers.{SignerRun, left_by, SignerStands, adds_all, signer_run, signer_run_by, signer_run_in}
use Rattle.key_lives.proofs.Growth.{EachFront, front-is, all-is, AreOfKey, signing-fronts}

-- which calls are a signer's own
abbrev pub IsSigning : Asked → Type 0
IsSigning (ToSign message) = Unit {0}
IsSigning asked = ⊥

-- records that are tested so are all that is read
are-all : (seed : HssSeed) (records : List (List ℕ)) → are_level_records seed records ≡ true
    → level_records seed records ≡ Ok records
are-all seed records is = grind (arith, common_steps, all_same) steps 20000

-- what a signing says is no lack of a journal
said-other : (says : Result (List ℕ) (List ℕ)) → (said_output says).status ≡ NotJournal → ⊥
said-other (Ok text) is = cc
said-other (Err cause) is = cc

-- an identity's seed
pub identity-seed : (seed : List ℕ) → length seed ≡ 32 → seed_in (identity_text seed) ≡ Some seed
unfolding seed_in identity_text
identity-seed seed long = ap (λ (n : ℕ). if n == 32 then Some seed else None) long

-- the keys of records that go on behind it are made from that
seed-on : (seed : List ℕ) → length seed ≡ 32 → (records : List (List ℕ)) → Continue (identity_text seed ∷ []) records
    → seed_of records ≡ signer_seed seed
unfolding seed_of
seed-on seed long records on =
    ap seed_of on.1 ∙ ap (λ (o : Option (List ℕ)). signer_seed (unwrap_or o [])) (identity-seed seed long)

module _ {D : Type 0} (told : D → Option History) (plan : D → Option FaultPlan) (faults : D → ℕ)
    (dig : List ℕ → List ℕ) (seed : List ℕ) (long : length seed ≡ 32) where
  abbrev key : HssSeed
  key = signer_seed seed

  abbrev Stands : List (List ℕ) → Pair D → Type 0
  Stands records pair = SignerStands told plan faults dig seed records pair

  -- what a run found and left, over disks on which these records of the leaves stood
  pub record RunGoes (first : List (List ℕ)) (new : Pair D) (run : SignerRun) : Type 0 where
    pub seed_is : run.seed ≡ key
    pub found : Continue first run.found
    pub are : level_records key run.found ≡ Ok run.found
    pub left : Stands (left_by run) new
    pub on : Continue first (left_by run)

  -- what a call is and leaves over such disks
  pub record CallGoes (first : List (List ℕ)) (asked : Asked) (status : Status) (new : Pair D)
      (run : Option SignerRun) : Type 0 where
    pub signs : (message : List ℕ) → asked ≡ ToSign message → status ≡ NotJournal → ⊥
    pub begins : (disks : Begun) (identity : List ℕ) → asked ≡ ToBegin disks identity → status ≡ Done → ⊥
    pub stands : Stands first new
    pub goes : (one : SignerRun) → run ≡ Some one → RunGoes first new one

  -- ---- a signing over leaves that were opened

  module _ (message : List ℕ) (now : HssSeed) (same : now ≡ key) (levels last : NotesState D)
      (are : level_records key levels.records ≡ Ok levels.records)
      (settled : WhereTold (told levels.disk) (λ h. IsSettled h levels.records)) (taken after : Option (List ℕ))
      (status : Status) where
    abbrev run : Bool → SignerRun
    run added = record { seed = now; message = message; found = levels.records; is_added = added }

    abbrev texts : List (List ℕ)
    texts = map entry_text (signing now levels.records message).adds

    fronts : EachFront (AreOfKey seed) levels.records texts
    fronts =
        subst (λ (s : HssSeed). EachFront (AreOfKey seed) levels.records
        (map entry_text (signing s levels.records message).adds)) (sym same)
        (signing-fronts seed levels.records message are)

    -- the run's status is no lack of a journal, and what it left stands
    record LeavesGo (added : Bool) : Type 0 where
      runs : status ≡ NotJournal → ⊥
      stays : StayTold (are_level_records key) (left_by (run added)) (told last.disk)
      on : Continue levels.records (left_by (run added))

    signs-go : (signs : Signs told plan faults taken after status (signing now levels.records message) levels last)
        → LeavesGo (adds_all told plan faults dig signs)
    signs-go (inl whole) = record {
      runs =
          ends-other (said_output (signing now levels.records message).says) status NotJournal taken after ⊥ whole.ends
          (said-other (signing now levels.records message).says) (λ wrong. cc) (λ wrong. cc);
      stays = λ h is.
          settled-stays (are_level_records key) (levels.records ++ texts) (levels.records ++ texts) h
          (whole.settled h is) (ap is_ok (all-is (AreOfKey seed) levels.records texts fronts))
          (itself (levels.records ++ texts));
      on = (texts, refl);
    }
    signs-go (inr (inl part)) = record {
      runs =
          ends-other (fault_output []) status NotJournal taken after ⊥ part.ends (λ wrong. cc) (λ wrong. cc)
          (λ wrong. cc);
      stays = λ h is image may.
          (let kept = part.left h is image may in (
            levels.records ++ take kept.0 texts,
            in_from (are_level_records key) image (levels.records ++ take kept.0 texts) kept.1
                (ap is_ok (front-is (AreOfKey seed) levels.records texts fronts kept.0)),
            (take kept.0 texts, refl),
          ));
      on = itself levels.records;
    }
    signs-go (inr (inr nothing)) = record {
      runs = λ wrong. (let is = nothing.is in cc (is, wrong));
      stays = λ h is.
          settled-stays (are_level_records key) levels.records levels.records h
          (settled h (ap (λ (n : NotesState D). told n.disk) (sym nothing.stays) ∙ is)) (ap is_ok are)
          (itself levels.records);
      on = itself levels.records;
    }

  -- ---- a signing over disks on which records stand

  module _ (first : List (List ℕ)) (old new : Pair D) (outside : Outside) (status : Status)
      (tells : BothTell told old) (stand : Stands first old) where
    abbrev Goes : Asked → Option SignerRun → Type 0
    Goes asked ran = CallGoes first asked status new ran

    notes : Opening (are_of signer_kinds) (role_in signer_kinds) told plan faults (identity_text seed ∷ []) old.notes
    notes =
        opening (are_of signer_kinds) (role_in signer_kinds) told plan faults (identity_text seed ∷ []) old.notes
        (role-found signer_kinds) tells.0 stand.0

    leaves : Opening (are_level_records key) (level_records_in key) told plan faults first old.leaves
    leaves =
        opening (are_level_records key) (level_records_in key) told plan faults first old.leaves
        (λ image records keeps is. in_image key image records keeps (are-all key records is)) tells.1 stand.1

    none-goes : (asked : Asked) → ((message : List ℕ) → asked ≡ ToSign message → status ≡ NotJournal → ⊥)
        → ((disks : Begun) (identity : List ℕ) → asked ≡ ToBegin disks identity → status ≡ Done → ⊥)
        → Stands first new → Goes asked None
    none-goes asked signs begins stands = grind (arith, common_steps) steps 20000

    ran-goes : (message : List ℕ)
        → (ran : SignerRan told plan faults outside.taken outside.after status message old.notes old.leaves new.notes
        new.leaves)
        → Goes (ToSign message)
        (Some (record {
          seed = seed_of ran.opened.records;
          message = message;
          found = ran.levels.records;
          is_added = adds_all told plan faults dig ran.signs;
        }))
    ran-goes message ran =
        let now = seed_of ran.opened.records in
        let opens_notes = ran.opens.opens_notes in
        let same = seed-on seed long ran.opened.records (notes.finds ran.opened opens_notes).on in
        let opens_leaves = subst (λ (s : HssSeed). Opened told plan faults (level_records_in s) old.leaves ran.levels)
        same ran.opens.opens_leaves in
        let finds = leaves.finds ran.levels opens_leaves in
        let are = are-all key ran.levels.records finds.is in
        let goes = signs-go message now same ran.levels ran.last are opens_leaves.settled outside.taken outside.after
        status ran.signs in
        let run : SignerRun = record {
          seed = now;
          message = message;
          found = ran.levels.records;
          is_added = adds_all told plan faults dig ran.signs;
        } in
        let note_stays = notes.quiet new.notes
        (opened-quiet told plan faults _ old.notes ran.opened new.notes opens_notes ran.notes_are) in
        let left : StayTold (are_level_records key) (left_by run) (told new.leaves) =
        subst (λ (d : D). StayTold (are_level_records key) (left_by run) (told d)) (sym ran.leaves_are) goes.stays in
        let on = further first ran.levels.records (left_by run) finds.on goes.on in
        record {
          signs = λ one asked. goes.runs;
          begins = λ disks identity wrong. absurd (cc wrong);
          stands = (
            note_stays,
            λ h is. earlier-stays (are_level_records key) first (left_by run) h on (left h is),
          );
          goes = λ one is.
              (let this : run ≡ one = cc is in
              subst (RunGoes first new) this
              (record { seed_is = same; found = finds.on; are = are; left = (note_stays, left); on = on }));
        }

    refused-goes : (message : List ℕ) (why : JournalRefusal)
        → RefusesSigner told plan faults old.notes old.leaves why new.notes new.leaves
        → ((place : ℕ) → why ≡ PlaceRefusal place → ⊥) × Stands first new
    refused-goes message why (inl (refuses, same)) = (
      notes.place why new.notes refuses.refused,
      (
        notes.refused why new.notes refuses.refused,
        subst (λ (d : D). StayTold (are_level_records key) first (told d)) (sym same) stand.1,
      ),
    )
    refused-goes message why (inr (opened, opens, (handed, refuses))) =
        let same = seed-on seed long opened.records (notes.finds opened opens).on in
        let behind = subst (λ (s : HssSeed). RefusesRole told plan faults (level_records_in s) old.leaves why
        new.leaves) same refuses in (
          leaves.place why new.leaves behind.refused,
          (
            notes.quiet new.notes (opened-quiet told plan faults _ old.notes opened new.notes opens handed),
            leaves.refused why new.leaves behind.refused,
          ),
        )

    signing-goes : (message : List ℕ)
        → (did : RunsSigner told plan faults outside.taken outside.after status message old.notes old.leaves new.notes
        new.leaves)
        → Goes (ToSign message) (signer_run told plan faults dig message old new outside status did)
    unfolding signer_run
    signing-goes message (inl ran) = ran-goes message ran
    signing-goes message (inr refused) =
        let parts = refused-goes message refused.why refused.refuses in
        none-goes (ToSign message)
        (λ one asked. ends-other (refused_output refused.why) status NotJournal outside.taken outside.after ⊥
        refused.ends (refused-other refused.why parts.0) (λ wrong. cc) (λ wrong. cc))
        (λ disks identity wrong. absurd (cc wrong)) parts.1

    -- ---- any other call

    all-recorded : AllRecorded (told old.notes)
    all-recorded now is image may =
        (let there = stand.0 now is image may in
        let parts = in_keeps (are_of signer_kinds) image there.0 there.1 in
        role-recorded signer_kinds image there.0 parts.0 parts.1)

    quiet-stand : QuietBoth told plan faults dig old new → Stands first new
    quiet-stand quiet = (
      notes.quiet new.notes quiet.notes,
      subst (λ (d : D). StayTold (are_level_records key) first (told d)) (sym quiet.leaves) stand.1,
    )

    foreign-goes : (asked : Asked) → (IsSigning asked → ⊥) → DoesAsked told plan faults dig asked old new outside status
        → ((disks : Begun) (identity : List ℕ) → asked ≡ ToBegin disks identity → status ≡ Done → ⊥) × Stands first new
    foreign-goes asked never did =
        let h = tells-some (told old.notes) tells.0 in
        let there = stand.0 h.0 h.1 (content h.0) (content_may_be_left h.0) in
        let parts = in_keeps (are_of signer_kinds) (content h.0) there.0 there.1 in
        let quiet = asked-quiet told plan faults dig IsSigning old new h.0 h.1 all-recorded
        (λ other apart found read. kinds-apart signer_kinds (kinds_of dig other)
        (λ body is also. signer-apart dig other body also is) (content h.0) there.0 found parts.0 parts.1 read)
        (λ message apart found read. apart tt) asked outside status never did in
        (quiet.0, quiet-stand quiet.1)

    -- no signing
    other-goes : (asked : Asked) → (IsSigning asked → ⊥) → ((message : List ℕ) → asked ≡ ToSign message → ⊥)
        → DoesAsked told plan faults dig asked old new outside status → Goes asked None
    other-goes asked never unsigned did =
        let parts = foreign-goes asked never did in
        record {
          signs = λ message wrong. absurd (unsigned message wrong);
          begins = parts.0;
          stands = parts.1;
          goes = λ one is. absurd (cc is);
        }

    starved-goes : (asked : Asked) → Starves old new status → Goes asked None
    starved-goes asked starves =
        (let quiet = starves-quiet told plan faults dig old new status starves in
        record {
          signs = λ message wrong is. (let none = quiet.0 in cc (none, is));
          begins = λ disks identity wrong is. (let none = quiet.0 in cc (none, is));
          stands = quiet-stand quiet.1;
          goes = λ one is. absurd (cc is);
        })

    by-goes : (asked : Asked)
        → (did : DoesAsked told plan faults dig asked old new outside status ⊎ Starves old new status)
        → Goes asked (signer_run_by told plan faults dig asked old new outside status did)
    unfolding signer_run_by
    by-goes (ToSign message) (inl did) = signing-goes message did
    by-goes (ToSign message) (inr starves) = starved-goes (ToSign message) starves
    by-goes (ToBegin disks identity) (inl did) =
        other-goes (ToBegin disks identity) (λ own. own) (λ message wrong. cc wrong) did
    by-goes (ToBegin disks identity) (inr starves) = starved-goes (ToBegin disks identity) starves
    by-goes (ToRun role) (inl did) = other-goes (ToRun role) (λ own. own) (λ message wrong. cc wrong) did
    by-goes (ToRun role) (inr starves) = starved-goes (ToRun role) starves
    by-goes ToUseNoDisk (inl did) = other-goes ToUseNoDisk (λ own. own) (λ message wrong. cc wrong) did
    by-goes ToUseNoDisk (inr starves) = starved-goes ToUseNoDisk starves

  pub call-goes : (first : List (List ℕ)) (call : Call told plan faults dig) → BothTell told call.old
      → Stands first call.old
      → CallGoes first call.asked call.status call.new (signer_run_in told plan faults dig call)
  call-goes first call tells stand =
      by-goes first call.old call.new call.outside call.status tells stand call.asked call.did
