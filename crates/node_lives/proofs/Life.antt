-- What stands on a node's disks stands behind each later call.
use Rattle.std.proofs.Common.{◌≡◌, ◌⊎◌, ℕ, true, List, [], ◌∷◌, ◌++◌, Option, Some, None, sym, ap, ◌∙◌, subst, inl, inr, arith}
use Rattle.std.specs.List.{All, AllByRecursion}
use Rattle.std.proofs.lemmas.List.Elements.{All-from_recursion, All-weaker}
use Rattle.std.proofs.lemmas.Grind.{common_steps}
use Rattle.crash_disk.specs.Disk.{History, content, MayLeave, FaultPlan}
use Rattle.crash_disk.proofs.Left.{content_may_be_left, fresh_disk_leaves_itself}
use Rattle.gate_journal.specs.Journal.{Keeps}
use Rattle.node_journal.specs.Role.{are_of}
use Rattle.gate_journal.proofs.Lives.{in_keeps}
use Rattle.node_rules.specs.Wallet.{WalletRecords}
use Rattle.node_rules.proofs.WalletGrow.{wallet-parts}
use Rattle.node_replies.specs.Roles.{Role, Wallet, Watcher, Operator}
use Rattle.run_endings.specs.declared.status.Status.{Status}
use Rattle.run_endings.specs.declared.status.Status.TheVariants.{Done, NotJournal}
use Rattle.operator_rules.specs.Records.{who_is}
use Rattle.node_runs.specs.Sessions.{Outside}
use Rattle.node_lives.specs.Disks.{Pair}
use Rattle.node_lives.specs.Calls.{Begun, Asked, ToBegin, ToRun, DoesAsked, Starves, Call}
use Rattle.node_lives.specs.Disks.{Lies, Stays, Crashed, BothLie, BothTell}
use Rattle.node_lives.specs.Lives.{LieBehind, IsLife}
use Rattle.node_lives.specs.Standing.{identity_alone, kinds_of, LeavesStay, Stand}
use Rattle.node_lives.specs.Laws.{FindsTheNode, BegunNodesStay}
use Rattle.node_lives.proofs.Quiet.{LeavesNoMore}
use Rattle.node_lives.proofs.Taken.{AllRecorded}
use Rattle.node_lives.proofs.Stays.{quiet-stays}
use Rattle.node_lives.proofs.Roles.{role-recorded, none-other, none-signer}
use Rattle.node_lives.proofs.Foreign.{QuietBoth, asked-quiet, starves-quiet}
use Rattle.node_lives.proofs.Seeds.{Seeded, alone-seeded}
use Rattle.node_lives.proofs.Opens.{tells-some}
use Rattle.node_lives.proofs.OwnRuns.{run-on}
use Rattle.node_lives.proofs.Begun.{begun-stands}

-- the call runs a node of the role, or it doesn't
own-run : (asked : Asked) (role : Role) → (asked ≡ ToRun role) ⊎ (asked ≡ ToRun role → ⊥)
own-run asked role = grind (arith, common_steps) steps 20000

module _ {D : Type 0} (told : D → Option History) (plan : D → Option FaultPlan) (faults : D → ℕ)
    (dig : List ℕ → List ℕ) where
  -- ---- between two calls

  pub lies-no-more : (left next : D) → Lies told left next → (now : History) → told next ≡ Some now
      → (before : History) × (told left ≡ Some before) × LeavesNoMore before now
  lies-no-more left next (Stays same) now is = (now, ap told (sym same) ∙ is, λ image may. may)
  lies-no-more left next (Crashed before image was may there) now is =
      grind (arith, common_steps, fresh_disk_leaves_itself) steps 20000

  -- an operator's leaves, where it has a key
  leaves-lie : (seed : Option (List ℕ)) (leaves : List (List ℕ)) (left next : D) → Lies told left next
      → LeavesStay dig told seed leaves left → LeavesStay dig told seed leaves next
  leaves-lie None leaves left next lie stay = tt
  leaves-lie (Some seed) leaves left next lie stay = λ now is image may.
      (let there = lies-no-more left next lie now is in stay there.0 there.1 image (there.2 image may))

  pub lies-stand : (role : Role) (first : WalletRecords) (left next : Pair D) → BothLie told left next
      → Stand dig told role first left → Stand dig told role first next
  lies-stand Wallet first left next lie stand = λ n is l also one other may leaves.
      let notes = lies-no-more left.notes next.notes lie.0 n is in
      let others = lies-no-more left.leaves next.leaves lie.1 l also in
      stand notes.0 notes.1 others.0 others.1 one other (notes.2 one may) (others.2 other leaves)
  lies-stand Watcher first left next lie stand = λ now is image may.
      (let notes = lies-no-more left.notes next.notes lie.0 now is in stand notes.0 notes.1 image (notes.2 image may))
  lies-stand Operator first left next lie stand = (
    λ now is image may.
        (let notes = lies-no-more left.notes next.notes lie.0 now is in
        stand.0 notes.0 notes.1 image (notes.2 image may)),
    leaves-lie (who_is first.notes).key_seed first.leaves left.leaves next.leaves lie.1 stand.1,
  )

  -- the newest of some calls behind a first one
  abbrev pub newest : List (Call told plan faults dig) → Call told plan faults dig → Call told plan faults dig
  newest [] start = start
  newest (call ∷ calls) start = call

  pub lie-behind : (later earlier : List (Call told plan faults dig)) (start : Call told plan faults dig)
      (pair : Pair D)
      → LieBehind told plan faults dig (later ++ start ∷ earlier) pair → BothLie told (newest later start).new pair
  lie-behind [] earlier start pair lie = lie
  lie-behind (call ∷ later) earlier start pair lie = lie

  -- ---- a call

  -- what stands on the notes
  record NotesAre (role : Role) (image : List ℕ) : Type 0 where
    records : List (List ℕ)
    keeps : Keeps records image
    are : are_of (kinds_of dig role) records ≡ true

  notes-are : (role : Role) (first : WalletRecords) (pair : Pair D) → BothTell told pair
      → Stand dig told role first pair → (now : History) → told pair.notes ≡ Some now → (image : List ℕ)
      → MayLeave now image → NotesAre role image
  notes-are Wallet first pair tells stand now is image may =
      let l = tells-some (told pair.leaves) tells.1 in
      let there = stand now is l.0 l.1 image (content l.0) may (content_may_be_left l.0) in
      record {
        records = there.kept.notes;
        keeps = there.keeps_notes;
        are = (wallet-parts dig there.kept there.is).role;
      }
  notes-are Watcher first pair tells stand now is image may =
      let there = stand now is image may in
      let parts = in_keeps (are_of (kinds_of dig Watcher)) image there.0 there.1 in
      record { records = there.0; keeps = parts.0; are = parts.1 }
  notes-are Operator first pair tells stand now is image may =
      let there = stand.0 now is image may in
      let parts = in_keeps (are_of (kinds_of dig Operator)) image there.0 there.1 in
      record { records = there.0; keeps = parts.0; are = parts.1 }

  all-recorded : (role : Role) (first : WalletRecords) (pair : Pair D) → BothTell told pair
      → Stand dig told role first pair → AllRecorded (told pair.notes)
  all-recorded role first pair tells stand now is image may =
      (let are = notes-are role first pair tells stand now is image may in
      role-recorded (kinds_of dig role) image are.records are.keeps are.are)

  quiet-stand : (role : Role) (first : WalletRecords) (old new : Pair D) → BothTell told old
      → QuietBoth told plan faults dig old new → Stand dig told role first old → Stand dig told role first new
  quiet-stand Wallet first old new tells quiet stand = λ n is l also one other may left.
      let h = tells-some (told old.notes) tells.0 in
      stand h.0 h.1 l (ap told (sym quiet.leaves) ∙ also) one other (quiet.notes h.0 n h.1 is one may) left
  quiet-stand Watcher first old new tells quiet stand =
      (let h = tells-some (told old.notes) tells.0 in
      quiet-stays (are_of (kinds_of dig Watcher)) first.notes (told old.notes) (told new.notes) (λ now is. h)
      quiet.notes
      stand)
  quiet-stand Operator first old new tells quiet stand = (
    (let h = tells-some (told old.notes) tells.0 in
        quiet-stays (are_of (kinds_of dig Operator)) first.notes (told old.notes) (told new.notes) (λ now is. h)
        quiet.notes stand.0),
    subst (LeavesStay dig told (who_is first.notes).key_seed first.leaves) (sym quiet.leaves) stand.1,
  )

  module _ (role : Role) (first : WalletRecords) where
    -- the facts of a call, and what stands behind it
    pub record Kept (asked : Asked) (status : Status) (new : Pair D) : Type 0 where
      pub runs : asked ≡ ToRun role → status ≡ NotJournal → ⊥
      pub begins : (disks : Begun) (identity : List ℕ) → asked ≡ ToBegin disks identity → status ≡ Done → ⊥
      pub stands : Stand dig told role first new

    foreign-keeps : (asked : Asked) (old new : Pair D) (outside : Outside) (status : Status)
        → (asked ≡ ToRun role → ⊥) → BothTell told old → Stand dig told role first old
        → DoesAsked told plan faults dig asked old new outside status → Kept asked status new
    foreign-keeps asked old new outside status never tells stand did =
        let h = tells-some (told old.notes) tells.0 in
        let are = notes-are role first old tells stand h.0 h.1 (content h.0) (content_may_be_left h.0) in
        let quiet = asked-quiet told plan faults dig (λ one. one ≡ ToRun role) old new h.0 h.1
        (all-recorded role first old tells stand)
        (λ other apart found read. none-other dig role other (content h.0) are.records found
        (λ same. apart (ap (λ (r : Role). ToRun r) same)) are.keeps are.are read)
        (λ message apart found read. none-signer dig role (content h.0) are.records found are.keeps are.are read)
        asked outside status never did in
        record {
          runs = λ own wrong. never own;
          begins = quiet.0;
          stands = quiet-stand role first old new tells quiet.1 stand;
        }

  module _ (role : Role) (first : WalletRecords) (seeded : Seeded dig role first) where
    pub call-keeps : (call : Call told plan faults dig) → BothTell told call.old → Stand dig told role first call.old
        → Kept role first call.asked call.status call.new
    call-keeps call tells stand = by call.did
      where
        by : DoesAsked told plan faults dig call.asked call.old call.new call.outside call.status
            ⊎ Starves call.old call.new call.status
            → Kept role first call.asked call.status call.new
        by (inr starves) = grind (arith, common_steps, starves-quiet, quiet-stand) steps 20000
        by (inl did) = elim (own-run call.asked role) [
          | inr never ↦
              foreign-keeps role first call.asked call.old call.new call.outside call.status never tells stand did
          | inl own ↦
              (let kept = run-on told plan faults dig role first call.old call.new call.outside call.status seeded tells
              stand
              (subst (λ (a : Asked). DoesAsked told plan faults dig a call.old call.new call.outside call.status) own
              did)
              in
              record {
                runs = λ same. kept.runs;
                begins = λ other identity asked wrong. absurd (cc (own, asked));
                stands = kept.stands;
              })
        ]

    -- ---- calls

    -- what a later call is handed, and what it is then
    pub record StandsAt (call : Call told plan faults dig) : Type 0 where
      pub handed : Stand dig told role first call.old
      pub runs : call.asked ≡ ToRun role → call.status ≡ NotJournal → ⊥
      pub begins : (disks : Begun) (identity : List ℕ) → call.asked ≡ ToBegin disks identity → call.status ≡ Done → ⊥
      pub left : Stand dig told role first call.new

    calls-keep : (later earlier : List (Call told plan faults dig)) (start : Call told plan faults dig)
        → IsLife told plan faults dig (later ++ start ∷ earlier) → Stand dig told role first start.new
        → Stand dig told role first (newest later start).new × AllByRecursion StandsAt later
    unfolding IsLife
    calls-keep [] earlier start life stand = (stand, tt)
    calls-keep (call ∷ later) earlier start (tells, lie, life) stand =
        let before = calls-keep later earlier start life stand in
        let handed = lies-stand role first (newest later start).new call.old
        (lie-behind later earlier start call.old lie)
        before.0 in
        let kept = call-keeps call tells handed in (
          kept.stands,
          (record { handed = handed; runs = kept.runs; begins = kept.begins; left = kept.stands }, before.1),
        )

    pub stands-on : (later earlier : List (Call told plan faults dig)) (start : Call told plan faults dig)
        → IsLife told plan faults dig (later ++ start ∷ earlier) → Stand dig told role first start.new
        → All StandsAt later
    stands-on later earlier start life stand =
        All-from_recursion StandsAt later (calls-keep later earlier start life stand).1

  pub begun_nodes_stay : BegunNodesStay told plan faults dig
  begun_nodes_stay role later earlier first life begins =
      let alone = identity_alone begins.identity in
      let seeded = alone-seeded dig role begins.identity begins.is.digests in
      All-weaker (StandsAt role alone seeded) (FindsTheNode told plan faults dig role begins.identity)
      (λ call at. record {
        runs = at.runs;
        begins = at.begins;
        handed = at.handed;
        left = at.left;
      })
      later
      (stands-on role alone seeded later earlier first life (begun-stands told plan faults dig role first begins))
