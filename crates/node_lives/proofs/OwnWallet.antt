-- What a run of a wallet leaves on its two disks, where both are a wallet's: they stay so, with the records of the
-- lines that it answered.
use Rattle.std.proofs.Common.{◌≡◌, ◌≤◌, ◌<◌, ◌^◌, ℕ, List, Option, Some, None, Ok, refl, ap, subst, inl, inr, arith}
use Rattle.std.proofs.lemmas.Grind.{common_steps}
use Rattle.crash_disk.specs.Disk.{History, content, FaultPlan}
use Rattle.crash_disk.specs.Calls.{WhereTold}
use Rattle.crash_disk.proofs.Left.{content_may_be_left}
use Rattle.gate_journal.specs.Journal.{Keeps as KeepsRecords}
use Rattle.node_journal.specs.Notes.{NotesState, Opened}
use Rattle.node_journal.specs.Role.{role_in}
use Rattle.gate_journal.specs.declared.refusal.JournalRefusal.{JournalRefusal}
use Rattle.gate_journal.specs.declared.refusal.JournalRefusal.TheVariants.{NotJournal as PlaceRefusal}
use Rattle.leaf_journal.specs.Records.{leaf_records_in_of}
use Rattle.node_rules.specs.Wallet.{WalletRecords}
use Rattle.node_rules.specs.WalletRecords.{wallet_kinds, is_body}
use Rattle.node_rules.specs.WalletOpening.{leaves_of}
use Rattle.node_rules.proofs.WalletGrow.{AreWallet, wallet-parts}
use Rattle.streamed_lines.specs.declared.TheConstants.{MOST_LINES}
use Rattle.wallet_node.specs.State.{WalletState, notes_part, leaves_part}
use Rattle.wallet_node.specs.Opening.{OpensWallet, RefusesWallet}
use Rattle.node_replies.specs.Orders.{with_record}
use Rattle.node_answers.specs.Answers.{Outcome}
use Rattle.node_roles.specs.Notes.{NotesAt, with_note}
use Rattle.node_journal.specs.Parts.{Parts, both, OfLeaves}
use Rattle.node_roles.specs.Parts.{PartFails}
use Rattle.node_roles.specs.Nodes.{records_at}
use Rattle.node_roles.specs.Roles.{wallet_parts, wallet_records, wallet_commands}
use Rattle.node_runs.specs.Disks.{Keeps, MayKeep, KeepsNode, NodeFailed}
use Rattle.node_runs.specs.Sessions.{Outside}
use Rattle.node_runs.specs.Runs.{node_found, NodeSession}
use Rattle.run_endings.specs.declared.status.Status.{Status}
use Rattle.node_lives.specs.Standing.{GoOn, KeepWallet, WalletStays}
use Rattle.node_lives.specs.Answered.{lines_answered}
use Rattle.node_lives.proofs.Quiet.{Quietly, quiet-same}
use Rattle.node_lives.proofs.Stays.{keeps-same, fault-images}
use Rattle.node_lives.proofs.Roles.{ok-of, role-read, role-found}
use Rattle.node_lives.proofs.Opens.{refused-quiet, opened-quiet}
use Rattle.node_lives.proofs.Own.{all-same, both-on, with_added, adds-on, noted, records_with, Grows, IsOwn, Leaves, Growing, session-leaves}
use Rattle.node_lives.proofs.WalletOrders.{IsGood, outcome-grows}

-- so few lines make few blocks
pub few-blocks : (count : ℕ) → count ≤ MOST_LINES → count < 2 ^ 64
few-blocks count few = omega (arith, few)

module _ (dig : List ℕ → List ℕ) where
  pub wallet-grows : Growing dig (IsGood dig) wallet_commands
  wallet-grows log parts line command few spells good =
      outcome-grows dig log (wallet_records parts) good (few-blocks _ few) line command spells

  -- ---- two images

  images-stay : (records kept : WalletRecords) (one other : List ℕ) → KeepsRecords kept.notes one
      → KeepsRecords kept.leaves other → IsGood dig kept → GoOn records kept → KeepWallet dig records one other
  images-stay records kept one other notes leaves good on = record {
    kept = kept;
    keeps_notes = notes;
    keeps_leaves = leaves;
    is = good.is;
    bytes = good.bytes;
    goes_on = on;
  }

  module _ {D : Type 0} (told : D → Option History) (faults : D → ℕ) (new_notes new_leaves : D) where
    abbrev pub BothStay : WalletRecords → Type 0
    BothStay records = WhereTold (told new_notes) (λ n. WhereTold (told new_leaves) (WalletStays dig records n))

    pub both-earlier : (one other : WalletRecords) → GoOn one other → BothStay other → BothStay one
    both-earlier one other on stays n is l also image behind may left =
        let kept = stays n is l also image behind may left in
        images-stay one kept.kept image behind kept.keeps_notes kept.keeps_leaves
        (record { is = kept.is; bytes = kept.bytes }) (both-on one other kept.kept on kept.goes_on)

    -- both disks are handed back with such records
    kept-stay : (at : Parts NotesAt) → IsGood dig (wallet_records (records_at at))
        → KeepsNode told faults at (both new_notes new_leaves) → BothStay (wallet_records (records_at at))
    kept-stay at good keeps = by at.leaves good keeps.1
      where
        by : (leaves : Option NotesAt) → IsGood dig (records_with at.notes leaves)
            → OfLeaves (Keeps told faults) leaves (Some new_leaves) → BothStay (records_with at.notes leaves)
        by None good kept = absurd kept
        by (Some leaves) good kept = λ n is l also one other may left.
            images-stay _ (records_with at.notes (Some leaves)) one other ((keeps.0.settled n is).images one may)
            ((kept.settled l also).images other left) good (all-same _)

    -- behind a device fault of the notes, or of the leaves
    module _ (notes : NotesAt) where
      note-stays : (leaves : Option NotesAt) (note : Option (List ℕ)) → IsGood dig (records_with notes leaves)
          → IsGood dig (with_added (records_with notes leaves) note None)
          → PartFails (MayKeep told faults) note (Some notes) (Some new_notes)
          → OfLeaves (Keeps told faults) leaves (Some new_leaves) → BothStay (records_with notes leaves)
      note-stays leaves None good more fails keeps = absurd fails
      note-stays None (Some body) good more fails keeps = absurd keeps
      note-stays (Some leaves) (Some body) good more fails keeps = λ n is l also one other may left.
          let records = records_with notes (Some leaves) in
          let rest = (keeps.settled l also).images other left in
          elim (fault-images notes.records body fails.passed notes.told (told new_notes) fails.told_is
          fails.any_moment n is one may) [
            | inl without ↦ images-stay records records one other without rest good (all-same records)
            | inr with' ↦
                images-stay records (with_added records (Some body) None) one other with' rest more
                (adds-on records records (Some body) None (all-same records))
          ]

      leaf-stays : (leaves : Option NotesAt) (added leaf : Option (List ℕ))
          → IsGood dig (with_added (records_with notes leaves) added None)
          → IsGood dig (with_added (records_with notes leaves) added leaf)
          → Keeps told faults (with_note notes added) new_notes
          → PartFails (MayKeep told faults) leaf leaves (Some new_leaves) → BothStay (records_with notes leaves)
      leaf-stays leaves added None good more keeps fails = absurd fails
      leaf-stays None added (Some body) good more keeps fails = absurd fails
      leaf-stays (Some leaves) added (Some body) good more keeps fails = λ n is l also one other may left.
          let records = records_with notes (Some leaves) in
          let front : KeepsRecords (with_record notes.records added) one =
          subst (λ (kept : List (List ℕ)). KeepsRecords kept one) (noted notes added)
          ((keeps.settled n is).images one may) in
          elim (fault-images leaves.records body fails.passed leaves.told (told new_leaves) fails.told_is
          fails.any_moment l also other left) [
            | inl without ↦
                images-stay records (with_added records added None) one other front without good
                (adds-on records records added None (all-same records))
            | inr with' ↦
                images-stay records (with_added records added (Some body)) one other front with' more
                (adds-on records records added (Some body) (all-same records))
          ]

    fault-stays : (at : Parts NotesAt) (outcome : Outcome) → IsGood dig (wallet_records (records_at at))
        → Grows (IsGood dig) (wallet_records (records_at at)) outcome
        → NodeFailed told faults outcome at (both new_notes new_leaves) → BothStay (wallet_records (records_at at))
    fault-stays at outcome good grows (inl (fails, keeps)) =
        note-stays at.notes at.leaves outcome.note good grows.noted fails keeps
    fault-stays at outcome good grows (inr (keeps, fails)) =
        leaf-stays at.notes at.leaves outcome.note outcome.leaf grows.noted grows.both keeps fails

    -- so a session leaves them
    pub wallet-leaves : (plan : D → Option FaultPlan) (opened : WalletState D (Unit {0})) (outside : Outside)
        (failed : Type 0) (status : Status) (first : WalletRecords)
        → IsOwn dig (IsGood dig) first (node_found told plan faults dig (wallet_parts opened))
        → (session : NodeSession told plan faults dig wallet_commands (wallet_parts opened) (both new_notes new_leaves)
        outside failed status)
        → Leaves dig (IsGood dig) BothStay first (lines_answered session).stream.run.node
    wallet-leaves plan opened outside failed status first own session =
        session-leaves dig (IsGood dig) wallet_commands wallet-grows told plan faults (both new_notes new_leaves)
        BothStay both-earlier kept-stay fault-stays (wallet_parts opened) outside failed status first own session

  -- ---- the opening, over disks that are a wallet's and stay

  module _ {D : Type 0} (told : D → Option History) (plan : D → Option FaultPlan) (faults : D → ℕ)
      (first : WalletRecords) (notes leaves : D) (of_notes of_leaves : History) (is : told notes ≡ Some of_notes)
      (also : told leaves ≡ Some of_leaves) (stay : WalletStays dig first of_notes of_leaves) where
    pub kept : KeepWallet dig first (content of_notes) (content of_leaves)
    kept = stay (content of_notes) (content of_leaves) (content_may_be_left of_notes) (content_may_be_left of_leaves)

    role : AreWallet dig kept.kept
    role = wallet-parts dig kept.kept kept.is

    -- what is opened of the notes, and of the leaves behind them
    notes-same : (opened : NotesState D) → Opened told plan faults (role_in (wallet_kinds dig)) notes opened
        → kept.kept.notes ≡ opened.records
    notes-same opened opens =
        keeps-same (content of_notes) kept.kept.notes opened.records kept.keeps_notes
        (role-read (wallet_kinds dig) (content of_notes) opened.records (opens.kept of_notes is)).0

    leaves-are : (opened : NotesState D) → kept.kept.notes ≡ opened.records
        → leaf_records_in_of is_body (leaves_of opened.records) (content of_leaves) ≡ Ok kept.kept.leaves
    leaves-are opened same = grind (arith, common_steps, ok-of, kept, role) steps 20000

    leaves-same : (opened found : NotesState D) → kept.kept.notes ≡ opened.records
        → Opened told plan faults (leaf_records_in_of is_body (leaves_of opened.records)) leaves found
        → kept.kept.leaves ≡ found.records
    leaves-same opened found same opens =
        (let read = opens.kept of_leaves also in let there = leaves-are opened same in cc (read, there))

    pub opened-own : (opened : WalletState D (Unit {0})) → OpensWallet told plan faults dig notes leaves opened
        → IsOwn dig (IsGood dig) first (node_found told plan faults dig (wallet_parts opened))
    opened-own opened opens =
        let one = notes-same (notes_part opened) opens.opens_notes in
        let other = leaves-same (notes_part opened) (leaves_part opened) one opens.opens_leaves in
        let same : kept.kept ≡ opened.records = λ i. record { notes = one i; leaves = other i } in
        record {
          dig_is = refl;
          good = subst (IsGood dig) same (record { is = kept.is; bytes = kept.bytes });
          on = subst (GoOn first) same kept.goes_on;
        }

    module _ (new_notes new_leaves : D) where
      -- an opening that was refused leaves no more
      refused-both : (why : JournalRefusal)
          → RefusesWallet told plan faults dig notes leaves why new_notes new_leaves
          → Quietly (told notes) (told new_notes) × Quietly (told leaves) (told new_leaves)
      refused-both why (inl (refuses, same)) = (
        refused-quiet told plan (role_in (wallet_kinds dig)) notes new_notes why refuses.refused,
        quiet-same (told leaves) (told new_leaves) (ap told same),
      )
      refused-both why (inr (opened, opens, (same, inl refuses))) = (
        opened-quiet told plan faults _ notes opened new_notes opens same,
        refused-quiet told plan (leaf_records_in_of is_body (leaves_of opened.records)) leaves new_leaves
            why refuses.refused,
      )
      refused-both why (inr (opened, opens, (same, inr (behind, opening, one, unbound)))) = (
        opened-quiet told plan faults _ notes opened new_notes opens same,
        opened-quiet told plan faults _ leaves behind new_leaves opening one,
      )

      pub refused-stays : (why : JournalRefusal)
          → RefusesWallet told plan faults dig notes leaves why new_notes new_leaves
          → BothStay told faults new_notes new_leaves first
      refused-stays why refuses n has l too one other may left =
          let quiet = refused-both why refuses in
          stay one other (quiet.0 of_notes n is has one may) (quiet.1 of_leaves l also too other left)

      -- none is refused for a place
      refused-place : (place : ℕ)
          → RefusesWallet told plan faults dig notes leaves (PlaceRefusal place) new_notes new_leaves → ⊥
      refused-place place refuses =
          grind (arith, common_steps, role-found, kept, role, leaves-are, notes-same, leaves-same) steps 150000

      pub no-place : (why : JournalRefusal)
          → RefusesWallet told plan faults dig notes leaves why new_notes new_leaves → (place : ℕ)
          → why ≡ PlaceRefusal place → ⊥
      no-place why refuses place same =
          refused-place place
          (subst (λ (w : JournalRefusal). RefusesWallet told plan faults dig notes leaves w new_notes new_leaves) same
          refuses)
