-- An init may be cut off before each of its device calls, and each call at its end.
use Rattle.std.proofs.Common.{◌≡◌, ◌≤◌, ℕ, false, List, [], length, None, Err, refl, inl, inr, arith}
use Rattle.std.proofs.lemmas.Grind.{common_steps}
use Rattle.crash_disk.specs.Disk.{Step, History, content}
use Rattle.gate_journal.specs.declared.refusal.InitRefusal.TheVariants.{DeviceFault, NoMemory}
use Rattle.node_journal.specs.Begin.{is_taken, journal_steps, init_steps, Inits, StopsBehindOver, RefusesEmpty, StopsInit, StopsBehind, IsAsked, PassesInit, IsLong, IsShort, RefusesPair}
use Rattle.run_endings.specs.Texts.{device_fault_text}
use Rattle.run_endings.specs.Outputs.{EndsAs}
use Rattle.run_endings.specs.declared.status.Status.TheVariants.{WriteFault, NoMemory as NoMemoryStatus}
use Rattle.node_runs.specs.Endings.{init_output}
use Rattle.node_runs.specs.Sessions.{Outside}
use Rattle.node_lives.specs.Disks.{Pair}
use Rattle.node_lives.specs.Calls.{NotesAlone, BothDisks, ToBegin}
use Rattle.node_lives.specs.Cuts.{FailsSince}
use Rattle.node_lives.specs.Answered.{ran_by, ran_in}
use Rattle.node_lives.specs.Samples.{Drive, told, foretold, met}
use Rattle.node_lives.specs.Moments.{Making, DoesNothing, IsCutAt, EndsMayBeCut, InitsMayBeCut}
use Rattle.node_lives.proofs.Drives.{telling}
use Rattle.node_lives.proofs.Moments.{none-since, wrote-more, cut-at}
use Rattle.node_lives.proofs.CutOpenings.{failing, making-fails, making-made}

-- what an init did whose next device call fails
stops : (steps : List ℕ → List Step) (old : Drive) (history : History) → (making : Making steps old history)
    → Inits told foretold steps old (Err DeviceFault) (failing steps making.made old)
stops steps old history making = grind (arith, common_steps, telling, failing, making-made) steps 20000

empty-stops : (old : Drive) (history : History) → (making : Making journal_steps old history)
    → RefusesEmpty told foretold met old DeviceFault (failing journal_steps making.made old)
empty-stops old history making = record { inits = stops journal_steps old history making; count = refl }

init-stops : (identity : List ℕ) (old : Drive) (history : History) → (making : Making (init_steps identity) old history)
    → StopsInit told foretold met (init_steps identity) old DeviceFault (failing (init_steps identity) making.made old)
init-stops identity old history making =
    record { inits = stops (init_steps identity) old history making; count = refl }

behind-stops : (identity : List ℕ) (old : Drive) (history : History)
    → (making : Making (init_steps identity) old history) → is_taken (content old.history) ≡ false
    → length (journal_steps (content old.history)) ≤ making.made
    → StopsBehind told foretold met identity old DeviceFault (failing (init_steps identity) making.made old)
behind-stops identity old history making free behind = record {
  stopped =
      telling old
      (λ before. StopsBehindOver told foretold identity (content before) old DeviceFault
      (failing (init_steps identity) making.made old))
      (making.made, free, behind, making-made (init_steps identity) old history making);
  count = refl;
}

module _ (dig : List ℕ → List ℕ) (identity : List ℕ) (old : Pair Drive) (outside : Outside)
    (nothing : DoesNothing outside) where
  fault-ends : EndsAs (init_output (Err DeviceFault)) WriteFault outside.taken outside.after ⊥
  fault-ends = record {
    front = wrote-more outside.taken outside.after [] device_fault_text nothing.wrote;
    fault = λ is. absurd (cc is);
  }

  alone-cut : (notes : History) → Making (init_steps identity) old.notes notes
      → IsCutAt dig (ToBegin NotesAlone identity) old outside None notes old.leaves.history
  unfolding ran_by
  alone-cut notes making =
      cut-at dig (ToBegin NotesAlone identity) old
      (record { notes = failing (init_steps identity) making.made old.notes; leaves = old.leaves }) outside WriteFault
      None notes old.leaves.history
      (inl (
        record {
          answer = Err DeviceFault;
          inits = stops (init_steps identity) old.notes notes making;
          count = refl;
          begun = tt;
          ends = fault-ends;
        },
        refl,
      ))
      refl
      (making-fails (init_steps identity) old.notes notes making) (none-since old.leaves)

  unasked-cut : IsCutAt dig (ToBegin BothDisks identity) old outside None old.notes.history old.leaves.history
  unfolding ran_by
  unasked-cut =
      cut-at dig (ToBegin BothDisks identity) old old outside NoMemoryStatus None old.notes.history old.leaves.history
      (inl (record {
        answer = Err NoMemory;
        inits = inl (refl, refl);
        begun = tt;
        empty = tt;
        ends = record { front = nothing.wrote; fault = λ is. absurd (cc is) };
      }))
      refl
      (none-since old.notes) (none-since old.leaves)

  -- behind the question for the length
  module _ (asked : Drive) (asks : IsAsked told foretold met old.notes asked) where
    pair-cut : (new : Pair Drive) (notes leaves : History)
        → RefusesPair told foretold met told foretold met identity asked old.leaves DeviceFault new.notes new.leaves
        → FailsSince told notes new.notes → FailsSince told leaves new.leaves
        → IsCutAt dig (ToBegin BothDisks identity) old outside None notes leaves
    unfolding ran_by
    pair-cut new notes leaves refuses fails others =
        cut-at dig (ToBegin BothDisks identity) old new outside WriteFault None notes leaves
        (inl (record {
          answer = Err DeviceFault;
          inits = inr (asked, asks, refuses);
          begun = tt;
          empty = tt;
          ends = fault-ends;
        }))
        refl fails others

    long-notes : (notes : History) → IsLong (told asked) → Making journal_steps asked notes
        → IsCutAt dig (ToBegin BothDisks identity) old outside None notes old.leaves.history
    long-notes notes long making =
        pair-cut (record { notes = failing journal_steps making.made asked; leaves = old.leaves }) notes
        old.leaves.history
        (inl (long, inl (empty-stops asked notes making, refl)))
        (making-fails journal_steps asked notes making) (none-since old.leaves)

    leaves-behind : (opened : Drive) (leaves : History) → IsLong (told asked)
        → PassesInit told foretold met journal_steps asked opened → Making journal_steps old.leaves leaves
        → IsCutAt dig (ToBegin BothDisks identity) old outside None opened.history leaves
    leaves-behind opened leaves long passes making =
        pair-cut (record { notes = opened; leaves = failing journal_steps making.made old.leaves }) opened.history
        leaves
        (inl (long, inr (inl (passes, empty-stops old.leaves leaves making))))
        (none-since opened) (making-fails journal_steps old.leaves leaves making)

    identity-behind : (leaves : Drive) (notes : History) → IsLong (told asked)
        → is_taken (content asked.history) ≡ false → PassesInit told foretold met journal_steps old.leaves leaves
        → (making : Making (init_steps identity) asked notes)
        → length (journal_steps (content asked.history)) ≤ making.made
        → IsCutAt dig (ToBegin BothDisks identity) old outside None notes leaves.history
    identity-behind leaves notes long free passes making behind =
        pair-cut (record { notes = failing (init_steps identity) making.made asked; leaves = leaves }) notes
        leaves.history
        (inl (long, inr (inr (behind-stops identity asked notes making free behind, passes))))
        (making-fails (init_steps identity) asked notes making) (none-since leaves)

    leaves-first : (leaves : History) → IsShort (told asked) → Making journal_steps old.leaves leaves
        → IsCutAt dig (ToBegin BothDisks identity) old outside None asked.history leaves
    leaves-first leaves short making =
        pair-cut (record { notes = asked; leaves = failing journal_steps making.made old.leaves }) asked.history leaves
        (inr (short, inl (refl, empty-stops old.leaves leaves making)))
        (none-since asked) (making-fails journal_steps old.leaves leaves making)

    notes-behind : (leaves : Drive) (notes : History) → IsShort (told asked)
        → PassesInit told foretold met journal_steps old.leaves leaves → Making (init_steps identity) asked notes
        → IsCutAt dig (ToBegin BothDisks identity) old outside None notes leaves.history
    notes-behind leaves notes short passes making =
        pair-cut (record { notes = failing (init_steps identity) making.made asked; leaves = leaves }) notes
        leaves.history
        (inr (short, inr (init-stops identity asked notes making, passes)))
        (making-fails (init_steps identity) asked notes making) (none-since leaves)

module _ (dig : List ℕ → List ℕ) where
  pub inits_may_be_cut : InitsMayBeCut dig
  inits_may_be_cut = record {
    alone = λ identity old outside notes nothing making. alone-cut dig identity old outside nothing notes making;
    unasked = λ identity old outside nothing. unasked-cut dig identity old outside nothing;
    long_notes = λ identity old asked outside notes nothing asks long making.
        long-notes dig identity old outside nothing asked asks notes long making;
    leaves_behind = λ identity old asked opened outside leaves nothing asks long passes making.
        leaves-behind dig identity old outside nothing asked asks opened leaves long passes making;
    identity_behind = λ identity old asked leaves outside notes nothing asks long free passes making behind.
        identity-behind dig identity old outside nothing asked asks leaves notes long free passes making behind;
    leaves_first = λ identity old asked outside leaves nothing asks short making.
        leaves-first dig identity old outside nothing asked asks leaves short making;
    notes_behind = λ identity old asked leaves outside notes nothing asks short passes making.
        notes-behind dig identity old outside nothing asked asks leaves notes short passes making;
  }

  pub ends_may_be_cut : EndsMayBeCut dig
  ends_may_be_cut call =
      cut-at dig call.asked call.old call.new call.outside call.status (ran_in told foretold met dig call)
      call.new.notes.history call.new.leaves.history call.did refl (none-since call.new.notes)
      (none-since call.new.leaves)
