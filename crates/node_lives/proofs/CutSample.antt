-- A small life with a cut is one: power is lost as the gate of a record is written.
use Rattle.std.proofs.Common.{◌≤◌, ◌++◌, ℕ, true, List, [], ◌∷◌, length, codes, refl, sym, ap, ◌∙◌, subst, inl, inr, lit<, lit≤}
use Rattle.std.proofs.lemmas.List.Elements.{All-nil, All-cons}
use Rattle.crash_disk.specs.Disk.{fresh_history, content, synced_content}
use Rattle.crash_disk.specs.declared.outcome.Outcome.TheVariants.{Old, New}
use Rattle.crash_disk.proofs.Images.{outcomes}
use Rattle.gate_journal.specs.Image.{most}
use Rattle.gate_journal.specs.Journal.{IsSettled}
use Rattle.gate_journal.proofs.Crash.{settled_now}
use Rattle.leaf_journal.specs.Records.{marker, records_behind_of}
use Rattle.node_replies.specs.Roles.{Wallet}
use Rattle.node_lines.specs.Grammar.{wallet_line_in}
use Rattle.node_answers.specs.Answers.{Outcome}
use Rattle.node_journal.specs.Parts.{both}
use Rattle.run_endings.specs.Texts.{device_fault_text, refused_text}
use Rattle.run_endings.specs.Endings.{last_text}
use Rattle.run_endings.specs.declared.status.Status.TheVariants.{Done, Refused, WriteFault}
use Rattle.streamed_lines.specs.Lines.{lines_in}
use Rattle.node_runs.specs.Disks.{NodeFailed}
use Rattle.node_runs.specs.Runs.{RunsWallet}
use Rattle.node_lives.specs.Disks.{Stays}
use Rattle.node_lives.specs.Calls.{BothDisks, ToBegin, ToRun}
use Rattle.node_lives.specs.Cuts.{Cut, IsLifeWithCuts}
use Rattle.node_lives.specs.Samples.{Drive, told, foretold, met, identity, input, DriveCall}
use Rattle.node_lives.specs.CutSample.{SmallLifeWithCut}
use Rattle.node_lives.proofs.SampleLines.{migrate_order, migrate-spelled, log_text, migrate_line, migrates, found, log_read, log-runs, may-next, next-is, refused-session}
use Rattle.node_lives.proofs.Drives.{stopped_notes, blank, begun_notes, begun_leaves, opened, faulted_leaves, crashed_notes, crashed_leaves, marked_leaves, opened_settled, begun_notes_settled, begun_leaves_settled, crashed_notes_settled}
use Rattle.node_lives.proofs.Moments.{none-since}
use Rattle.node_lives.proofs.Samples.{init_passes, opens, outside, found-keeps, notes_first, notes_second, marker_fails, Session, comes, pair, call_of, run_of, run_answers}

-- the leaves where the crash left the gate that was being written
abbrev kept_leaves : Drive
kept_leaves = record { history = fresh_history (content faulted_leaves.history); met = 0 }

kept_settled : IsSettled kept_leaves.history (marker ∷ [])
kept_settled = settled_now _ (marker ∷ []) (record {
  gate = 0;
  rest = [];
  is = refl;
  closed = refl;
  fits = All-cons (λ body. length body ≤ most) marker [] (lit≤ tt) (All-nil (λ body. length body ≤ most));
}) refl

module _ (dig : List ℕ → List ℕ) where
  -- the marker's append was cut off, and nothing was written
  cut-in : Session dig begun_notes begun_leaves [] (opened begun_notes) faulted_leaves [] WriteFault
  cut-in = inr (inl (record {
    bytes = input;
    ended = true;
    stream = log_read dig begun_notes begun_leaves [];
    gave = record { given = refl; end = λ is. refl };
    begins = record {
      front = log_text;
      rest = migrate_line;
      whole = refl;
      runs = log-runs dig begun_notes begun_leaves [];
    };
    ends = record {
      front = record { front = []; back = device_fault_text; whole = refl; wrote = refl };
      fault = λ is. absurd (cc is);
    };
    left = (
      may-next dig begun_notes begun_leaves [],
      (
        migrate_order,
        ap wallet_line_in (next-is dig begun_notes begun_leaves []) ∙ migrate-spelled,
        subst (λ (o : Outcome). NodeFailed told met o (found dig begun_notes begun_leaves []).kept
            (both (opened begun_notes) faulted_leaves)) (sym (migrates dig))
            (inr (found-keeps dig (opened begun_notes) (identity ∷ []) (notes_first dig), marker_fails dig)),
      ),
    );
  }))

  run_cut : RunsWallet told foretold met dig begun_notes begun_leaves (opened begun_notes) faulted_leaves
      (outside dig []) (Unit {0}) WriteFault
  unfolding records_behind_of
  run_cut =
      run_of dig begun_notes begun_leaves [] (opened begun_notes) faulted_leaves [] WriteFault
      (opens dig begun_notes begun_leaves [] begun_notes_settled begun_leaves_settled refl) cut-in

  refuses : Session dig crashed_notes kept_leaves (marker ∷ []) (opened crashed_notes) (opened kept_leaves)
      (refused_text (codes "already-new")) Refused
  unfolding lines_in last_text
  refuses =
      comes dig crashed_notes kept_leaves (marker ∷ []) (opened crashed_notes) (opened kept_leaves)
      (refused_text (codes "already-new")) Refused _ (refused-session dig crashed_notes kept_leaves) (refl, refl)
      (lit< tt) (
        found-keeps dig (opened crashed_notes) (identity ∷ []) (notes_second dig),
        found-keeps dig (opened kept_leaves) (marker ∷ []) (opened_settled kept_leaves (marker ∷ []) kept_settled),
      )

  run_refuses : RunsWallet told foretold met dig crashed_notes kept_leaves (opened crashed_notes) (opened kept_leaves)
      (outside dig (refused_text (codes "already-new"))) (Unit {0}) Refused
  unfolding records_behind_of
  run_refuses =
      run_of dig crashed_notes kept_leaves (marker ∷ []) (opened crashed_notes) (opened kept_leaves)
      (refused_text (codes "already-new")) Refused
      (opens dig crashed_notes kept_leaves (marker ∷ []) crashed_notes_settled kept_settled refl) refuses

  abbrev cut : Cut told foretold met dig
  cut = record {
    call =
        call_of dig (ToRun Wallet) (pair dig begun_notes begun_leaves) (pair dig (opened begun_notes) faulted_leaves) []
        WriteFault run_cut;
    notes = (opened begun_notes).history;
    leaves = faulted_leaves.history;
    notes_fail = none-since (opened begun_notes);
    leaves_fail = none-since faulted_leaves;
  }

  abbrev begun : DriveCall dig
  begun =
      call_of dig (ToBegin BothDisks identity) (pair dig stopped_notes blank) (pair dig begun_notes begun_leaves)
      (codes "made" ++ 10 ∷ []) Done init_passes

  pub small_life_with_cut : SmallLifeWithCut dig
  unfolding IsLifeWithCuts
  small_life_with_cut = record {
    begun = begun;
    cut = cut;
    answered =
        call_of dig (ToRun Wallet) (pair dig crashed_notes crashed_leaves)
        (pair dig (opened crashed_notes) marked_leaves) (codes "migrated" ++ 10 ∷ []) Done (run_answers dig);
    refused =
        call_of dig (ToRun Wallet) (pair dig crashed_notes kept_leaves)
        (pair dig (opened crashed_notes) (opened kept_leaves)) (refused_text (codes "already-new")) Refused run_refuses;
    lost = (
      (refl, refl),
      (
        record {
          image = synced_content (opened begun_notes).history;
          may = outcomes Old (opened begun_notes).history;
          is = refl;
        },
        record {
          image = synced_content faulted_leaves.history;
          may = outcomes Old faulted_leaves.history;
          is = refl;
        },
      ),
      ((refl, refl), (Stays refl, Stays refl), ((refl, refl), tt, tt)),
    );
    kept = (
      (refl, refl),
      (
        record {
          image = synced_content (opened begun_notes).history;
          may = outcomes Old (opened begun_notes).history;
          is = refl;
        },
        record { image = content faulted_leaves.history; may = outcomes New faulted_leaves.history; is = refl },
      ),
      ((refl, refl), (Stays refl, Stays refl), ((refl, refl), tt, tt)),
    );
    begun_is = record { asked_is = refl; status_is = refl; begins = refl; wrote = refl };
    cut_is = record { asked_is = refl; status_is = refl; begins = refl; wrote = refl };
    answered_is = record { asked_is = refl; status_is = refl; begins = refl; wrote = refl };
    refused_is = record { asked_is = refl; status_is = refl; begins = refl; wrote = refl };
  }
