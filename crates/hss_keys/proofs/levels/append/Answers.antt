use Rattle.hss_keys.proofs.Words.{◌≡◌, ◌≤◌, true, ℕ, List, Some, sym, ◌∙◌, ap, refl, subst, length, faults_after, Added, AddFailed, notes_over, goes_through, meets_fault, moments, settled_now, went, met, entry_in, may_follow}
use Rattle.hss_keys.proofs.Spelling.{entries_are_read_back, text-short}
use Rattle.hss_keys.proofs.Counts.{follows_from}
use Rattle.hss_keys.proofs.Adding.{append_kept, bodies-left, bytes-left, fault_kept, fits, spare}
use Rattle.hss_keys.proofs.levels.append.Goals as goal

pub push-requires-clause-reads : goal.push-requires-clause-reads
push-requires-clause-reads g c = ap entry_in c.body-body.ensures
    ∙ entries_are_read_back c.args.entry.now c.requires.entry

pub returns-then-is_err : goal.returns-then-is_err
returns-then-is_err g c =
    let told = g.D.Disk.told in
    let plan = g.D.Disk.plan in
    let journal = c.args.journal.now in
    let kept = c.args.records.now in
    let new = c.append.new.self in
    let body = c.body-body.result in
    let read : entry_in body ≡ Some c.args.entry.now = ap entry_in c.body-body.ensures
    ∙ entries_are_read_back c.args.entry.now c.requires.entry in
    let follows : may_follow kept.seed kept.records body ≡ true =
    follows_from kept.seed kept.records body c.args.entry.now read ∙ c.requires.follows in
    let short : length body ≤ 137 = text-short c.args.entry.now body read in
    let room = spare told body c.requires.open c.requires.kept c.requires.room follows short in
    let enough = fits told body c.requires.open c.requires.kept c.requires.room follows short in
    let append = rw c.as_slice.ensures.value at c.append.ensures in
    let failed = meets_fault told plan c.requires.open enough room c.append.result new append.appends
    (sym c.is_err.ensures.value ∙ c.if-is_err.true) in
    record {
      did = subst (λ (b : List ℕ). AddFailed told plan g.D.Disk.faults b (notes_over journal kept.records)
          (notes_over new kept.records)) c.body-body.ensures
          (met told plan g.D.Disk.faults body journal new kept.records c.requires.kept.gate
          c.requires.kept.settled append.any_moment failed.1
          (append.cause ∙ ap (λ b. faults_after (g.D.Disk.faults journal.disk) b) failed.0));
      kept = fault_kept told body c.requires.open c.requires.kept c.requires.room follows short failed.1
          (moments told plan g.D.Disk.faults body journal new kept.records c.requires.kept.gate
          c.requires.kept.settled append.any_moment c.requires.open);
      seed = refl;
      records = tt;
      spare = tt;
      bodies = tt;
      bytes = tt;
      closed = failed.1.is_closed;
      fault = refl;
    }

pub returns : goal.returns
returns g c =
    let told = g.D.Disk.told in
    let plan = g.D.Disk.plan in
    let journal = c.args.journal.now in
    let kept = c.args.records.now in
    let new = c.append.new.self in
    let body = c.body-body.result in
    let read : entry_in body ≡ Some c.args.entry.now = ap entry_in c.body-body.ensures
    ∙ entries_are_read_back c.args.entry.now c.requires.entry in
    let follows : may_follow kept.seed kept.records body ≡ true =
    follows_from kept.seed kept.records body c.args.entry.now read ∙ c.requires.follows in
    let short : length body ≤ 137 = text-short c.args.entry.now body read in
    let room = spare told body c.requires.open c.requires.kept c.requires.room follows short in
    let enough = fits told body c.requires.open c.requires.kept c.requires.room follows short in
    let append = rw c.as_slice.ensures.value at c.append.ensures in
    let through = goes_through told plan c.requires.open enough room c.append.result new append.appends
    (sym c.is_err.ensures.value ∙ c.if-is_err.false) in
    record {
      did = subst (λ (b : List ℕ). Added told plan g.D.Disk.faults b (notes_over journal kept.records)
          (notes_over new c.push.new.self.records)) c.body-body.ensures
          (went told plan g.D.Disk.faults body journal new kept.records c.requires.kept.gate
          c.requires.kept.settled append.any_moment through.1
          (rw through.0 at append.kept) c.push.ensures.records (rw through.0 at append.cause));
      kept = append_kept told body c.requires.open c.requires.kept c.requires.room follows short through.1
          c.push.ensures.seed c.push.ensures.records
          (settled_now told plan g.D.Disk.faults body journal new kept.records c.requires.kept.gate
          c.requires.kept.settled append.any_moment through.1
          (rw through.0 at append.kept) c.push.ensures.records);
      seed = c.push.ensures.seed;
      records = cc;
      spare = c.push.ensures.room;
      bodies = bodies-left told body c.requires.open c.requires.kept c.requires.room follows short through.1;
      bytes = bytes-left told body c.requires.open c.requires.kept c.requires.room follows short through.1;
      closed = tt;
      fault = tt;
    }
