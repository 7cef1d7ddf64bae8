use Rattle.std.proofs.Common.{inl, inr, refl, subst}
use Rattle.replay_run.specs.Headline.{KeepsByForm}
use Rattle.replay_run.specs.Complete.{CompletesByForm}
use Rattle.replay_run.proofs.FaultLaws.{does-count}
use Rattle.replay_run.proofs.ByTheRules.{keeps-by_form}
use Rattle.replay_run.proofs.PromptLaws.{unread-prompt}
use Rattle.replay_run.proofs.CompleteLaws.{does-complete, no-words}
use Rattle.replay_run.proofs.top.run_with.Goals as goal

pub returns-in-Ok-clause-disk_faults : goal.returns-in-Ok-clause-disk_faults
returns-in-Ok-clause-disk_faults g c =
    does-count g.D.Disk.told g.D.Disk.plan g.D.Disk.faults _ c.args.notes c.args.leaves c.run_form.result.notes
    c.run_form.result.leaves _ _ c.run_form.result.status c.in-Ok.form c.run_form.ensures.output
    c.run_form.ensures.notes_stay c.run_form.ensures.leaves_stay

pub returns-in-Ok-clause-headline : goal.returns-in-Ok-clause-headline
returns-in-Ok-clause-headline g c =
    subst (KeepsByForm _ _ _ _) c.in-Ok.ensures.form (keeps-by_form _
    (λ bytes. (g.met.H.Hash32.length_is c.args.h.now bytes, g.met.H.Hash32.bytes_are c.args.h.now bytes))
    _ _ g.D.Disk.told g.D.Disk.plan g.D.Disk.faults c.args.notes c.args.leaves c.run_form.result.notes
    c.run_form.result.leaves c.run_form.result.status c.in-Ok.form (inl c.run_form.ensures.output))

pub returns-in-Err-clause-headline : goal.returns-in-Err-clause-headline
returns-in-Err-clause-headline g c =
    keeps-by_form _ (λ bytes.
    (g.met.H.Hash32.length_is c.args.h.now bytes, g.met.H.Hash32.bytes_are c.args.h.now bytes))
    _ _ g.D.Disk.told g.D.Disk.plan g.D.Disk.faults c.args.notes c.args.leaves c.args.notes c.args.leaves _ _
    (inr (record { is = refl; unread = refl; unwritten = refl; notes_stay = refl; leaves_stay = refl }))

pub returns-in-Err-clause-prompt : goal.returns-in-Err-clause-prompt
returns-in-Err-clause-prompt g c =
    unread-prompt g.D.Disk.told g.D.Disk.plan g.D.Disk.faults _ c.args.notes c.args.leaves _ _ _ _

pub returns-in-Ok-clause-complete : goal.returns-in-Ok-clause-complete
returns-in-Ok-clause-complete g c =
    subst (CompletesByForm g.D.Disk.told _ c.args.notes c.args.leaves _ _) c.in-Ok.ensures.form
    (does-complete g.D.Disk.told g.D.Disk.plan g.D.Disk.faults _ c.args.notes c.args.leaves c.run_form.result.notes
    c.run_form.result.leaves _ _ c.run_form.result.status c.in-Ok.form c.run_form.ensures.output)

pub returns-in-Err-clause-complete : goal.returns-in-Err-clause-complete
returns-in-Err-clause-complete g c = no-words g.D.Disk.told _ c.args.notes c.args.leaves _ _
