use Rattle.crash_disk.proofs.Words.{◌≡◌, Bool, false, true, sym, ◌∙◌, ap, arith, err_from_is_err_and, finds, asked}
use Rattle.crash_disk.proofs.Held.{sync_more}
use Rattle.crash_disk.proofs.disk_over.synced.Goals as goal

pub returns-in_err-synced_again-clause-made : goal.returns-in_err-synced_again-clause-made
returns-in_err-synced_again-clause-made g c =
    let p = err_from_is_err_and c.from_residual-in_err-synced_again.result c.from_residual-in_err-synced_again.ensures.1 in
    let old = g.F.FileCalls.done c.args.file.now in
    let there : c.in_ok-find.field-0 ≡ true = first_of (
      assumption (c.if-not-branch.false),
      grind (arith, c.if-not-branch.false),
    ) in
    let made = sync_more true true old (g.F.FileCalls.done c.find.new.self) (g.F.FileCalls.done c.synced_again.new.file)
    (sym c.if-is_named.true ∙ c.requires)
    (c.in_ok-find.ensures.calls ∙ ap (λ (b : Bool). asked (finds b) false old) there)
    c.in_err-synced_again.ensures.made in
    rw p.1 (true, made)

pub returns-in_err-synced_first-clause-made : goal.returns-in_err-synced_first-clause-made
returns-in_err-synced_first-clause-made g c =
    let p = err_from_is_err_and c.from_residual-in_err-synced_first.result c.from_residual-in_err-synced_first.ensures.1 in
    let old = g.F.FileCalls.done c.args.file.now in
    let there : c.in_ok-find.field-0 ≡ true = first_of (
      assumption (c.if-not-branch.false),
      grind (arith, c.if-not-branch.false),
    ) in
    let made = sync_more false true old (g.F.FileCalls.done c.find.new.self) (g.F.FileCalls.done c.synced_first.new.file)
    (sym c.if-is_named.false ∙ c.requires)
    (c.in_ok-find.ensures.calls ∙ ap (λ (b : Bool). asked (finds b) false old) there)
    c.in_err-synced_first.ensures.made in
    rw p.1 (true, made)
