use Rattle.proof_archive.proofs.Words.{◌≡◌, Ok, Err, refl, sym, ap, ◌∙◌, err_from_is_err_and, ArchiveRefusal, NoMemory, cell_in, with_opening, coin_at, tests_by}
use Rattle.proof_archive.proofs.Places.{put-found}
use Rattle.proof_archive.proofs.CellLaws.{whole-put, whole-same}
use Rattle.proof_archive.proofs.Whole.{seen-more, seen-same, put-seen, placed-seen, refusal-same}
use Rattle.proof_archive.proofs.archive.Archive.put.Goals as goal

pub returns-in_err-change-clause-answer : goal.returns-in_err-change-clause-answer
returns-in_err-change-clause-answer g c given =
    let p = err_from_is_err_and c.from_residual.result c.from_residual.ensures.1 in
    let is : c.from_residual.result ≡ Err c.in_err-change.field-0.0 = p.1 ∙ ap Err p.2 in
    rw (is, ← c.self.view_is) (put-seen (g.H.Hash32.digest_of c.self.inside.hash) c.self.inside.log c.self.inside.coins
    c.args.coin c.args.opening (Err c.in_err-change.field-0.0)
    (c.in_err-change.ensures.err (λ e. given (is ∙ ap (λ (x : ArchiveRefusal). Err x) e))))

pub returns-in_err-change-clause-kept : goal.returns-in_err-change-clause-kept
returns-in_err-change-clause-kept g c =
    let p = err_from_is_err_and c.from_residual.result c.from_residual.ensures.1 in
    let is : c.from_residual.result ≡ Err c.in_err-change.field-0.0 = p.1 ∙ ap Err p.2 in
    rw (is, ← c.self.view_is) (seen-same c.self.inside.coins c.self.inside.coins c.args.coin (λ n. refl))

pub invariant_of-self : goal.invariant_of-self
invariant_of-self g c =
    whole-same (g.H.Hash32.digest_of c.self.inside.hash) c.self.inside.log c.self.inside.defaults c.self.inside.coins
    c.keep_in.new.cells c.self.invariant c.in_err-keep_in.ensures.err

pub returns-in_err-keep_in-clause-kept : goal.returns-in_err-keep_in-clause-kept
returns-in_err-keep_in-clause-kept g c =
    let p = err_from_is_err_and c.from_residual-in_err-keep_in.result c.from_residual-in_err-keep_in.ensures.1 in
    let is : c.from_residual-in_err-keep_in.result ≡ Err NoMemory = p.1 ∙ ap Err p.2 in
    rw (is, ← c.self.view_is)
    (seen-same c.self.inside.coins c.keep_in.new.cells c.args.coin c.in_err-keep_in.ensures.err)

pub invariant_of-self-2 : goal.invariant_of-self-2
invariant_of-self-2 g c =
    whole-put (g.H.Hash32.digest_of c.self.inside.hash) c.self.inside.log c.self.inside.defaults c.self.inside.coins
    c.keep_in.new.cells c.args.coin
    (with_opening (cell_in c.self.inside.coins c.args.coin) c.args.opening c.in_ok-change.change) c.self.invariant
    c.in_ok-keep_in.ensures.ok c.in_ok-change.ensures.ok.1

pub returns-clause-answer : goal.returns-clause-answer
returns-clause-answer g c given =
    rw (← c.self.view_is) (put-seen (g.H.Hash32.digest_of c.self.inside.hash) c.self.inside.log c.self.inside.coins
    c.args.coin c.args.opening (Ok c.args.opening.block) c.in_ok-change.ensures.ok.0)

pub returns-clause-kept : goal.returns-clause-kept
returns-clause-kept g c =
    rw (← c.self.view_is) (seen-more c.self.inside.coins c.keep_in.new.cells c.args.coin c.args.opening
    c.in_ok-change.change c.in_ok-keep_in.ensures.ok)

pub returns-in_err-change-clause-memory : goal.returns-in_err-change-clause-memory
returns-in_err-change-clause-memory g c given =
    let p = err_from_is_err_and c.from_residual.result c.from_residual.ensures.1 in
    let is : c.from_residual.result ≡ Err c.in_err-change.field-0.0 = p.1 ∙ ap Err p.2 in
    rw (← c.self.view_is) (placed-seen c.self.inside.log c.self.inside.coins c.args.coin c.args.opening.block
    (Ok c.args.opening.block)
    (c.in_err-change.ensures.memory (ap Err (refusal-same c.in_err-change.field-0.0 NoMemory (sym is ∙ given)))))

pub returns-in_err-keep_in-clause-memory : goal.returns-in_err-keep_in-clause-memory
returns-in_err-keep_in-clause-memory g c given =
    rw (← c.self.view_is) (placed-seen c.self.inside.log c.self.inside.coins c.args.coin c.args.opening.block
    (Ok c.args.opening.block)
    (put-found (tests_by (g.H.Hash32.digest_of c.self.inside.hash)) c.self.inside.log.log c.args.coin
    (cell_in c.self.inside.coins c.args.coin).openings c.args.opening (coin_at c.self.inside.log.log c.args.coin)
    c.args.opening.block c.in_ok-change.ensures.ok.0))
