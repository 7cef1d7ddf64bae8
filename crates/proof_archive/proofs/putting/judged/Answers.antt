use Rattle.proof_archive.proofs.Words.{◌≡◌, ℕ, ◌^◌, length, Err, sym, ap, ◌∙◌, ltb-true, err_from_is_err_and, Tests, tests_by, rules_of, ArchiveRefusal, fits}
use Rattle.proof_archive.proofs.Places.{put-uncoined, put-unplaced, put-long, put-unopened, put-opened, put-kept, put-placed, put-counted}
use Rattle.proof_archive.proofs.CellLaws.{cell-made, cell-judged}
use Rattle.proof_archive.proofs.putting.judged.Goals as goal

pub returns-in_default-clause-err : goal.returns-in_default-clause-err
returns-in_default-clause-err g c given =
    put-uncoined (tests_by (g.H.Hash32.digest_of c.args.h.now)) c.args.log.now.log c.args.coin
    c.args.cell.now.openings c.args.opening.now (sym c.coin.ensures ∙ c.in_default.is)

pub place_of-requires : goal.place_of-requires
place_of-requires g c = (
  tests_by (g.H.Hash32.digest_of c.args.h.now),
  (cell-made (tests_by (g.H.Hash32.digest_of c.args.h.now)) (rules_of c.args.log.now) c.args.log.now.log c.args.coin
      c.args.cell.now c.in-Some.made (sym c.coin.ensures ∙ c.in-Some.is) c.requires.cell).kept,
)

pub returns-in_err-place_of-clause-err : goal.returns-in_err-place_of-clause-err
returns-in_err-place_of-clause-err g c =
    let p = err_from_is_err_and c.from_residual.result c.from_residual.ensures.1 in
    let is : c.from_residual.result ≡ Err c.in_err-place_of.field-0.0 = p.1 ∙ ap Err p.2 in
    rw is (λ given. put-unplaced (tests_by (g.H.Hash32.digest_of c.args.h.now)) c.args.log.now.log c.args.coin
    c.args.cell.now.openings c.args.opening.now c.in-Some.made (sym c.coin.ensures ∙ c.in-Some.is)
    c.in_err-place_of.field-0.0 c.in_err-place_of.ensures.err)

pub opened_leaf-requires-clause-asked : goal.opened_leaf-requires-clause-asked
opened_leaf-requires-clause-asked g c = c.in_ok-place_of.ensures.ok.asked

pub returns-then-not-fits-clause-err : goal.returns-then-not-fits-clause-err
returns-then-not-fits-clause-err g c given =
    let tests : Tests = tests_by (g.H.Hash32.digest_of c.args.h.now) in
    let some = sym c.coin.ensures ∙ c.in-Some.is in
    let cell = cell-made tests (rules_of c.args.log.now) c.args.log.now.log c.args.coin c.args.cell.now c.in-Some.made
    some c.requires.cell in
    put-long tests c.args.log.now.log c.args.coin c.args.cell.now.openings c.args.opening.now c.in-Some.made some
    cell.kept c.in_ok-place_of.ensures.ok
    (ap (λ (n : ℕ). fits n) (sym c.len.ensures) ∙ sym c.fits.ensures ∙ c.if-not-fits.true)

pub returns-in_err-leaf-clause-err : goal.returns-in_err-leaf-clause-err
returns-in_err-leaf-clause-err g c =
    let p = err_from_is_err_and c.from_residual-in_err-leaf.result c.from_residual-in_err-leaf.ensures.1 in
    let is : c.from_residual-in_err-leaf.result ≡ Err c.in_err-leaf.field-0.0 = p.1 ∙ ap Err p.2 in
    let tests : Tests = tests_by (g.H.Hash32.digest_of c.args.h.now) in
    let some = sym c.coin.ensures ∙ c.in-Some.is in
    let cell = cell-made tests (rules_of c.args.log.now) c.args.log.now.log c.args.coin c.args.cell.now c.in-Some.made
    some c.requires.cell in
    rw is (λ given. let why = c.in_err-leaf.ensures.err given in
    put-unopened tests c.args.log.now.log c.args.coin c.args.cell.now.openings c.args.opening.now c.in-Some.made some
    cell.kept c.in_ok-place_of.ensures.ok why.1
    ∙ ap (λ (x : ArchiveRefusal). Err x) (sym why.0))

pub returns-clause-ok : goal.returns-clause-ok
returns-clause-ok g c =
    let tests : Tests = tests_by (g.H.Hash32.digest_of c.args.h.now) in
    let some = sym c.coin.ensures ∙ c.in-Some.is in
    let cell = cell-made tests (rules_of c.args.log.now) c.args.log.now.log c.args.coin c.args.cell.now c.in-Some.made
    some c.requires.cell in
    let opens = c.in_ok-leaf.ensures.ok.1 in (
      put-opened tests c.args.log.now.log c.args.coin c.args.cell.now.openings c.args.opening.now c.in-Some.made some
          cell.kept c.in_ok-place_of.ensures.ok
          (ap (λ (n : ℕ). fits n) (sym c.len.ensures) ∙ sym c.fits.ensures ∙ c.if-not-fits.false) opens,
      cell-judged tests (rules_of c.args.log.now) c.args.log.now.log c.args.coin c.in-Some.made c.args.cell.now
          c.args.opening.now c.in_ok-move_of.field-0 some cell
          (put-kept tests c.args.log.now.log c.args.coin c.args.cell.now.openings c.args.opening.now c.in-Some.made some
          cell.kept c.in_ok-place_of.ensures.ok opens)
          (c.in_ok-move_of.ensures (g.H.Hash32.digest_of c.args.h.now)),
    )

pub returns-in_err-leaf-clause-memory : goal.returns-in_err-leaf-clause-memory
returns-in_err-leaf-clause-memory g c given =
    let tests : Tests = tests_by (g.H.Hash32.digest_of c.args.h.now) in
    let some = sym c.coin.ensures ∙ c.in-Some.is in
    let cell = cell-made tests (rules_of c.args.log.now) c.args.log.now.log c.args.coin c.args.cell.now c.in-Some.made
    some c.requires.cell in
    put-placed tests c.args.log.now.log c.args.coin c.args.cell.now.openings c.args.opening.now c.in-Some.made some
    cell.kept c.in_ok-place_of.ensures.ok

pub returns-in_err-move_of-clause-memory : goal.returns-in_err-move_of-clause-memory
returns-in_err-move_of-clause-memory g c given =
    let tests : Tests = tests_by (g.H.Hash32.digest_of c.args.h.now) in
    let some = sym c.coin.ensures ∙ c.in-Some.is in
    let cell = cell-made tests (rules_of c.args.log.now) c.args.log.now.log c.args.coin c.args.cell.now c.in-Some.made
    some c.requires.cell in
    put-placed tests c.args.log.now.log c.args.coin c.args.cell.now.openings c.args.opening.now c.in-Some.made some
    cell.kept c.in_ok-place_of.ensures.ok

pub returns-clause-room : goal.returns-clause-room
returns-clause-room g c =
    let tests : Tests = tests_by (g.H.Hash32.digest_of c.args.h.now) in
    let some = sym c.coin.ensures ∙ c.in-Some.is in
    let cell = cell-made tests (rules_of c.args.log.now) c.args.log.now.log c.args.coin c.args.cell.now c.in-Some.made
    some c.requires.cell in record {
      count = put-counted tests c.args.log.now.log c.args.coin c.args.cell.now.openings c.args.opening.now
          c.in-Some.made some cell.kept c.in_ok-place_of.ensures.ok;
      bytes = ltb-true (length c.args.opening.now.bytes) (2 ^ 32)
          (ap (λ (n : ℕ). fits n) (sym c.len.ensures) ∙ sym c.fits.ensures ∙ c.if-not-fits.false);
    }
