use Rattle.proof_archive.proofs.Words.{tests_by, leaf_of_opening, is_asked}
use Rattle.proof_archive.proofs.Places.{opened-ok, opened-err}
use Rattle.proof_archive.proofs.putting.opened_leaf.Goals as goal

pub returns-in-Ok-clause-ok : goal.returns-in-Ok-clause-ok
returns-in-Ok-clause-ok g c =
    opened-ok (tests_by (g.H.Hash32.digest_of c.args.h.now)) c.args.log.now.log c.args.coin
    (is_asked c.args.log.now.log c.args.made.now.deposit c.args.opening.now.block c.args.opening.now.block)
    c.args.opening.now c.in-Ok.leaf (leaf_of_opening c.args.opening.now) c.requires.asked
    (c.in-Ok.ensures.value (λ wrong. absurd (cc)))

pub returns-in-Err-clause-err : goal.returns-in-Err-clause-err
returns-in-Err-clause-err g c given = (
  c.unopened.ensures.other (λ same. given (c.unopened.ensures.memory same)),
  opened-err (tests_by (g.H.Hash32.digest_of c.args.h.now)) c.args.log.now.log c.args.coin
      (is_asked c.args.log.now.log c.args.made.now.deposit c.args.opening.now.block c.args.opening.now.block)
      c.args.opening.now c.in-Err.why (leaf_of_opening c.args.opening.now) c.requires.asked
      (c.in-Err.ensures.value (λ wrong. given (c.unopened.ensures.memory cc))),
)
