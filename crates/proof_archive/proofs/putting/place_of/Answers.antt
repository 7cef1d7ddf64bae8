use Rattle.proof_archive.proofs.Words.{ℕ, ◌^◌, sym, ◌∙◌, subst, arith, ltb-true, is_asked, NoneIsAsked, IsFirstAsked}
use Rattle.proof_archive.proofs.Places.{asked-le, place-unknown, place-wide, place-have, place-gap}
use Rattle.proof_archive.proofs.putting.place_of.Goals as goal

pub returns-then-not-is_asked-clause-err : goal.returns-then-not-is_asked-clause-err
returns-then-not-is_asked-clause-err c =
    place-unknown c.args.log.now.log c.args.made.now.deposit c.args.cell.now.openings c.args.n
    (sym c.is_asked.ensures ∙ c.if-not-is_asked.true)

pub returns-then-not-fits-clause-err : goal.returns-then-not-fits-clause-err
returns-then-not-fits-clause-err c =
    place-wide c.args.log.now.log c.args.made.now.deposit c.args.cell.now.openings c.args.n
    (sym c.fits.ensures ∙ c.if-not-fits.true)

pub returns-then-n-newest-clause-err : goal.returns-then-n-newest-clause-err
returns-then-n-newest-clause-err c =
    place-have c.requires.0 c.args.log.now.log c.args.coin c.args.made.now c.args.cell.now.openings c.requires.1
    c.args.n
    (sym c.is_asked.ensures ∙ c.if-not-is_asked.false)
    (ltb-true c.args.n (2 ^ 32) (sym c.fits.ensures ∙ c.if-not-fits.false))
    (let at = c.newest-newest.ensures in let le = c.if-n-newest.true in omega arith)

pub first_asked-requires : goal.first_asked-requires
first_asked-requires c =
    asked-le c.args.log.now.log c.args.made.now.deposit c.args.n (sym c.is_asked.ensures ∙ c.if-not-is_asked.false)

pub returns-in-Some-clause-err : goal.returns-in-Some-clause-err
returns-in-Some-clause-err c =
    place-gap c.requires.0 c.args.log.now.log c.args.coin c.args.made.now c.args.cell.now.openings c.requires.1 c.args.n
    (sym c.is_asked.ensures ∙ c.if-not-is_asked.false)
    (ltb-true c.args.n (2 ^ 32) (sym c.fits.ensures ∙ c.if-not-fits.false)) c.in-Some.gap
    (let at = c.newest-newest.ensures in let less = c.if-n-newest.false in omega arith)
    (subst (λ (low : ℕ). IsFirstAsked (is_asked c.args.log.now.log low c.args.n) 0 c.args.n c.in-Some.gap)
    c.newest-newest.ensures c.in-Some.ensures)

pub returns-in-None-clause-ok : goal.returns-in-None-clause-ok
returns-in-None-clause-ok c = record {
  asked = sym c.is_asked.ensures ∙ c.if-not-is_asked.false;
  narrow = ltb-true c.args.n (2 ^ 32) (sym c.fits.ensures ∙ c.if-not-fits.false);
  past = let at = c.newest-newest.ensures in let less = c.if-n-newest.false in omega arith;
  none = subst (λ (low : ℕ). NoneIsAsked (is_asked c.args.log.now.log low c.args.n) 0 c.args.n)
      c.newest-newest.ensures c.in-None.ensures;
}
