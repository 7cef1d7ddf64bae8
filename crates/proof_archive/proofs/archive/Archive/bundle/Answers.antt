use Rattle.std.proofs.Common.{sym, ◌∙◌}
use Rattle.proof_archive.proofs.Whole.{bundle-unseen, bundle-not_seen, bundle-seen, bundle-made, some-seen, stays-seen, rises-seen}
use Rattle.proof_archive.proofs.archive.Archive.bundle.Goals as goal

pub returns-in_default-clause-value : goal.returns-in_default-clause-value
returns-in_default-clause-value g c given =
    rw (← c.self.view_is) (bundle-unseen (g.H.Hash32.digest_of c.self.inside.hash) c.self.inside.log
    c.self.inside.defaults c.self.inside.coins c.self.invariant c.args.coin c.args.tip
    (sym c.coin.ensures ∙ c.in_default.is))

pub returns-then-not-is_tip_in-clause-value : goal.returns-then-not-is_tip_in-clause-value
returns-then-not-is_tip_in-clause-value g c given =
    rw (← c.self.view_is) (bundle-not_seen (g.H.Hash32.digest_of c.self.inside.hash) c.self.inside.log
    c.self.inside.defaults c.self.inside.coins c.self.invariant c.args.coin c.in-Some.made
    (sym c.coin.ensures ∙ c.in-Some.is) c.args.tip c.is_tip_in.result c.is_tip_in.ensures c.if-not-is_tip_in.true)

pub returns-clause-value : goal.returns-clause-value
returns-clause-value g c given =
    rw (← c.self.view_is) (bundle-seen (g.H.Hash32.digest_of c.self.inside.hash) c.self.inside.log
    c.self.inside.defaults c.self.inside.coins c.self.invariant c.args.coin c.in-Some.made
    (sym c.coin.ensures ∙ c.in-Some.is) c.args.tip c.is_tip_in.result c.is_tip_in.ensures c.if-not-is_tip_in.false
    c.in_ok-openings_in.field-0 c.in_ok-openings_in.ensures.openings)

pub returns-clause-history : goal.returns-clause-history
returns-clause-history g c =
    rw (← c.self.view_is) (stays-seen (g.H.Hash32.digest_of c.self.inside.hash) c.self.inside.log
    c.self.inside.defaults c.self.inside.coins c.self.invariant c.args.coin c.in-Some.made
    (sym c.coin.ensures ∙ c.in-Some.is) c.args.tip c.is_tip_in.result c.is_tip_in.ensures c.if-not-is_tip_in.false
    c.in_ok-openings_in.field-0 c.in_ok-openings_in.ensures.openings)

pub returns-clause-rising : goal.returns-clause-rising
returns-clause-rising g c =
    rises-seen (g.H.Hash32.digest_of c.self.inside.hash) c.self.inside.log c.self.inside.defaults c.self.inside.coins
    c.self.invariant c.args.coin c.in-Some.made (sym c.coin.ensures ∙ c.in-Some.is) c.args.tip c.is_tip_in.result
    c.is_tip_in.ensures c.if-not-is_tip_in.false c.in_ok-openings_in.field-0 c.in_ok-openings_in.ensures.openings

pub returns-clause-count : goal.returns-clause-count
returns-clause-count g c = c.in_ok-openings_in.ensures.spellable.count

pub returns-clause-lengths : goal.returns-clause-lengths
returns-clause-lengths g c = c.in_ok-openings_in.ensures.spellable.lengths

pub returns-in_err-openings_in-clause-memory : goal.returns-in_err-openings_in-clause-memory
returns-in_err-openings_in-clause-memory g c given =
    rw (← c.self.view_is) (bundle-made (g.H.Hash32.digest_of c.self.inside.hash) c.self.inside.log
    c.self.inside.defaults c.self.inside.coins c.self.invariant c.args.coin c.in-Some.made
    (sym c.coin.ensures ∙ c.in-Some.is) c.args.tip c.is_tip_in.result c.is_tip_in.ensures c.if-not-is_tip_in.false)

pub returns-in_err-openings_in-clause-some : goal.returns-in_err-openings_in-clause-some
returns-in_err-openings_in-clause-some g c given =
    rw (← c.self.view_is) (some-seen c.self.inside.coins c.args.coin c.args.tip c.in_err-openings_in.ensures.some)
