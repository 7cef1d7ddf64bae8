use Rattle.std.proofs.Common.{rules}
use Rattle.std.proofs.lemmas.Result.{IfOk-weaker}
use Rattle.world_scene.proofs.Index.{put_index}
use Rattle.world_scene.proofs.Nodes.{spells_at, fits_at, spells_set, hash_set, runs_at}
use Rattle.world_scene.proofs.node_list.Nodes.run.Goals as goal

pub run-requires-clause-spells : goal.run-requires-clause-spells
run-requires-clause-spells g c =
    spells_at c.self.inside.entries.items c.args.self.now c.self.view_is c.args.n
    c.index_mut-entry.result.now (search rules) c.requires.inside c.requires.spells

pub run-requires-clause-fits : goal.run-requires-clause-fits
run-requires-clause-fits g c =
    fits_at c.self.inside.entries.items c.args.self.now c.self.view_is c.args.n
    c.index_mut-entry.result.now (search rules) c.requires.inside c.args.order.now c.requires.fits

pub invariant_of-self : goal.invariant_of-self
invariant_of-self g c =
    put_index c.self.inside.places c.self.inside.wallet_accounts.items c.self.inside.entries.items c.args.n
    c.index_mut-entry.result.now c.run.new.self (search rules) c.run.ensures.declared c.self.invariant

pub returns-clause-runs : goal.returns-clause-runs
returns-clause-runs g c =
    IfOk-weaker c.run.result _ _
    (λ given. runs_at c.self.inside.entries.items c.args.self.now c.self.view_is c.args.n
    c.index_mut-entry.result.now (search rules) c.requires.inside c.run.new.self
    g.H.Hash32.digest_of c.args.log.now.log c.args.order.now given)
    c.run.ensures.runs

pub returns-clause-spells : goal.returns-clause-spells
returns-clause-spells g c =
    IfOk-weaker c.run.result _ _
    (λ given. spells_set c.self.inside.entries.items c.args.self.now c.self.view_is c.args.n
    c.index_mut-entry.result.now (search rules) c.requires.inside c.run.new.self
    c.requires.spells)
    c.run.ensures.spells

pub returns-clause-hash : goal.returns-clause-hash
returns-clause-hash g c =
    hash_set c.self.inside.entries.items c.args.self.now c.self.view_is c.args.n
    c.index_mut-entry.result.now (search rules) c.requires.inside c.run.new.self
    c.run.ensures.hash
