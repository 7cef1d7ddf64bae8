use Rattle.std.proofs.Common.{rules}
use Rattle.std.proofs.lemmas.Result.{IfOk-weaker}
use Rattle.world_scene.proofs.Index.{put_index}
use Rattle.world_scene.proofs.Nodes.{spells_at, fits_at, spells_set, hash_set, cuts_at}
use Rattle.world_scene.proofs.node_list.Nodes.cut.Goals as goal

pub cut-requires-clause-spells : goal.cut-requires-clause-spells
cut-requires-clause-spells g c =
    spells_at c.self.inside.entries.items c.args.self.now c.self.view_is c.args.n
    c.index_mut-entry.result.now (search rules) c.requires.inside c.requires.spells

pub cut-requires-clause-fits : goal.cut-requires-clause-fits
cut-requires-clause-fits g c =
    fits_at c.self.inside.entries.items c.args.self.now c.self.view_is c.args.n
    c.index_mut-entry.result.now (search rules) c.requires.inside c.args.order.now c.requires.fits

pub invariant_of-self : goal.invariant_of-self
invariant_of-self g c =
    put_index c.self.inside.places c.self.inside.wallet_accounts.items c.self.inside.entries.items c.args.n
    c.index_mut-entry.result.now c.cut.new.self (search rules) c.cut.ensures.declared c.self.invariant

pub returns-clause-cuts : goal.returns-clause-cuts
returns-clause-cuts g c =
    IfOk-weaker c.cut.result _ _
    (λ end. cuts_at c.self.inside.entries.items c.args.self.now c.self.view_is c.args.n
    c.index_mut-entry.result.now (search rules) c.requires.inside c.cut.new.self
    g.H.Hash32.digest_of c.args.log.now.log c.args.calls c.args.outcome.now c.args.order.now end)
    c.cut.ensures.cuts

pub returns-clause-spells : goal.returns-clause-spells
returns-clause-spells g c =
    IfOk-weaker c.cut.result _ _
    (λ end. spells_set c.self.inside.entries.items c.args.self.now c.self.view_is c.args.n
    c.index_mut-entry.result.now (search rules) c.requires.inside c.cut.new.self
    c.requires.spells)
    c.cut.ensures.spells

pub returns-clause-hash : goal.returns-clause-hash
returns-clause-hash g c =
    hash_set c.self.inside.entries.items c.args.self.now c.self.view_is c.args.n
    c.index_mut-entry.result.now (search rules) c.requires.inside c.cut.new.self
    c.cut.ensures.hash
