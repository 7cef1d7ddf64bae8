use Rattle.std.proofs.Common.{rules}
use Rattle.std.proofs.lemmas.Result.{on_ok_weaker}
use Rattle.world_scene.proofs.Index.{put_index}
use Rattle.world_scene.proofs.Nodes.{spells_at, spells_set, hash_set, crashes_at}
use Rattle.world_scene.proofs.node_list.Nodes.crash.Goals as goal

pub crash-requires-clause-spells : goal.crash-requires-clause-spells
crash-requires-clause-spells g c =
    spells_at c.self.inside.entries.items c.args.self.now c.self.view_is c.args.n
    c.index_mut-entry.result.now (search rules) c.requires.inside c.requires.spells

pub invariant_of-self : goal.invariant_of-self
invariant_of-self g c =
    put_index c.self.inside.places c.self.inside.wallet_accounts.items c.self.inside.entries.items c.args.n
    c.index_mut-entry.result.now c.crash.new.self (search rules) c.crash.ensures.declared c.self.invariant

pub returns-clause-crashes : goal.returns-clause-crashes
returns-clause-crashes g c =
    on_ok_weaker c.crash.result
    (crashes_at c.self.inside.entries.items c.args.self.now c.self.view_is c.args.n
    c.index_mut-entry.result.now (search rules) c.requires.inside c.crash.new.self
    c.args.outcome.now)
    c.crash.ensures.crashes

pub returns-clause-spells : goal.returns-clause-spells
returns-clause-spells g c =
    on_ok_weaker c.crash.result
    (spells_set c.self.inside.entries.items c.args.self.now c.self.view_is c.args.n
    c.index_mut-entry.result.now (search rules) c.requires.inside c.crash.new.self
    c.requires.spells)
    c.crash.ensures.spells

pub returns-clause-hash : goal.returns-clause-hash
returns-clause-hash g c =
    hash_set c.self.inside.entries.items c.args.self.now c.self.view_is c.args.n
    c.index_mut-entry.result.now (search rules) c.requires.inside c.crash.new.self
    c.crash.ensures.hash
