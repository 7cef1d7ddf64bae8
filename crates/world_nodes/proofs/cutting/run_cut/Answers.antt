use Rattle.world_nodes.proofs.Words.{Some, None, subst, Stop, Doing, IsGiven, node_does, bare_node, up_halves, up_hash, UpDid}
use Rattle.world_nodes.proofs.Ready.{closed-never}
use Rattle.world_nodes.proofs.cutting.run_cut.Goals as goal

pub returns-in-Ok : goal.returns-in-Ok
returns-in-Ok g c =
    let node = c.in_ok-node.node in
    let new = c.run_up-ran.new.node in
    let deed : g.row.H.Denot → Doing = λ h. node_does (g.H.Hash32.digest_of h) c.args.log.now.log
    (bare_node (up_halves node)) c.args.order.now in
    record {
      opened = node;
      ran = new;
      opens = c.in_ok-node.ensures.opens;
      did = subst (λ (h : g.row.H.Denot). UpDid (deed h) node None new) c.in_ok-node.ensures.hash c.in-Ok.ensures.did;
      gives = subst (λ (h : g.row.H.Denot). IsGiven (deed h).response c.in-Ok.given) c.in_ok-node.ensures.hash
          c.in-Ok.ensures.gives;
      down = c.take_down-down.ensures;
    }

pub returns-in-DeviceFault : goal.returns-in-DeviceFault
returns-in-DeviceFault g c =
    let node = c.in_ok-node.node in
    let new = c.run_up-ran.new.node in
    let deed : g.row.H.Denot → Doing = λ h. node_does (g.H.Hash32.digest_of h) c.args.log.now.log
    (bare_node (up_halves node)) c.args.order.now in
    let did = subst (λ (s : Stop). UpDid (deed (up_hash node)) node (Some s) new)
    c.in-DeviceFault.is c.in-Err.ensures.did in
    record {
      opened = node;
      ran = new;
      opens = c.in_ok-node.ensures.opens;
      did = subst (λ (h : g.row.H.Denot). UpDid (deed h) node (Some _) new) c.in_ok-node.ensures.hash did;
      gives = tt;
      down = c.take_down-down.ensures;
    }

-- a node that was just opened is open
pub unreachable-requires : goal.unreachable-requires
unreachable-requires g c =
    closed-never (g.H.Hash32.digest_of c.args.hash) c.args.down c.in_ok-node.node c.run_up-ran.new.node
    (node_does (g.H.Hash32.digest_of (up_hash c.in_ok-node.node)) c.args.log.now.log
    (bare_node (up_halves c.in_ok-node.node)) c.args.order.now) c.in-Err.stop
    c.in_ok-node.ensures.opens c.in-Closed.is c.in-Err.ensures.did
