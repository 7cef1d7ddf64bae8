use Rattle.world_nodes.proofs.Words.{◌≡◌, List, subst, sym, RootCall, new_node, Up, role_of, Spells, first_note, member_kind, view_of}
use Rattle.world_nodes.proofs.Declared.{declared_comes, declared_told}
use Rattle.world_nodes.proofs.Ready.{opened-unfused}
use Rattle.world_nodes.proofs.ReadyAt.{declared-opens}
use Rattle.world_nodes.proofs.declaring.over.Goals as goal

pub open_up-requires : goal.open_up-requires
open_up-requires g c = declared-opens (g.H.Hash32.digest_of c.args.hash) c.args.member c.args.down c.requires

pub invariant_of-result : goal.invariant_of-result
invariant_of-result g c = rw (c.in_ok-member.ensures, c.in_ok-site.ensures) (
  (declared_comes g.H.Hash32.digest_of c.args.hash c.args.name c.args.account c.args.member
      c.args.down c.in_ok-node.node c.requires c.in_ok-node.ensures.opens c.in_ok-node.ensures.hash).2,
  opened-unfused (g.H.Hash32.digest_of c.args.hash) c.args.down c.in_ok-node.node c.in_ok-node.ensures.opens
      c.requires.unfused,
)

pub returns-clause-node : goal.returns-clause-node
returns-clause-node g c =
    let all = declared_comes g.H.Hash32.digest_of c.args.hash c.args.name c.args.account c.args.member
    c.args.down c.in_ok-node.node c.requires c.in_ok-node.ensures.opens c.in_ok-node.ensures.hash in
    rw (c.in_ok-member.ensures, c.in_ok-site.ensures)
    (subst (λ (os : List RootCall). (view_of c.args.hash c.args.name c.args.account c.args.member (Up
    c.in_ok-node.node) os).node
    ≡ new_node (role_of (member_kind c.args.member)) c.args.name c.args.account (first_note c.args.down))
    (sym c.new-2.ensures.items) all.0)

pub returns-clause-spells : goal.returns-clause-spells
returns-clause-spells g c =
    let all = declared_comes g.H.Hash32.digest_of c.args.hash c.args.name c.args.account c.args.member
    c.args.down c.in_ok-node.node c.requires c.in_ok-node.ensures.opens c.in_ok-node.ensures.hash in
    rw (c.in_ok-member.ensures, c.in_ok-site.ensures)
    (subst (λ (os : List RootCall). Spells (view_of c.args.hash c.args.name c.args.account c.args.member (Up
    c.in_ok-node.node) os))
    (sym c.new-2.ensures.items) all.1)

pub returns-clause-notes_disk : goal.returns-clause-notes_disk
returns-clause-notes_disk g c =
    rw (c.in_ok-member.ensures, c.in_ok-site.ensures)
    (declared_told g.H.Hash32.digest_of c.args.hash c.args.member c.args.down c.in_ok-node.node c.requires
    c.in_ok-node.ensures.opens).0

pub returns-clause-leaves_disk : goal.returns-clause-leaves_disk
returns-clause-leaves_disk g c =
    rw (c.in_ok-member.ensures, c.in_ok-site.ensures)
    (declared_told g.H.Hash32.digest_of c.args.hash c.args.member c.args.down c.in_ok-node.node c.requires
    c.in_ok-node.ensures.opens).1
