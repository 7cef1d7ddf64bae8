use Rattle.merkle_pages.proofs.WayLaws.{SetsWay-then}
use Rattle.merkle_pages.proofs.way.put_on_way.Goals as goal

pub returns-in-Ok-clause-set : goal.returns-in-Ok-clause-set
returns-in-Ok-clause-set c =
    SetsWay-then c.args.coin c.args.digests.now c.args.defaults.now c.args.pages.now c.put_in_room.new.pages
    c.write_way.new.pages c.sweep_way.new.pages c.put_in_room.ensures.nodes_stay c.write_way.ensures
    c.sweep_way.ensures
